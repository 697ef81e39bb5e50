use Rattle.sk_laws.proofs.WorkedWorlds.{worked_forks, worked_ends, worked_reapers, worked_waits, worked_signals}
use Rattle.sk_laws.proofs.world.worked_worlds.Goals as goal

pub returns : goal.returns
returns c = record { forks = worked_forks; ends = worked_ends; reapers = worked_reapers; waits = worked_waits; signals = worked_signals }
