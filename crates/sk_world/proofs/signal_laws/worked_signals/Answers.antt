use Rattle.sk_world.proofs.WorkedSignals.{worked_actions, worked_generation, worked_delivery, worked_calls}
use Rattle.sk_world.proofs.signal_laws.worked_signals.Goals as goal

pub returns : goal.returns
returns c = record { actions = worked_actions; generation = worked_generation; delivery = worked_delivery; calls = worked_calls }
