use Rattle.sk_world.proofs.WorkedIds.{worked_setuid, worked_setresuid, worked_exec, worked_permission, worked_numbers}
use Rattle.sk_world.proofs.laws.worked_ids.Goals as goal

pub returns : goal.returns
returns c = record { setuid = worked_setuid; setresuid = worked_setresuid; exec = worked_exec; permission = worked_permission; numbers = worked_numbers }
