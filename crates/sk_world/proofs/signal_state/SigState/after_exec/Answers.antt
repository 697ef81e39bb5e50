use Rattle.std.proofs.Common.{arith}
use Rattle.std.proofs.lemmas.List.Edits.{map_over_more}
use Rattle.std.proofs.lemmas.Grind.{common_steps}
use Rattle.sk_world.specs.Actions.{disposition_after_exec}
use Rattle.sk_world.proofs.signal_state.SigState.after_exec.Goals as goal

pub loop-disposition-preserved : goal.loop-disposition-preserved
loop-disposition-preserved c = grind (arith, common_steps, map_over_more disposition_after_exec)
