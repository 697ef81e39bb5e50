use Rattle.std.proofs.Common.{◌-◌}
use Rattle.sk_machine.proofs.Hanging.{IsSentTo}
use Rattle.sk_machine.proofs.ending.send_to_group.Given as goal

abbrev pub invariant-loop-pid : goal.invariant-loop-pid
invariant-loop-pid g l = IsSentTo (g.S.ProcStore.contents l.fn.store) (g.S.ProcStore.contents l.store) l.group l.signal l.after

abbrev pub decreases-loop-pid : goal.decreases-loop-pid
decreases-loop-pid g l = 32767 - l.after
