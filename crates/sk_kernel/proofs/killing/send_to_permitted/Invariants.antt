use Rattle.std.proofs.Common.{◌-◌}
use Rattle.sk_kernel.proofs.Reaching.{IsSentTo}
use Rattle.sk_kernel.proofs.killing.send_to_permitted.Given as goal

abbrev pub invariant-loop-next : goal.invariant-loop-next
invariant-loop-next g l = IsSentTo (g.S.ProcStore.contents l.fn.store) (g.S.ProcStore.contents l.store) l.caller l.creds l.who l.signal l.after

abbrev pub decreases-loop-next : goal.decreases-loop-next
decreases-loop-next g l = 32767 - l.after
