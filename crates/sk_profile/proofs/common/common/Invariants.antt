use Rattle.std.proofs.Common.{◌-◌, ◌^◌}
use Rattle.sk_profile.proofs.Least.{NoneBelow}
use Rattle.sk_profile.proofs.common.common.Given as goal

abbrev pub invariant-loop-number : goal.invariant-loop-number
invariant-loop-number l = NoneBelow l.one l.other l.from

abbrev pub decreases-loop-number : goal.decreases-loop-number
decreases-loop-number l = 2 ^ 64 - l.from
