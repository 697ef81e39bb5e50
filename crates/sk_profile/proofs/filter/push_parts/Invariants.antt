use Rattle.std.proofs.Common.{length}
use Rattle.sk_profile.proofs.Whole.{SoFar}
use Rattle.sk_profile.proofs.filter.push_parts.Given as goal

abbrev pub invariant-loop-part : goal.invariant-loop-part
invariant-loop-part l = SoFar l.profile l.left l.fn.code.items l.code.items

abbrev pub decreases-loop-part : goal.decreases-loop-part
decreases-loop-part l = length l.left
