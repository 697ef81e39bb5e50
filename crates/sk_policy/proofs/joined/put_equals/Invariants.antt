use Rattle.std.proofs.Common.{◌≡◌, ◌+◌, ◌≤◌, length}
use Rattle.sk_policy.proofs.Ending.{Writes, equal_part, equal_end}
use Rattle.sk_policy.proofs.joined.put_equals.Given as goal

abbrev pub invariant-loop-term : goal.invariant-loop-term
invariant-loop-term l = record {
  count : length l.code + length l.left ≡ length l.fn.code + length l.terms;
  more : length l.fn.code ≤ length l.code;
  writes : Writes (equal_part l.held) (equal_end l.held l.failed) l.terms l.left l.fn.code l.code;
}

abbrev pub decreases-loop-term : goal.decreases-loop-term
decreases-loop-term l = length l.left
