use Rattle.std.proofs.Common.{◌≤◌, length}
use Rattle.sk_policy.proofs.Ending.{Writes, term_part, term_end}
use Rattle.sk_policy.proofs.line.put_terms.Given as goal

abbrev pub invariant-loop-term : goal.invariant-loop-term
invariant-loop-term l = record {
  few : length l.code ≤ 4096;
  more : length l.fn.code ≤ length l.code;
  writes : Writes (term_part l.held) (term_end l.held l.failed) l.terms l.left l.fn.code l.code;
}

abbrev pub decreases-loop-term : goal.decreases-loop-term
decreases-loop-term l = length l.left
