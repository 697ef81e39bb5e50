use Rattle.std.proofs.Common.{◌≤◌, length}
use Rattle.sk_policy.proofs.Ending.{Writes, choice_part, choice_end}
use Rattle.sk_policy.proofs.line.put_line.Given as goal

abbrev pub invariant-loop-choice : goal.invariant-loop-choice
invariant-loop-choice l = record {
  few : length l.code ≤ 4096;
  more : length l.fn.code ≤ length l.code;
  writes : Writes (choice_part l.failed) (choice_end l.held l.failed) l.choices l.left l.fn.code l.code;
}

abbrev pub decreases-loop-choice : goal.decreases-loop-choice
decreases-loop-choice l = length l.left
