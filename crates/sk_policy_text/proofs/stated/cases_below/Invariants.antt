use Rattle.std.proofs.Common.{◌≡◌, ◌≤◌, ◌+◌, length}
use Rattle.sk_policy_text.specs.PolicyRows.{sentences_of, cases_below}
use Rattle.sk_policy_text.proofs.stated.cases_below.Given as goal

abbrev pub invariant-loop-first : goal.invariant-loop-first
invariant-loop-first l = record {
  count : l.count + cases_below (sentences_of l.left) ≡ cases_below (sentences_of l.text);
  few : l.count + length l.left ≤ length l.text;
}

abbrev pub decreases-loop-first : goal.decreases-loop-first
decreases-loop-first l = length l.left
