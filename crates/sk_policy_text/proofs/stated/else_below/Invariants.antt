use Rattle.std.proofs.Common.{◌≡◌, length}
use Rattle.sk_policy_text.specs.PolicyRows.{sentences_of, else_below}
use Rattle.sk_policy_text.proofs.stated.else_below.Given as goal

abbrev pub invariant-loop-first : goal.invariant-loop-first
invariant-loop-first l = else_below (sentences_of l.left) ≡ else_below (sentences_of l.text)

abbrev pub decreases-loop-first : goal.decreases-loop-first
decreases-loop-first l = length l.left
