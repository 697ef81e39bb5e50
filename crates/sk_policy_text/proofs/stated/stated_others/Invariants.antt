use Rattle.std.proofs.Common.{◌≡◌, length}
use Rattle.sk_policy_text.specs.PolicyRows.{sentences_of, stated_others}
use Rattle.sk_policy_text.proofs.stated.stated_others.Given as goal

abbrev pub invariant-loop-first : goal.invariant-loop-first
invariant-loop-first l = stated_others (sentences_of l.left) ≡ stated_others (sentences_of l.text)

abbrev pub decreases-loop-first : goal.decreases-loop-first
decreases-loop-first l = length l.left
