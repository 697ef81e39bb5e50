use Rattle.std.proofs.Common.{◌≡◌, length}
use Rattle.sk_policy_text.specs.PolicyRows.{sentences_of, default_of}
use Rattle.sk_policy_text.proofs.stated.default_of.Given as goal

abbrev pub invariant-loop-first : goal.invariant-loop-first
invariant-loop-first l = default_of (sentences_of l.left) ≡ default_of (sentences_of l.text)

abbrev pub decreases-loop-first : goal.decreases-loop-first
decreases-loop-first l = length l.left
