use Rattle.std.proofs.Common.{◌≡◌, length}
use Rattle.sk_policy_text.specs.PolicyMade.{first_expectation}
use Rattle.sk_policy_text.proofs.stated.first_expectation.Given as goal

abbrev pub invariant-loop-first : goal.invariant-loop-first
invariant-loop-first l = first_expectation l.left ≡ first_expectation l.text

abbrev pub decreases-loop-first : goal.decreases-loop-first
decreases-loop-first l = length l.left
