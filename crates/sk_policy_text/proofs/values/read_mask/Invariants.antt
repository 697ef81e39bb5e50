use Rattle.std.proofs.Common.{length}
use Rattle.sk_policy_text.proofs.ConditionsValues.{FactorsLeft}
use Rattle.sk_policy_text.proofs.values.read_mask.Given as goal

abbrev pub invariant-loop-more : goal.invariant-loop-more
invariant-loop-more l = FactorsLeft l.fn.tokens l.mask l.rest

abbrev pub decreases-loop-more : goal.decreases-loop-more
decreases-loop-more l = length l.rest
