use Rattle.std.proofs.Common.{length}
use Rattle.sk_policy_text.proofs.ConditionsValues.{NumbersLeft}
use Rattle.sk_policy_text.proofs.values.read_numbers.Given as goal

abbrev pub invariant-loop-more : goal.invariant-loop-more
invariant-loop-more l = NumbersLeft l.fn.tokens l.bits l.rest

abbrev pub decreases-loop-more : goal.decreases-loop-more
decreases-loop-more l = length l.rest
