use Rattle.std.proofs.Common.{length}
use Rattle.sk_policy_text.proofs.ConditionsWhole.{EachLeft}
use Rattle.sk_policy_text.proofs.condition.read_each.Given as goal

abbrev pub invariant-loop-more : goal.invariant-loop-more
invariant-loop-more l = EachLeft l.fn.tokens l.fn.choices.items l.choices.items l.rest

abbrev pub decreases-loop-more : goal.decreases-loop-more
decreases-loop-more l = length l.rest
