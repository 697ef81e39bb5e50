use Rattle.std.proofs.Common.{◌+◌, ◌*◌, length}
use Rattle.sk_policy_text.proofs.ConditionsChoosing.{SomeLeft}
use Rattle.sk_policy_text.proofs.alternatives.+alternatives.Given as goal

abbrev pub decreases-read_alternative : goal.decreases-read_alternative
decreases-read_alternative l = 2 * length l.tokens.now

abbrev pub decreases-read_alternatives : goal.decreases-read_alternatives
decreases-read_alternatives l = 2 * length l.tokens.now + 1

abbrev pub invariant-read_alternatives-loop-more : goal.invariant-read_alternatives-loop-more
invariant-read_alternatives-loop-more l = SomeLeft l.fn.tokens l.fn.terms.items l.terms.items l.rest

abbrev pub decreases-read_alternatives-loop-more : goal.decreases-read_alternatives-loop-more
decreases-read_alternatives-loop-more l = length l.rest
