use Rattle.std.proofs.Common.{length}
use Rattle.sk_terms.proofs.choices.+with_either.Given as goal

abbrev pub decreases-with_either : goal.decreases-with_either
decreases-with_either l = length l.terms.items
