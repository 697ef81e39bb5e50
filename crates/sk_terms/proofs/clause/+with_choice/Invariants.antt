use Rattle.std.proofs.Common.{length}
use Rattle.sk_terms.proofs.clause.+with_choice.Given as goal

abbrev pub decreases-with_choice : goal.decreases-with_choice
decreases-with_choice l = length l.choices.items
