use Rattle.std.proofs.Common.{length}
use Rattle.sk_terms.proofs.merging.+same_choices.Given as goal

abbrev pub decreases-same_choices : goal.decreases-same_choices
decreases-same_choices l = length l.one.now
