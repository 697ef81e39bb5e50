use Rattle.std.proofs.Common.{length}
use Rattle.sk_terms.proofs.merging.+same_from_start.Given as goal

abbrev pub decreases-same_from_start : goal.decreases-same_from_start
decreases-same_from_start l = length l.one.now
