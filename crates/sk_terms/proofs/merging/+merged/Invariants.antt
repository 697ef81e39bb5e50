use Rattle.std.proofs.Common.{length}
use Rattle.sk_terms.proofs.merging.+merged.Given as goal

abbrev pub decreases-merged : goal.decreases-merged
decreases-merged l = length l.lines.items
