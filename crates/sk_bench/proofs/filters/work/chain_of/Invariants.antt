use Rattle.std.proofs.Common.{◌≡◌, length}
use Rattle.sk_bench.proofs.filters.work.chain_of.Given as goal

abbrev pub invariant-loop-image : goal.invariant-loop-image
invariant-loop-image l = length l.chain ≡ l.image-index
