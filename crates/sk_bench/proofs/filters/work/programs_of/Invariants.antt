use Rattle.std.proofs.Common.{◌≡◌, vec_len}
use Rattle.sk_bench.proofs.filters.work.programs_of.Given as goal

abbrev pub invariant-loop-image : goal.invariant-loop-image
invariant-loop-image l = vec_len l.programs ≡ l.image-index
