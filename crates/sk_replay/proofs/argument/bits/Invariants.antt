use Rattle.std.proofs.Common.{◌≡◌, length}
use Rattle.std.specs.Option.{option_map}
use Rattle.sk_replay.specs.CallWords.{cut_all, left_of, with_bits}
use Rattle.sk_replay.proofs.argument.bits.Given as goal

-- the bits so far and the parts that are left make what all make
abbrev pub invariant-loop-rest : goal.invariant-loop-rest
invariant-loop-rest l = with_bits l.bits (left_of 124 (option_map (λ rest. rest.now) l.rest)) ≡ with_bits 0 (cut_all 124 l.fn.text)

abbrev pub decreases-loop-rest : goal.decreases-loop-rest
decreases-loop-rest l = length (left_of 124 (option_map (λ rest. rest.now) l.rest))
