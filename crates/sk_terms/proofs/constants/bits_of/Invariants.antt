use Rattle.std.proofs.Common.{◌≡◌, drop, bit_or}
use Rattle.sk_terms.specs.Constants.{bits_of}
use Rattle.sk_terms.proofs.constants.bits_of.Given as goal

abbrev pub invariant-loop-part : goal.invariant-loop-part
invariant-loop-part l = bit_or l.bits (bits_of (drop l.part-index l.parts)) ≡ bits_of l.parts
