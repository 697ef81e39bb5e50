use Rattle.std.proofs.Common.{◌∙◌, sym, ap, drop_of_length-le, bit_or}
use Rattle.std.specs.Int.Bits.{or_zero_r}
use Rattle.sk_terms.specs.Constants.{bits_of}
use Rattle.sk_terms.proofs.Parts.{one_or}
use Rattle.sk_terms.proofs.constants.bits_of.Goals as goal

pub loop-part-preserved : goal.loop-part-preserved
loop-part-preserved c = one_or _ _ _ _ _ c.loop-part-test.true c.value-bits.ensures.value c.loop-part.invariant

pub returns : goal.returns
returns c = record {
  bits = sym (or_zero_r c.loop-part.bits)
      ∙ ap (λ ps. bit_or c.loop-part.bits (bits_of ps)) (sym (drop_of_length-le c.args.parts.now c.loop-part-test.false))
      ∙ c.loop-part.invariant;
}
