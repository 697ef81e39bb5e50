use Rattle.std.proofs.Common.{bit_and, ap, ◌∙◌}
use Rattle.sk_filter.specs.Meaning.{holds}
use Rattle.sk_terms.proofs.Masks.{no_such_bits, no_bits}
use Rattle.sk_terms.proofs.meaning.asks.Goals as goal

pub returns-in-Equal : goal.returns-in-Equal
returns-in-Equal c = record {
  asks = λ word.
      ap (λ o. holds o (bit_and word c.args.mask) c.args.k) c.in-Equal.is ∙ no_such_bits word c.args.mask c.args.k c.if-k-mask.true;
}

pub returns-in-CommonBits : goal.returns-in-CommonBits
returns-in-CommonBits c = record {
  asks = λ word.
      ap (λ o. holds o (bit_and word c.args.mask) c.args.k) c.in-CommonBits.is ∙ no_bits word c.args.mask c.args.k c.if-mask-k-eq0.true;
}
