use Rattle.std.proofs.Common.{◌/◌, ◌%◌, ◌^◌, bit_and, ap, sym, ◌∙◌}
use Rattle.sk_terms.specs.Terms.{register_of, says}
use Rattle.sk_terms.proofs.Masks.{high_is, high_at_least, high_some}
use Rattle.sk_terms.proofs.meaning.on_high.Goals as goal

pub returns-in-Is : goal.returns-in-Is
returns-in-Is c = record {
  meant = λ call.
      let r = register_of c.args.register call in
      ap (λ a. says a (bit_and (r / 2 ^ 32 % 2 ^ 32) c.args.mask)) c.in-Is.is
      ∙ high_is r c.args.mask c.in-Is.k _ _ c.ranges.mask.fits c.upper-bits.ensures.upper c.upper.ensures.upper
      ∙ sym (c.is.ensures.holds call);
}

pub returns-in-AtLeast : goal.returns-in-AtLeast
returns-in-AtLeast c = record {
  meant = λ call.
      let r = register_of c.args.register call in
      ap (λ a. says a (bit_and (r / 2 ^ 32 % 2 ^ 32) c.args.mask)) c.in-AtLeast.is
      ∙ high_at_least r c.args.mask c.in-AtLeast.k _ _ c.ranges.mask.fits c.upper-bits.ensures.upper c.upper-in-AtLeast.ensures.upper
      ∙ sym (c.at_least.ensures.holds call);
}

pub returns-in-SomeOf : goal.returns-in-SomeOf
returns-in-SomeOf c = record {
  meant = λ call.
      let r = register_of c.args.register call in
      ap (λ a. says a (bit_and (r / 2 ^ 32 % 2 ^ 32) c.args.mask)) c.in-SomeOf.is
      ∙ high_some r c.args.mask c.in-SomeOf.some _ c.ranges.mask.fits c.upper-in-SomeOf.ensures.upper
      ∙ sym (c.some_of.ensures.holds call);
}
