use Rattle.std.proofs.Common.{refl}
use Rattle.sk_terms.proofs.Together.{two_conflict, two_equalities, equality_again}
use Rattle.sk_terms.proofs.joining.equal_bits.Goals as goal

pub returns-then-one-other : goal.returns-then-one-other
returns-then-one-other c = record {
  both = λ call. two_conflict c.args.one c.args.other call c.requires.register c.requires.one c.requires.other c.if-one-other.true;
}

pub returns : goal.returns
returns c = record {
  both = λ call.
      two_equalities c.args.one c.args.other _ call c.requires.register c.requires.one c.requires.other refl
      (equality_again c.args.one.inside _ _ c.requires.one) refl refl c.if-bits-one.false c.if-bits-other.false;
}
