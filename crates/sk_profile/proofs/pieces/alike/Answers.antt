use Rattle.std.proofs.Common.{arith, refl}
use Rattle.sk_profile.specs.Code.{high}
use Rattle.sk_profile.specs.CodeViews.{Asks}
use Rattle.sk_profile.proofs.Emitting.{one_more}
use Rattle.sk_profile.proofs.pieces.alike.Goals as goal

pub loop-at-preserved : goal.loop-at-preserved
loop-at-preserved c = record {
  few = omega arith;
  like = one_more (Asks c.args.first.index c.args.first.value (high c.args.first.number)) c.args.arms.now c.loop-at.at c.index-arms-at.result
      c.loop-at-test.true c.index-arms-at.is c.loop-at.invariant.like (c.if-not-is_like.ensures.like refl);
}
