use Rattle.std.proofs.Common.{arith, refl}
use Rattle.sk_profile.specs.Sayings.{Single}
use Rattle.sk_profile.specs.CodeViews.{arm_of}
use Rattle.sk_profile.proofs.Emitting.{one_arm}
use Rattle.sk_profile.proofs.pieces.push_single.Goals as goal

pub returns : goal.returns
returns c = record {
  piece = record {
    piece = Single (arm_of c.args.arm.now);
    code = one_arm _ _ _ _ (grind (arith, c.in_ok-push.ensures.items, c.in_ok-push_conditions.ensures.code, c.deref.ensures.value, c.answer.ensures.insn));
    has = refl;
    good = c.requires.arm.0.0;
  };
}
