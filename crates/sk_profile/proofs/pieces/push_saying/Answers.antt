use Rattle.std.proofs.Common.{arith, take, map, subst, List}
use Rattle.sk_profile.specs.declared.saying.Arm.{Arm as ArmOfCode}
use Rattle.sk_profile.specs.CodeViews.{arm_of, PutsPieces}
use Rattle.sk_profile.proofs.Emitting.{saying_put}
use Rattle.sk_profile.proofs.pieces.push_saying.Goals as goal

pub returns : goal.returns
returns c =
    let puts = subst (λ (arms : List ArmOfCode). PutsPieces c.args.saying.now.narrow c.args.code.now.items c.push_arms.new.code.items (map arm_of (take c.needed.result arms))) c.deref.ensures.value c.in_ok-push_arms.ensures.pieces in record {
      code = saying_put c.args.code.now.items c.push_arms.new.code.items c.push.new.self.items c.args.saying.now c.needed.result c.needed.ensures.rest c.needed.ensures.none puts
          (grind (arith, c.in_ok-push.ensures.items, c.answer.ensures.insn));
    }
