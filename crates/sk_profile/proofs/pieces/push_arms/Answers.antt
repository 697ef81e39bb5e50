use Rattle.std.proofs.Common.{List, ◌∷◌, map, take, drop, subst, sym}
use Rattle.std.specs.Prelude.{All}
use Rattle.std.proofs.lemmas.List.Elements.{All-tail, All-drop}
use Rattle.sk_profile.specs.declared.saying.Arm.{Arm as ArmOfCode}
use Rattle.sk_profile.specs.CodeViews.{arm_of, IsArmOfCode}
use Rattle.sk_profile.proofs.Emitting.{PutsSome, one_piece_more, first_arms, rest_of}
use Rattle.sk_profile.proofs.pieces.push_arms.Goals as goal

pub loop-arm-preserved : goal.loop-arm-preserved
loop-arm-preserved c =
    let rest = c.in-Some.rest.now in
    let n = c.in_ok-joined.joined in
    let steps = c.in-Some.ensures.cases.0 in
    let good : All IsArmOfCode (drop n rest) = All-drop IsArmOfCode n rest (All-tail IsArmOfCode _ _ (subst (All IsArmOfCode) steps c.loop-arm.invariant.good)) in
    let puts : PutsSome c.args.narrow c.args.code.now.items c.push_piece.new.code.items (map arm_of c.args.arms.now) (map arm_of (drop n rest)) =
    one_piece_more c.args.narrow _ _ _ _ _ _ (arm_of c.in-Some.arm.now ∷ map arm_of (take n rest)) c.loop-arm.invariant.puts c.in_ok-joined.ensures.piece (first_arms _ c.in-Some.arm.now rest n steps) in
    subst (λ (left : List ArmOfCode). record { good : All IsArmOfCode left; puts : PutsSome c.args.narrow c.args.code.now.items c.push_piece.new.code.items (map arm_of c.args.arms.now) (map arm_of left) })
    (sym (rest_of n rest)) (record { good = good; puts = puts })
