use Rattle.std.proofs.Common.{map, length}
use Rattle.std.specs.Prelude.{All}
use Rattle.sk_profile.specs.CodeViews.{arm_of, IsArmOfCode}
use Rattle.sk_profile.proofs.Emitting.{PutsSome}
use Rattle.sk_profile.proofs.pieces.push_arms.Given as goal

abbrev pub invariant-loop-arm : goal.invariant-loop-arm
invariant-loop-arm l = record {
  good : All IsArmOfCode l.left;
  puts : PutsSome l.narrow l.initial.code.items l.code.items (map arm_of l.arms) (map arm_of l.left);
}

abbrev pub decreases-loop-arm : goal.decreases-loop-arm
decreases-loop-arm l = length l.left
