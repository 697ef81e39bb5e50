use Rattle.std.proofs.Common.{◌≡◌, ◌+◌, length, drop}
use Rattle.std.specs.Prelude.{All}
use Rattle.sk_profile.specs.declared.saying.Arm.{Arm}
use Rattle.sk_profile.specs.CodeViews.{arm_of, IsArmOfCode}
use Rattle.sk_profile.specs.Clashes.{ClashesWithNone}
use Rattle.sk_profile.proofs.clash.clash_with.Given as goal

abbrev pub invariant-loop-other : goal.invariant-loop-other
invariant-loop-other l = record {
  left : l.left ≡ drop l.place l.others;
  place : l.place + length l.left ≡ length l.others;
  good : All IsArmOfCode l.left;
  so_far : All (λ (other : Arm). ClashesWithNone l.narrow (arm_of l.arm) (arm_of other)) l.left → All (λ (other : Arm). ClashesWithNone l.narrow (arm_of l.arm) (arm_of other)) l.others;
}

abbrev pub decreases-loop-other : goal.decreases-loop-other
decreases-loop-other l = length l.left
