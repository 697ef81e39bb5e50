use Rattle.std.proofs.Common.{◌≡◌, ◌+◌, length, drop, map}
use Rattle.std.specs.Prelude.{All}
use Rattle.sk_profile.specs.CodeViews.{arm_of, IsArmOfCode}
use Rattle.sk_profile.proofs.Clearing.{ArmsAreClear}
use Rattle.sk_profile.proofs.clash.clash.Given as goal

abbrev pub invariant-loop-arm : goal.invariant-loop-arm
invariant-loop-arm l = record {
  left : l.left ≡ drop l.first l.saying.arms.items;
  first : l.first + length l.left ≡ length l.saying.arms.items;
  good : All IsArmOfCode l.left;
  so_far : ArmsAreClear l.saying.narrow (map arm_of l.left) → ArmsAreClear l.saying.narrow (map arm_of l.saying.arms.items);
}

abbrev pub decreases-loop-arm : goal.decreases-loop-arm
decreases-loop-arm l = length l.left
