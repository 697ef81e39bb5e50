use Rattle.std.proofs.Common.{◌≡◌, ◌++◌, map, length}
use Rattle.std.specs.Prelude.{All}
use Rattle.sk_profile.specs.CodeViews.{arm_of, IsArmOfCode}
use Rattle.sk_profile.specs.Rows.{IsGood}
use Rattle.sk_profile.specs.Profiles.{arms_for}
use Rattle.sk_profile.specs.Views.{rule_of}
use Rattle.sk_profile.proofs.from_rules.arms.Given as goal

abbrev pub invariant-loop-rule : goal.invariant-loop-rule
invariant-loop-rule l = record {
  left : All IsGood l.left;
  good : All IsArmOfCode l.arms.items;
  arms : map arm_of l.arms.items ++ arms_for l.default (map rule_of l.left) l.nr ≡ arms_for l.default (map rule_of l.rules) l.nr;
}

abbrev pub decreases-loop-rule : goal.decreases-loop-rule
decreases-loop-rule l = length l.left
