use Rattle.std.proofs.Common.{◌≡◌, map, slice_get, length}
use Rattle.sk_profile.specs.Clashes.{entries_for}
use Rattle.sk_profile.specs.Profiles.{Rule, rules_for}
use Rattle.sk_profile.specs.Views.{rule_of, part_of}
use Rattle.sk_profile.proofs.from_rules.entry_at.Given as goal

abbrev pub invariant-loop-rule : goal.invariant-loop-rule
invariant-loop-rule l =
    slice_get (map (λ (rule : Rule). rule.entry) (rules_for l.default (map rule_of l.rules) l.nr)) l.left
    ≡ slice_get (entries_for l.default (part_of l.part) l.nr) l.place

abbrev pub decreases-loop-rule : goal.decreases-loop-rule
decreases-loop-rule l = length l.rules
