use Rattle.std.proofs.Common.{◌≡◌, length, map, flat_map}
use Rattle.sk_profile.specs.Rows.{marks_of_rule, next_of}
use Rattle.std.specs.Prelude.{None}
use Rattle.sk_profile.specs.Views.{rule_of}
use Rattle.sk_profile.proofs.marks.next_of_rules.Given as goal

abbrev pub invariant-loop-rule : goal.invariant-loop-rule
invariant-loop-rule l = next_of l.from l.best (flat_map marks_of_rule (map rule_of l.left)) ≡ next_of l.from None (flat_map marks_of_rule (map rule_of l.rules))

abbrev pub decreases-loop-rule : goal.decreases-loop-rule
decreases-loop-rule l = length l.left
