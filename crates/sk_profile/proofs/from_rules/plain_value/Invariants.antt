use Rattle.std.proofs.Common.{◌≡◌, map, length}
use Rattle.sk_profile.specs.Profiles.{plain_rule}
use Rattle.sk_profile.specs.Views.{rule_of}
use Rattle.sk_profile.proofs.from_rules.plain_value.Given as goal

abbrev pub invariant-loop-rule : goal.invariant-loop-rule
invariant-loop-rule l = plain_rule l.default (map rule_of l.left) l.nr ≡ plain_rule l.default (map rule_of l.rules) l.nr

abbrev pub decreases-loop-rule : goal.decreases-loop-rule
decreases-loop-rule l = length l.left
