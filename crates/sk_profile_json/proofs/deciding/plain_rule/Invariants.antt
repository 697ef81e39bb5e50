use Rattle.std.proofs.Common.{◌≡◌, ◌&&◌, drop, map, find}
use Rattle.sk_profile.specs.Profiles.{Rule, has_none, is_for}
use Rattle.sk_profile.specs.Views.{rule_of}
use Rattle.sk_profile_json.proofs.deciding.plain_rule.Given as goal

abbrev pub invariant-loop-rule : goal.invariant-loop-rule
invariant-loop-rule l =
    find (λ (rule : Rule). is_for l.default l.nr rule && has_none rule.conditions) (drop l.rule-index (map rule_of l.rules))
    ≡ find (λ (rule : Rule). is_for l.default l.nr rule && has_none rule.conditions) (map rule_of l.rules)
