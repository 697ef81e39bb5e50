use Rattle.std.proofs.Common.{◌≡◌, drop, map, find}
use Rattle.sk_profile.specs.Views.{rule_of}
use Rattle.sk_profile_json.specs.Deciding.{is_met}
use Rattle.sk_profile_json.proofs.deciding.met_rule.Given as goal

abbrev pub invariant-loop-rule : goal.invariant-loop-rule
invariant-loop-rule l =
    find (is_met l.default l.nr l.call) (drop l.rule-index (map rule_of l.rules)) ≡ find (is_met l.default l.nr l.call) (map rule_of l.rules)
