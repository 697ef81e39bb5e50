use Rattle.std.proofs.Common.{◌≡◌, ◌++◌, drop, map}
use Rattle.std.specs.List.{filter_map}
use Rattle.sk_profile.specs.Views.{rule_of}
use Rattle.sk_profile_json.specs.Partings.{parting_for}
use Rattle.sk_profile_json.proofs.parting.push_partings.Given as goal

abbrev pub invariant-loop-rule : goal.invariant-loop-rule
invariant-loop-rule l =
    l.partings.items ++ filter_map (parting_for l.default l.one l.other) (drop l.rule-index (map rule_of l.rules))
    ≡ l.fn.partings.items ++ filter_map (parting_for l.default l.one l.other) (map rule_of l.rules)
