use Rattle.std.proofs.Common.{◌≡◌, ◌++◌, drop, map}
use Rattle.std.specs.List.{filter_map}
use Rattle.sk_profile.specs.Views.{rule_of}
use Rattle.sk_profile_json.specs.EntryViews.{named_view}
use Rattle.sk_profile_json.specs.Multiplexed.{told_rule}
use Rattle.sk_profile_json.specs.PartViews.{told_view}
use Rattle.sk_profile_json.proofs.multiplexed.push_told_rules.Given as goal

abbrev pub invariant-loop-told : goal.invariant-loop-told
invariant-loop-told l =
    map rule_of l.rules.items ++ filter_map (told_rule l.number l.mask l.default (map named_view l.named)) (drop l.told-index (map told_view l.tells))
    ≡ map rule_of l.fn.rules.items ++ filter_map (told_rule l.number l.mask l.default (map named_view l.named)) (map told_view l.tells)
