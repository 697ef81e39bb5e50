use Rattle.std.proofs.Common.{◌≡◌, ◌++◌, drop, map}
use Rattle.json.specs.Value.{value_view}
use Rattle.sk_profile_json.specs.EntryViews.{named_view}
use Rattle.sk_profile_json.specs.Entries.{all_named}
use Rattle.sk_profile_json.proofs.named.push_names.Given as goal

abbrev pub invariant-loop-name : goal.invariant-loop-name
invariant-loop-name l =
    map named_view l.named.items ++ all_named l.entry l.conditions l.value (drop l.name-index (map value_view l.names))
    ≡ map named_view l.fn.named.items ++ all_named l.entry l.conditions l.value (map value_view l.names)
