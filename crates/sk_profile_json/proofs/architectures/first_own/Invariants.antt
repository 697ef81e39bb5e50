use Rattle.std.proofs.Common.{◌≡◌, drop, map}
use Rattle.std.specs.Prelude.{find}
use Rattle.json.specs.Value.{value_view}
use Rattle.sk_profile_json.specs.Architectures.{maps_own}
use Rattle.sk_profile_json.proofs.architectures.first_own.Given as goal

abbrev pub invariant-loop-item : goal.invariant-loop-item
invariant-loop-item l =
    find (maps_own l.context) (drop l.item-index (map value_view l.items)) ≡ find (maps_own l.context) (map value_view l.items)
