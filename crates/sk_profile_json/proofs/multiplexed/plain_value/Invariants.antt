use Rattle.std.proofs.Common.{◌≡◌, drop, map}
use Rattle.std.specs.Prelude.{find}
use Rattle.sk_profile_json.specs.EntryViews.{named_view}
use Rattle.sk_profile_json.specs.Multiplexed.{is_plain_as}
use Rattle.sk_profile_json.proofs.multiplexed.plain_value.Given as goal

abbrev pub invariant-loop-it : goal.invariant-loop-it
invariant-loop-it l =
    find (is_plain_as l.default l.name) (drop l.it-index (map named_view l.named)) ≡ find (is_plain_as l.default l.name) (map named_view l.named)
