use Rattle.std.proofs.Common.{◌≡◌, Some, drop, map}
use Rattle.std.specs.Prelude.{filter}
use Rattle.sk_filter.specs.Preceding.{preceding_of}
use Rattle.sk_profile_json.specs.EntryViews.{named_view}
use Rattle.sk_profile_json.specs.Multiplexed.{is_named, value_in}
use Rattle.sk_profile_json.proofs.multiplexed.strictest.Given as goal

abbrev pub invariant-loop-it : goal.invariant-loop-it
invariant-loop-it l =
    preceding_of l.first (map value_in (filter (is_named l.name) (drop l.it-index (map named_view l.named))))
    ≡ preceding_of (Some l.default) (map value_in (filter (is_named l.name) (map named_view l.named)))
