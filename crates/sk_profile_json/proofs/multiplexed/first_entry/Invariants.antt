use Rattle.std.proofs.Common.{◌≡◌, drop, map}
use Rattle.std.specs.Prelude.{find}
use Rattle.sk_profile_json.specs.EntryViews.{named_view}
use Rattle.sk_profile_json.specs.Multiplexed.{is_named}
use Rattle.sk_profile_json.proofs.multiplexed.first_entry.Given as goal

abbrev pub invariant-loop-it : goal.invariant-loop-it
invariant-loop-it l = find (is_named l.name) (drop l.it-index (map named_view l.named)) ≡ find (is_named l.name) (map named_view l.named)
