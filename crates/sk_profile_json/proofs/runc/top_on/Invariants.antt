use Rattle.std.proofs.Common.{◌≡◌, drop, map}
use Rattle.std.specs.List.{filter_map, fold}
use Rattle.sk_profile_json.specs.EntryViews.{named_view}
use Rattle.sk_profile_json.specs.Runc.{greater, known_number, top_on}
use Rattle.sk_profile_json.proofs.runc.top_on.Given as goal

abbrev pub invariant-loop-it : goal.invariant-loop-it
invariant-loop-it l =
    fold greater l.top (filter_map (known_number l.architecture) (drop l.it-index (map named_view l.named))) ≡ top_on l.architecture (map named_view l.named)
