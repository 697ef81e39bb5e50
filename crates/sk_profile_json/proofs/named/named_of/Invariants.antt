use Rattle.std.proofs.Common.{◌≡◌, drop, map}
use Rattle.json.specs.Value.{value_view}
use Rattle.sk_profile_json.specs.EntryViews.{named_view}
use Rattle.sk_profile_json.specs.Wholes.{before, named_from}
use Rattle.sk_profile_json.proofs.named.named_of.Given as goal

abbrev pub invariant-loop-place : goal.invariant-loop-place
invariant-loop-place l =
    before (map named_view l.named.items) (named_from l.context l.place (drop l.place (map value_view l.entries)))
    ≡ named_from l.context 0 (map value_view l.entries)
