use Rattle.std.proofs.Common.{◌≡◌, not, drop}
use Rattle.std.specs.List.{position_from}
use Rattle.json.specs.Strict.{keys}
use Rattle.json.specs.Value.{members_view}
use Rattle.sk_profile_json.specs.Fields.{is_known}
use Rattle.sk_profile_json.proofs.fields.other_key.Given as goal

abbrev pub invariant-loop-place : goal.invariant-loop-place
invariant-loop-place l =
    position_from (λ key. not (is_known l.known key)) l.place (keys (members_view (drop l.place l.members)))
    ≡ position_from (λ key. not (is_known l.known key)) 0 (keys (members_view l.members))
