use Rattle.std.proofs.Common.{◌≡◌, ◌==◌, drop}
use Rattle.std.specs.List.{position_from}
use Rattle.sk_profile_json.proofs.context.point.Given as goal

abbrev pub invariant-loop-place : goal.invariant-loop-place
invariant-loop-place l = position_from (λ byte. byte == 46) l.place (drop l.place l.text) ≡ position_from (λ byte. byte == 46) 0 l.text
