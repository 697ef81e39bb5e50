use Rattle.std.proofs.Common.{◌≡◌, drop, map}
use Rattle.json.specs.Value.{value_view}
use Rattle.sk_profile_json.specs.Conditions.{wrong_argument}
use Rattle.sk_profile_json.proofs.conditions.wrong_argument.Given as goal

abbrev pub invariant-loop-place : goal.invariant-loop-place
invariant-loop-place l =
    wrong_argument l.place (drop l.place (map value_view l.arguments)) ≡ wrong_argument 0 (map value_view l.arguments)
