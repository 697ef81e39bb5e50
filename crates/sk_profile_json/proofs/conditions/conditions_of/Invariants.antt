use Rattle.std.proofs.Common.{◌≡◌, ◌++◌, drop, map}
use Rattle.json.specs.Value.{value_view}
use Rattle.sk_profile_json.specs.Conditions.{conditions_of}
use Rattle.sk_profile_json.proofs.conditions.conditions_of.Given as goal

abbrev pub invariant-loop-argument : goal.invariant-loop-argument
invariant-loop-argument l =
    l.conditions.items ++ conditions_of (drop l.argument-index (map value_view l.arguments)) ≡ conditions_of (map value_view l.arguments)
