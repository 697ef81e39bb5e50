-- The rules of an architecture: what is said of names, in the order of the entries, for their numbers there. A name that none of its calls has gives
-- no rule. Behind them stand those of calls that another call tells.
use Rattle.std.specs.Prelude.{ℕ, List, ◌++◌, Option}
use Rattle.std.specs.List.{filter_map}
use Rattle.std.specs.Option.{option_map}
use Rattle.sk_names.specs.declared.architecture.Architecture.{Architecture}
use Rattle.sk_names.specs.Names.{number_on}
use Rattle.sk_profile.specs.Profiles.{Rule}
use Rattle.sk_profile_json.specs.Entries.{Named}
use Rattle.sk_profile_json.specs.Multiplexed.{multiplexed_rules}

abbrev pub own_rule : Architecture → Named → Option Rule
own_rule architecture it =
    option_map (λ nr. record { number = nr; conditions = it.conditions; value = it.value; entry = it.entry }) (number_on architecture it.name)

abbrev pub own_rules : Architecture → List Named → List Rule
own_rules architecture named = filter_map (own_rule architecture) named

abbrev pub rules_on : Architecture → ℕ → List Named → List Rule
rules_on architecture default named = own_rules architecture named ++ multiplexed_rules architecture default named
