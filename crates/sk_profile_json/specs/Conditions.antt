-- An entry's `args`: all hold of a call that the entry is for.
use Rattle.std.specs.Prelude.{ℕ, ◌+◌, List, [], ◌∷◌, Option, Some, None, Result, Ok, Err}
use Rattle.std.specs.List.{filter_map}
use Rattle.std.specs.Option.{option_or}
use Rattle.std.specs.Result.{result_ok}
use Rattle.json.specs.Json.{Json}
use Rattle.sk_profile.specs.declared.condition.Condition.{Condition}
use Rattle.sk_profile_json.specs.declared.fault.Wrong.{Wrong}
use Rattle.sk_profile_json.specs.declared.conditions.WrongArgument.{WrongArgument}
use Rattle.sk_profile_json.specs.Arguments.{condition_of}

-- the first argument from a place on that is no condition
abbrev pub wrong_at : ℕ → Result Condition Wrong → Option WrongArgument
wrong_at place (Ok condition) = None
wrong_at place (Err wrong) = Some (record { place = place; wrong = wrong })

abbrev pub wrong_argument : ℕ → List Json → Option WrongArgument
wrong_argument place [] = None
wrong_argument place (j ∷ js) = option_or (wrong_at place (condition_of j)) (wrong_argument (place + 1) js)

-- the conditions that arguments are
abbrev pub conditions_of : List Json → List Condition
conditions_of arguments = filter_map (λ j. result_ok (condition_of j)) arguments
