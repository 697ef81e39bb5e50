-- The text of a verdict: what seccomp(2) makes of a filter's value.
use Rattle.std.specs.Prelude.{ℕ, ◌==◌, ◌++◌, if◌then◌else◌, List, [], codes, Option, Some, None}
use Rattle.std.specs.Fmt.{decimal}
use Rattle.sk_insn.specs.declared.action.Action.{Action}
use Rattle.sk_insn.specs.declared.action.Action.TheVariants.{Errno}
use Rattle.sk_insn.specs.Actions.{action_of, action_name, data_part}
use Rattle.sk_filter.specs.Errors.{error_named}

-- an error's name, behind its number
abbrev pub error_text : Option (List ℕ) → List ℕ
error_text None = []
error_text (Some name) = codes " " ++ name

-- the data behind a slash: always that of `errno`, with the error's name, and of any other action where it is not 0
abbrev pub data_text : Action → ℕ → List ℕ
data_text Errno given = codes "/" ++ decimal given ++ error_text (error_named given)
data_text action given = if given == 0 then [] else codes "/" ++ decimal given

-- the action's name, and its data: `allow`, `trap/5`, `errno/38 ENOSYS`
unfoldable pub verdict_text : ℕ → List ℕ
verdict_text value = action_name (action_of value) ++ data_text (action_of value) (data_part value)
