-- What `ask replay` tells, as a document.
use Rattle.std.specs.Prelude.{ℕ, ◌++◌, List, codes, flat_map, take, Option}
use Rattle.std.specs.Fmt.{decimal}
use Rattle.json.specs.Token.{Token}
use Rattle.sk_names.specs.declared.architecture.Architecture.{Architecture}
use Rattle.sk_names.specs.Names.{name_on}
use Rattle.sk_replay.specs.declared.call.Call.{Call}
use Rattle.sk_replay.specs.declared.judged.Judged.{Judged}
use Rattle.sk_replay.specs.declared.judged.Judged.TheVariants.{Verdict, Undecided}
use Rattle.sk_replay.specs.declared.row.Row.{Row}
use Rattle.sk_replay.specs.declared.value.Value.{Value}
use Rattle.sk_replay.specs.declared.value.Value.TheVariants.{Told, Unknown}
use Rattle.sk_replay.specs.Replaying.{call_text, is_performed, logged_name, tally_denies}
use Rattle.sk_document.specs.Documents.{array, at, boolean_at, document, maybe, none, number_at, object, said, string_at, word_at}
use Rattle.sk_document.specs.Verdicts.{verdict}
use Rattle.sk_document.specs.Numbers.{architecture_at, name_at}
use Rattle.sk_document.specs.Calls.{hexadecimal_said}

-- an argument: `null` where the log shows no number
abbrev pub value_said : Value → List Token
value_said (Told number) = hexadecimal_said number
value_said Unknown = none

-- the arguments that the log shows
unfoldable pub shown_args_at : Call → List Token
shown_args_at it = at (codes "args") ++ array (flat_map value_said (take it.shown it.args))

-- a call by its number, and its name on an architecture
unfoldable pub made : Architecture → Call → List Token
made by it = number_at (codes "number") it.nr ++ (name_at (name_on by it.nr) ++ shown_args_at it)

-- the verdict that is told
abbrev pub told_verdict : Judged → List Token
told_verdict (Verdict value) = verdict value
told_verdict (Undecided i) = none

-- the argument that it depends on, where it is not
unfoldable pub undecided_said : Judged → List Token
undecided_said (Verdict value) = none
undecided_said (Undecided i) = said (codes "args[" ++ (decimal i ++ codes "]"))

unfoldable pub verdict_at : Judged → List Token
verdict_at it = at (codes "verdict") ++ told_verdict it

unfoldable pub undecided_at : Judged → List Token
undecided_at it = at (codes "undecided_by") ++ undecided_said it

-- the verdict on a call, and whether that is performed
unfoldable pub judged_at : Row → List Token
judged_at it = boolean_at (codes "performed") (is_performed it) ++ (verdict_at it.judged ++ undecided_at it.judged)

-- the action that a record of the kernel tells, without data: `null` where none tells one
abbrev pub logged_said : Option ℕ → List Token
logged_said action = maybe (λ value. said (logged_name value)) action

unfoldable pub logged_at : Option ℕ → List Token
logged_at action = at (codes "logged") ++ logged_said action

-- a call as strace(1) writes it
unfoldable pub strace_at : Architecture → Call → List Token
strace_at by it = string_at (codes "text") (call_text by it)

-- a call, how often it was made, its verdict, and what the log says
unfoldable pub replay_row : Architecture → Row → List Token
replay_row by it =
    object (number_at (codes "times") it.times ++ (made by it.call ++ (judged_at it ++ (logged_at it.call.logged ++ strace_at by it.call))))

-- the calls, each once
unfoldable pub replay_rows_at : Architecture → List Row → List Token
replay_rows_at by rows = at (codes "rows") ++ array (flat_map (replay_row by) rows)

-- how many lines are no calls, and how many are not understood
unfoldable pub lines_at : ℕ → ℕ → List Token
lines_at events unclear = number_at (codes "no_calls") events ++ number_at (codes "not_understood") unclear

-- the verdicts on the calls of a log, which a process of an architecture made
unfoldable pub replay_tokens : Architecture → List Row → ℕ → ℕ → List Token
replay_tokens by rows events unclear =
    object (word_at (codes "replay")
    ++ (architecture_at by
    ++ (boolean_at (codes "denies") (tally_denies rows unclear) ++ (replay_rows_at by rows ++ lines_at events unclear))))

-- the text of that
abbrev pub replay_document : Architecture → List Row → ℕ → ℕ → List ℕ
replay_document by rows events unclear = document (replay_tokens by rows events unclear)
