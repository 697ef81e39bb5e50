-- The text of `ask replay`: the verdicts on the calls of a log, which a process of some architecture made.
use Rattle.std.specs.Prelude.{ℕ, nat_eq, nat_lt, ◌+◌, ◌==◌, ◌||◌, ◌&&◌, not, Bool, false, true, if◌then◌else◌, List, [], ◌∷◌, ◌++◌, length, map, filter, flat_map, take, codes, Option, Some, None}
use Rattle.std.specs.Bool.{beq}
use Rattle.std.specs.Fmt.{decimal, radix_digits}
use Rattle.std.specs.List.{count_by, list_any}
use Rattle.std.specs.Option.{option_eq, unwrap_or}
use Rattle.std.specs.Map.{lookup}
use Rattle.indexmap.specs.IndexMap.{insert_entry}
use Rattle.std.specs.Cmp.Lexicographic.{pointwise}
use Rattle.sk_text.specs.Lines.{lines_of}
use Rattle.sk_insn.specs.declared.insn.Insn.{Insn}
use Rattle.sk_insn.specs.declared.action.Action.{Action}
use Rattle.sk_insn.specs.declared.action.Action.TheVariants as action
use Rattle.sk_insn.specs.Actions.{action_name, action_of, performs}
use Rattle.sk_filter.specs.VerdictText.{verdict_text}
use Rattle.sk_names.specs.declared.architecture.Architecture.{Architecture}
use Rattle.sk_names.specs.Names.{name_on}
use Rattle.sk_replay.specs.declared.call.Call.{Call}
use Rattle.sk_replay.specs.declared.line.LogLine.{LogLine}
use Rattle.sk_replay.specs.declared.line.LogLine.TheVariants.{Made, Event, Unclear}
use Rattle.sk_replay.specs.declared.row.Row.{Row}
use Rattle.sk_replay.specs.declared.judged.Judged.{Judged}
use Rattle.sk_replay.specs.declared.judged.Judged.TheVariants.{Verdict, Undecided}
use Rattle.sk_replay.specs.declared.value.Value.{Value}
use Rattle.sk_replay.specs.declared.value.Value.TheVariants.{Told, Unknown}
use Rattle.sk_replay.specs.Judging.{judged_of}
use Rattle.sk_replay.specs.Lines.{line_of}

-- ---- the calls of a log

-- the call of a line that is one, in front of others
abbrev pub onto_calls : LogLine → List Call → List Call
onto_calls (Made call) calls = call ∷ calls
onto_calls Event calls = calls
onto_calls Unclear calls = calls

-- the calls of the lines, in their order
abbrev pub calls_of : Architecture → List (List ℕ) → List Call
calls_of by [] = []
calls_of by (line ∷ lines) = onto_calls (line_of by line) (calls_of by lines)

abbrev pub is_event : LogLine → Bool
is_event Event = true
is_event line = false

abbrev pub is_unclear : LogLine → Bool
is_unclear Unclear = true
is_unclear line = false

-- so many lines are no calls
abbrev pub events_in : Architecture → List (List ℕ) → ℕ
events_in by lines = count_by (λ line. is_event (line_of by line)) lines

-- so many lines are not understood
abbrev pub unclear_in : Architecture → List (List ℕ) → ℕ
unclear_in by lines = count_by (λ line. is_unclear (line_of by line)) lines

-- this many of them are told by their numbers
abbrev pub most_told : ℕ
most_told = 8

-- the number of a line, if it is not understood, in front of others
abbrev pub onto_numbers : ℕ → LogLine → List ℕ → List ℕ
onto_numbers number Unclear numbers = number ∷ numbers
onto_numbers number line numbers = numbers

-- the numbers of those lines that are not understood, where the first one has this number
abbrev pub unclear_from : Architecture → ℕ → List (List ℕ) → List ℕ
unclear_from by number [] = []
unclear_from by number (line ∷ lines) = onto_numbers number (line_of by line) (unclear_from by (number + 1) lines)

-- those of a log, from 1 on
abbrev pub unclear_lines : Architecture → List (List ℕ) → List ℕ
unclear_lines by lines = take most_told (unclear_from by 1 lines)

-- ---- each call once

-- the same number, or both are not known
abbrev pub same_value : Value → Value → Bool
same_value (Told a) (Told b) = a == b
same_value Unknown Unknown = true
same_value a b = false

-- the same number and the same arguments, and a record tells the same action of both, or none does
abbrev pub is_same : Call → Call → Bool
is_same a b =
    a.nr == b.nr && (a.shown == b.shown && (pointwise same_value a.args b.args && option_eq nat_eq a.logged b.logged))

-- the calls without those that came before, in the order in which they first came
abbrev pub each_once : List Call → List Call
each_once [] = []
each_once (call ∷ calls) = call ∷ filter (λ other. not (is_same call other)) (each_once calls)

-- each call once, with how often it was made
abbrev pub tallied : List Call → List (Call × ℕ)
tallied calls = map (λ call. (call, count_by (is_same call) calls)) (each_once calls)

-- how many different calls there are among the lines of a log
abbrev pub distinct_calls : Architecture → List ℕ → ℕ
distinct_calls by log = length (each_once (calls_of by (lines_of log)))

-- how often a call was made, by such a list
abbrev pub times_of : List (Call × ℕ) → Call → ℕ
times_of entries call = unwrap_or (lookup (is_same call) entries) 0

-- the list with a call once more: behind the others, if it is new
abbrev pub with_call : Call → List (Call × ℕ) → List (Call × ℕ)
with_call call entries = insert_entry is_same entries call (times_of entries call + 1)

-- the list after a line
abbrev pub with_line : LogLine → List (Call × ℕ) → List (Call × ℕ)
with_line (Made call) entries = with_call call entries
with_line Event entries = entries
with_line Unclear entries = entries

-- the numbers after a line with this number
abbrev pub with_number : List ℕ → ℕ → LogLine → List ℕ
with_number numbers number line = if nat_lt (length numbers) most_told then numbers ++ onto_numbers number line [] else numbers

-- ---- rows

-- the row of a call: how often it was made, and what the filters say of it
abbrev pub row_of : Architecture → List (List Insn) → Call × ℕ → Row
row_of by chain entry = record { call = entry.0; times = entry.1; judged = judged_of by chain entry.0 }

abbrev pub rows_of : Architecture → List (List Insn) → List (List ℕ) → List Row
rows_of by chain lines = map (row_of by chain) (tallied (calls_of by lines))

-- the call is performed, whatever the arguments are that the log does not show
abbrev pub judged_performed : Judged → Bool
judged_performed (Verdict value) = performs (action_of value)
judged_performed (Undecided i) = false

abbrev pub is_performed : Row → Bool
is_performed row = judged_performed row.judged

-- ---- the text

-- a number as strace writes it with `-e raw=all`: `0`, or `0x` and hexadecimal digits
unfoldable pub number_text : ℕ → List ℕ
number_text number = if number == 0 then codes "0" else codes "0x" ++ radix_digits 16 false number

-- an argument: `?` where the log shows no number
abbrev pub argument_text : Value → List ℕ
argument_text (Told number) = number_text number
argument_text Unknown = codes "?"

abbrev pub arguments_text : List Value → List ℕ
arguments_text [] = []
arguments_text (first ∷ others) = argument_text first ++ flat_map (λ other. codes ", " ++ argument_text other) others

-- the name of a call, or the one that strace gives a number without a name
abbrev pub name_text : Option (List ℕ) → ℕ → List ℕ
name_text None nr = codes "syscall_0x" ++ radix_digits 16 false nr
name_text (Some name) nr = name

-- a call as strace writes it
unfoldable pub call_text : Architecture → Call → List ℕ
call_text by call =
    name_text (name_on by call.nr) call.nr ++ (codes "(" ++ (arguments_text (take call.shown call.args) ++ codes ")"))

-- what filters say of it: the verdict, or the argument that this depends on
abbrev pub judged_text : Judged → List ℕ
judged_text (Verdict value) = verdict_text value
judged_text (Undecided i) = codes "depends on args[" ++ (decimal i ++ codes "], which the log does not show")

-- the name of an action, or the number of one that is unknown
abbrev pub action_text : Action → ℕ → List ℕ
action_text action.Unknown value = number_text value
action_text it value = action_name it

-- the action of a value, without its data
unfoldable pub logged_name : ℕ → List ℕ
logged_name value = action_text (action_of value) value

-- what a record tells of a call, where it tells an action
abbrev pub logged_text : Option ℕ → List ℕ
logged_text None = []
logged_text (Some value) = codes " (logged: " ++ (logged_name value ++ codes ")")

-- a row: how often, the call, what is said of it, and what the log says
unfoldable pub row_text : Architecture → Row → List ℕ
row_text by row =
    decimal row.times ++ (codes " " ++ (call_text by row.call ++ (codes " " ++ (judged_text row.judged ++ (logged_text row.call.logged ++ codes "\n")))))

-- the row, if it is performed, or if it is not
unfoldable pub one_text : Architecture → Bool → Row → List ℕ
one_text by performed row = if beq (is_performed row) performed then row_text by row else []

-- those of the rows that are performed, or that are not
abbrev pub part_text : Architecture → Bool → List Row → List ℕ
part_text by performed rows = flat_map (one_text by performed) rows

-- how many lines there are of a kind, where there are some
unfoldable pub count_text : ℕ → List ℕ → List ℕ → List ℕ
count_text count one many =
    if count == 0 then []
    else if count == 1 then codes "1 " ++ (one ++ codes "\n")
    else decimal count ++ (codes " " ++ (many ++ codes "\n"))

-- first the calls that are not performed, then the others, then the lines that are none
abbrev pub tally_text : Architecture → List Row → ℕ → ℕ → List ℕ
tally_text by rows events unclear =
    part_text by false rows
    ++ (part_text by true rows
    ++ (count_text events (codes "line is no call") (codes "lines are no calls")
    ++ count_text unclear (codes "line is not understood") (codes "lines are not understood")))

-- the text of a log
abbrev pub replay_text : Architecture → List ℕ → List (List Insn) → List ℕ
replay_text by log chain =
    tally_text by (rows_of by chain (lines_of log)) (events_in by (lines_of log)) (unclear_in by (lines_of log))

-- some call is not performed or may not be, or a line is not understood, which may be one that is not
abbrev pub tally_denies : List Row → ℕ → Bool
tally_denies rows unclear = list_any (λ row. not (is_performed row)) rows || not (unclear == 0)

-- so it is with the calls and the lines of a log
abbrev pub replay_denies : Architecture → List ℕ → List (List Insn) → Bool
replay_denies by log chain = tally_denies (rows_of by chain (lines_of log)) (unclear_in by (lines_of log))
