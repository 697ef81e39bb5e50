-- What `ask allow` tells.
use Rattle.std.specs.Prelude.{ℕ, ◌≡◌, ◌⊎◌, ◌==◌, ◌++◌, not, Bool, if◌then◌else◌, List, [], ◌∷◌, length, map, flat_map, find, codes, Option, Some, None, Result, Ok, Err, ⊤}
use Rattle.std.specs.Bool.{MatchBool}
use Rattle.std.specs.Fmt.{decimal}
use Rattle.std.specs.List.{list_any}
use Rattle.sk_names.specs.declared.architecture.Architecture.{Architecture}
use Rattle.sk_names.specs.declared.architecture.Architecture.TheVariants as architecture
use Rattle.sk_arguments.specs.declared.naming.Naming.{Naming}
use Rattle.sk_text.specs.Lines.{lines_of}
use Rattle.sk_show.specs.Text.{name_text}
use Rattle.sk_replay.specs.declared.call.Call.{Call}
use Rattle.sk_replay.specs.declared.logged.LineCounts.{LineCounts}
use Rattle.sk_replay.specs.Logged.{calls_in, is_among, numbers_in, numbers_with}
use Rattle.sk_replay.specs.Replaying.{unclear_in}
use Rattle.sk_policy_when.specs.Allowing.{allow_text, is_x86_64, logged_calls}
use Rattle.sk_policy_when.specs.Narrowing.{AreAllowedRows, allowed_rows, is_wide, unshown_arguments}
use Rattle.sk_when.specs.declared.row.ConditionalRow.{ConditionalRow}
use Rattle.sk_profile_json.specs.Writing.{first_unnamed, profile_text}
use Rattle.sk_ask.specs.declared.runtime.Runtime.{Runtime}
use Rattle.sk_ask.specs.declared.target.Grant.{Grant}
use Rattle.sk_ask.specs.declared.target.Grant.TheVariants.{Policy, Profile}
use Rattle.sk_ask.specs.declared.trouble.Trouble.{Trouble}
use Rattle.sk_ask.specs.declared.word.Allowing.{Allowing}
use Rattle.sk_ask.specs.declared.trouble.Trouble.TheVariants.{Refused, Reading, Memory}
use Rattle.sk_ask.specs.Complaints.{about, of_word}
use Rattle.sk_ask.specs.Endings.{Ending, answered, refused}
use Rattle.sk_ask.specs.Replays.{no_call_text}
use Rattle.sk_ask.specs.Runtimes.{runtime_log}
use Rattle.sk_ask.specs.Shelves.{Held, AreContents, IsUnreadOf}
use Rattle.sk_ask.specs.Troubles.{IsTrouble}

-- how many lines of a log are calls, and how many are not understood
abbrev pub counts_of : Architecture → List ℕ → LineCounts
counts_of by log = record { calls = calls_in by (lines_of log); unclear = unclear_in by (lines_of log) }

-- the name of the first log without a call
abbrev pub without_call : List (List ℕ) → List LineCounts → Option (List ℕ)
without_call (name ∷ names) (counts ∷ others) = if counts.calls == 0 then Some name else without_call names others
without_call names counts = None

unfoldable pub unclear_text : ℕ → List ℕ
unclear_text count = if count == 1 then codes "1 line is not understood" else decimal count ++ codes " lines are not understood"

-- what is told of the log with this name, where lines of it are not understood
unfoldable pub unclear_note : List ℕ → ℕ → List ℕ
unclear_note name count = if count == 0 then [] else about name (unclear_text count)

abbrev pub unclear_notes : List (List ℕ) → List LineCounts → List ℕ
unclear_notes (name ∷ names) (counts ∷ others) = unclear_note name counts.unclear ++ unclear_notes names others
unclear_notes names counts = []

abbrev pub some_unclear : List LineCounts → Bool
some_unclear counts = list_any (λ it. not (it.unclear == 0)) counts

-- the numbers of calls, and those of the calls of a runtime, as if its log were one more
abbrev pub with_runtime : Architecture → Option Runtime → List ℕ → List ℕ
with_runtime by None numbers = numbers
with_runtime by (Some runtime) numbers = numbers_with by numbers (lines_of (runtime_log runtime))

-- ---- what allows them

-- what is said where a call has no name, by which a profile would have it
abbrev pub unnamed_line : ℕ → List ℕ
unnamed_line nr = of_word (codes "allow: a profile has calls by their names, and none of x86-64 has the number ") (decimal nr)

-- the profile that allows calls with these numbers, or the line on the first of them without a name
abbrev pub profiled : List ℕ → Option ℕ → Result (List ℕ) (List ℕ)
profiled numbers (Some nr) = Err (unnamed_line nr)
profiled numbers None = Ok (profile_text numbers)

-- what is said of a narrowed call, with its name
abbrev pub call_name : ℕ → List ℕ
call_name nr = name_text architecture.X86_64 nr nr

abbrev pub line_on : List ℕ → ℕ → List ℕ
line_on what nr = of_word what (call_name nr)

-- where its runtime makes it too
abbrev pub own_line : ℕ → List ℕ
own_line nr = line_on (codes "allow: the runtime makes this call itself, with arguments that no log shows: --args ") nr

-- the first of some calls that a runtime makes itself
abbrev pub own_call : Architecture → Option Runtime → List ℕ → Option ℕ
own_call by runtime narrowed = find (λ nr. is_among nr (with_runtime by runtime [])) narrowed

-- a policy has rows that allow these calls, and no others
abbrev pub IsPolicyText : Naming → Architecture → List ℕ → List ℕ → List Call → Result (List ℕ) (List ℕ) → Type 0
IsPolicyText naming by numbers narrowed calls said =
    (rows : List ConditionalRow) × AreAllowedRows (allowed_rows numbers narrowed calls) rows × (said ≡ Ok (allow_text naming by rows))

-- where none of its arguments can narrow it, since logs do not show them
abbrev pub wide_line : ℕ → List ℕ
wide_line nr = line_on (codes "allow: no argument of this call is shown by each of its lines: --args ") nr

-- the first of some calls of which that is so
abbrev pub wide_call : List Call → List ℕ → Option ℕ
wide_call calls narrowed = find (is_wide calls) narrowed

abbrev pub IsShownOr : Naming → List ℕ → List ℕ → List Call → Option ℕ → Result (List ℕ) (List ℕ) → Type 0
IsShownOr naming numbers narrowed calls (Some nr) said = said ≡ Err (wide_line nr)
IsShownOr naming numbers narrowed calls None said = IsPolicyText naming architecture.X86_64 numbers narrowed calls said

abbrev pub IsNarrowedOr : Naming → List ℕ → List ℕ → List Call → Option ℕ → Result (List ℕ) (List ℕ) → Type 0
IsNarrowedOr naming numbers narrowed calls (Some nr) said = said ≡ Err (own_line nr)
IsNarrowedOr naming numbers narrowed calls None said = IsShownOr naming numbers narrowed calls (wide_call calls narrowed) said

-- the policy that allows calls with these numbers, and some of them with the arguments of these calls alone
abbrev pub IsPolicy : Naming → Architecture → Option Runtime → List ℕ → List ℕ → List Call → Result (List ℕ) (List ℕ) → Type 0
IsPolicy naming by runtime numbers narrowed calls said =
    MatchBool (length narrowed == 0) (IsPolicyText naming by numbers [] [] said)
    (MatchBool (is_x86_64 by) (IsNarrowedOr naming numbers narrowed calls (own_call by runtime narrowed) said)
    (said ≡ Err (of_word (codes "allow: arguments are those of calls of x86-64 alone: ") (codes "--args"))))

-- the profile has no conditions, and is written of calls of x86-64 alone
abbrev pub profile_of : Architecture → List ℕ → List ℕ → Result (List ℕ) (List ℕ)
profile_of by numbers narrowed =
    if not (length narrowed == 0) then Err (of_word (codes "allow: a profile is written without conditions: ") (codes "--args"))
    else if is_x86_64 by then profiled numbers (first_unnamed numbers)
    else Err (of_word (codes "allow: a profile is written of calls of x86-64 alone: ") (codes "--to profile"))

abbrev pub IsGrantedAs : Grant → Naming → Architecture → Option Runtime → List ℕ → List ℕ → List Call → Result (List ℕ) (List ℕ) → Type 0
IsGrantedAs Policy naming by runtime numbers narrowed calls said = IsPolicy naming by runtime numbers narrowed calls said
IsGrantedAs Profile naming by runtime numbers narrowed calls said = said ≡ profile_of by numbers narrowed

-- the calls whose arguments narrow some; none are wanted where nothing is narrowed
abbrev pub calls_wanted : List ℕ → List (List ℕ) → List Call
calls_wanted narrowed logs = if length narrowed == 0 then [] else logged_calls architecture.X86_64 logs

-- what allows the calls of logs, and those of the runtime
abbrev pub IsGranted : Naming → Architecture → Allowing → List ℕ → List (List ℕ) → Result (List ℕ) (List ℕ) → Type 0
IsGranted naming by asks narrowed logs said =
    IsGrantedAs asks.grant naming by asks.runtime (with_runtime by asks.runtime (numbers_in by logs)) narrowed (calls_wanted narrowed logs) said

-- the line of that is told
abbrev pub IsRefusal : Result (List ℕ) (List ℕ) → Trouble → Type 0
IsRefusal said (Refused line) = said ≡ Err line.items
IsRefusal said (Reading line) = ⊥
IsRefusal said Memory = ⊤

abbrev pub IsRefusalOf : (Result (List ℕ) (List ℕ) → Type 0) → Trouble → Type 0
IsRefusalOf P (Refused line) = P (Err line.items)
IsRefusalOf P (Reading line) = ⊥
IsRefusalOf P Memory = ⊤

-- ---- what is told beside it

-- an argument of a narrowed call that some line does not show
unfoldable pub unshown_line : ℕ → ℕ → List ℕ
unshown_line nr i =
    of_word (codes "allow: not each line shows this argument, so it may be any: ")
    (codes "args[" ++ (decimal i ++ (codes "] of " ++ call_name nr)))

abbrev pub unshown_note : List Call → ℕ → List ℕ
unshown_note calls nr = flat_map (unshown_line nr) (unshown_arguments calls nr)

-- those of all narrowed calls
abbrev pub unshown_notes : List Call → List ℕ → List ℕ
unshown_notes calls narrowed = flat_map (unshown_note calls) narrowed

abbrev pub allow_notes : Architecture → List ℕ → List (List ℕ) → List (List ℕ) → List ℕ
allow_notes by narrowed names logs = unclear_notes names (map (counts_of by) logs) ++ unshown_notes (calls_wanted narrowed logs) narrowed

-- ---- the answer

abbrev pub answered_or : List ℕ → Bool → Result (List ℕ) (List ℕ) → Ending
answered_or notes denies (Ok text) = answered notes text denies
answered_or notes denies (Err line) = refused line

-- there is no answer where a log has no call. Else it allows the calls of all logs, and those of the runtime: no where a line is not
-- understood, since it may be a call
abbrev pub IsAllowedOr : Naming → Architecture → Allowing → List ℕ → List (List ℕ) → List (List ℕ) → Option (List ℕ) → Ending → Type 0
IsAllowedOr naming by asks narrowed names logs (Some name) ending = ending ≡ refused (about name no_call_text)
IsAllowedOr naming by asks narrowed names logs None ending =
    (said : Result (List ℕ) (List ℕ)) × IsGranted naming by asks narrowed logs said
    × (ending ≡ answered_or (allow_notes by narrowed names logs) (some_unclear (map (counts_of by) logs)) said)

-- the answer to logs with these names
abbrev pub IsAllowed : Naming → Architecture → Allowing → List ℕ → List (List ℕ) → List (List ℕ) → Ending → Type 0
IsAllowed naming by asks narrowed names logs ending =
    IsAllowedOr naming by asks narrowed names logs (without_call names (map (counts_of by) logs)) ending

-- what is so of the logs in the files with these names, of at most 268435456 bytes each; or the first that is not read is not
abbrev pub OfLogs : (List ℕ → Held) → List (List ℕ) → Ending → (List (List ℕ) → Type 0) → Type 0
OfLogs held names ending P =
    ((logs : List (List ℕ)) × AreContents 268435456 held names logs × P logs) ⊎ IsTrouble ending (IsUnreadOf 268435456 held names)
