-- The least policy that allows some calls: each other call gets EPERM, "Operation not permitted" of errno(3).
use Rattle.std.specs.Prelude.{ℕ, ◌≡◌, ◌≢◌, ◌≤◌, ◌<◌, ◌+◌, ◌^◌, ◌++◌, Bool, true, false, if◌then◌else◌, List, [], length, codes, flat_map, slice_index_or, bit_and, Some, None, Contains}
use Rattle.std.specs.List.{All}
use Rattle.sk_text.specs.Lines.{lines_of}
use Rattle.sk_insn.specs.declared.insn.Insn.{Insn}
use Rattle.sk_insn.specs.declared.record.Record.{Record}
use Rattle.sk_insn.specs.Actions.{allow}
use Rattle.sk_insn.specs.Instructions.{image_of}
use Rattle.sk_filter.specs.Meaning.{meaning_of}
use Rattle.sk_filter.specs.Valid.{IsValid}
use Rattle.sk_filter.specs.VerdictText.{verdict_text}
use Rattle.sk_engines.specs.Output.{line}
use Rattle.sk_arguments.specs.declared.naming.Naming.{Naming}
use Rattle.sk_names.specs.declared.architecture.Architecture.{Architecture}
use Rattle.sk_names.specs.declared.architecture.Architecture.TheVariants as architecture
use Rattle.sk_names.specs.Architectures.{audit_of, text_of}
use Rattle.sk_profile.specs.Means.{Gives}
use Rattle.sk_replay.specs.declared.call.Call.{Call}
use Rattle.sk_replay.specs.declared.value.Value.TheVariants.{Told}
use Rattle.sk_replay.specs.Logged.{RiseFrom, is_among, is_made, numbers_in}
use Rattle.sk_replay.specs.Replaying.{calls_of, each_once}
use Rattle.sk_replay.specs.Seen.{shown_value}
use Rattle.sk_when.specs.declared.row.ConditionalRow.{ConditionalRow}
use Rattle.sk_when.specs.Naming.{names_of}
use Rattle.sk_when.specs.WhenText.{when_text}
use Rattle.sk_policy.specs.Policies.{IsWhole}
use Rattle.sk_policy_text.specs.declared.stated.Stated.{Stated}
use Rattle.sk_policy_text.specs.PolicyFaults.{AreRight}
use Rattle.sk_policy_text.specs.PolicyMade.{IsMade, IsText, first_expectation}
use Rattle.sk_policy_text.specs.PolicyOf.{AreNamed, AreOnce}
use Rattle.sk_policy_text.specs.PolicyRows.{is_of_x32}
use Rattle.sk_policy_text.specs.PolicySays.{Says}
use Rattle.sk_policy_text.specs.PolicySizes.{rules_bound}
use Rattle.sk_policy_when.specs.Narrowing.{AreAllowedRows, Condition, allowed_rows, conditions_for, holds_each, number_bits, refused}

-- ---- the text

-- calls of x32 have numbers of x86-64, with bit 30, so a policy of x86-64 tells of them
abbrev pub written_for : Architecture → Architecture
written_for architecture.X32 = architecture.X86_64
written_for by = by

abbrev pub is_x86_64 : Architecture → Bool
is_x86_64 architecture.X86_64 = true
is_x86_64 by = false

-- a policy says of which architecture it is, where that is not x86-64
abbrev pub arch_line : Architecture → List ℕ
arch_line by = if is_x86_64 by then [] else codes "arch " ++ line (text_of by)

abbrev pub default_line : List ℕ
default_line = codes "default " ++ line (verdict_text refused)

-- the rows stand behind the line of all other calls, as `ask when` writes them
abbrev pub rows_text : Naming → Architecture → List ConditionalRow → List ℕ
rows_text naming by rows = arch_line by ++ (default_line ++ when_text (names_of naming by) rows)

-- the policy of an architecture with these rows
unfoldable pub allow_text : Naming → Architecture → List ConditionalRow → List ℕ
allow_text naming by rows = rows_text naming (written_for by) rows

-- ---- the laws, of numbers that rise

-- the verdict on a call of a number that has a row
abbrev pub row_verdict : List Condition → Record → ℕ
row_verdict conditions call = if holds_each call conditions then allow else refused

-- the verdict on a call: of x32 those without a row get SECCOMP_RET_KILL_PROCESS, as they do in each policy
abbrev pub allowed_verdict : Architecture → List ℕ → List ℕ → List Call → Record → ℕ
allowed_verdict by numbers narrowed calls call =
    if is_among call.nr numbers then row_verdict (conditions_for narrowed calls call.nr) call
    else if is_of_x32 by call.nr then 0x80000000
    else refused

-- numbers of calls, each once, in rising order
abbrev pub AreNumbers : List ℕ → Type 0
AreNumbers numbers = RiseFrom 0 numbers × All (λ nr. nr < 2 ^ 32) numbers

-- a text is that of the policy which allows calls with these numbers, and of the narrowed ones only those that show what calls of logs show
pub record IsAllowing (by : Architecture) (numbers narrowed : List ℕ) (calls : List Call) (text : List ℕ) : Type 0 where
  pub naming : Naming
  pub rows : List ConditionalRow
  pub rising : AreNumbers numbers
  pub are : AreAllowedRows (allowed_rows numbers narrowed calls) rows
  pub is : text ≡ allow_text naming by rows

-- whoever reads the text finds in it just this verdict on each call
abbrev pub AllowingSays : Type 0
AllowingSays =
    (by : Architecture) (numbers narrowed : List ℕ) (calls : List Call) (bytes : List ℕ) (text : List Stated)
    → IsAllowing by numbers narrowed calls bytes → IsText bytes text
    → (call : Record) → IsWhole call → Says text call (allowed_verdict (written_for by) numbers narrowed calls call)

-- no number stands twice, each has a verdict, and none of these is one that is only expected
pub record IsWellStated (text : List Stated) : Type 0 where
  pub once : AreOnce text
  pub named : AreNamed text
  pub unexpected : first_expectation text ≡ None

abbrev pub AllowingIsPolicy : Type 0
AllowingIsPolicy =
    (by : Architecture) (numbers narrowed : List ℕ) (calls : List Call) (bytes : List ℕ) (text : List Stated)
    → IsAllowing by numbers narrowed calls bytes → IsText bytes text → IsWellStated text

-- nor is anything wrong with it
abbrev pub AllowingIsRight : Type 0
AllowingIsRight =
    (by : Architecture) (numbers : List ℕ) (calls : List Call) (bytes : List ℕ) (text : List Stated)
    → IsAllowing by numbers [] calls bytes → IsText bytes text → AreRight [] text

-- the filter of 340 numbers that are not narrowed is not too long: it fits into the 4096 instructions of BPF_MAXINSNS
abbrev pub AllowingFits : Type 0
AllowingFits =
    (by : Architecture) (numbers : List ℕ) (calls : List Call) (bytes : List ℕ) (text : List Stated)
    → IsAllowing by numbers [] calls bytes → IsText bytes text → length numbers ≤ 340 → rules_bound text + 5 ≤ 4096

-- an image is that of a valid program, which gives each call of the architecture the verdict on it, and ends calls of others as each
-- policy does
pub record ImageAnswers (by : Architecture) (verdict : Record → ℕ) (image : List ℕ) : Type 0 where
  pub insns : List Insn
  pub written : image ≡ image_of insns
  pub valid : IsValid insns
  pub answers : (call : Record) → IsWhole call → call.arch ≡ audit_of by → Gives (verdict call) (meaning_of insns call)
  pub others : (call : Record) → call.arch < 2 ^ 32 → call.arch ≢ audit_of by → Gives 0x80000000 (meaning_of insns call)

-- such is the filter that is made of the text
abbrev pub AllowingMakesFilters : Type 0
AllowingMakesFilters =
    (by : Architecture) (numbers narrowed : List ℕ) (calls : List Call) (bytes image : List ℕ)
    → IsAllowing by numbers narrowed calls bytes → IsMade bytes image
    → ImageAnswers (written_for by) (allowed_verdict (written_for by) numbers narrowed calls) image

-- ---- the laws, of logs

-- the calls of logs
abbrev pub logged_calls : Architecture → List (List ℕ) → List Call
logged_calls by logs = flat_map (λ log. each_once (calls_of by (lines_of log))) logs

-- calls are allowed whose number a call of a log has, and no others
abbrev pub logged_verdict : Architecture → List (List ℕ) → List ℕ → Record → ℕ
logged_verdict by logs narrowed call =
    if is_made by call.nr logs then row_verdict (conditions_for narrowed (logged_calls by logs) call.nr) call
    else if is_of_x32 (written_for by) call.nr then 0x80000000
    else refused

-- the filter that is made of the numbers of their calls answers so
abbrev pub AllowingLogs : Type 0
AllowingLogs =
    (by : Architecture) (logs : List (List ℕ)) (narrowed bytes image : List ℕ)
    → IsAllowing by (numbers_in by logs) narrowed (logged_calls by logs) bytes
    → IsMade bytes image → ImageAnswers (written_for by) (logged_verdict by logs narrowed) image

-- a call is one of a log as far as a line of it shows: it has the number, and each number that the line shows, in the bits that
-- Linux reads of it
pub record IsAsLogged (logged : Call) (call : Record) : Type 0 where
  pub number : call.nr ≡ logged.nr
  pub arguments : (i mask n : ℕ) → number_bits logged.nr i ≡ Some mask → shown_value logged i ≡ Told n
      → bit_and (slice_index_or call.args i 0) mask ≡ bit_and n mask

-- each call of a log is allowed, whatever stands in the arguments that the line does not show
abbrev pub LoggedAreAllowed : Type 0
LoggedAreAllowed =
    (by : Architecture) (numbers narrowed : List ℕ) (calls : List Call) (logged : Call) (call : Record)
    → Contains calls logged → is_among logged.nr numbers ≡ true → IsAsLogged logged call
    → allowed_verdict by numbers narrowed calls call ≡ allow

-- no call is allowed whose number no log has
abbrev pub NoOthersAreAllowed : Type 0
NoOthersAreAllowed =
    (by : Architecture) (logs : List (List ℕ)) (narrowed : List ℕ) (call : Record)
    → logged_verdict by logs narrowed call ≡ allow → is_made by call.nr logs ≡ true

-- a call of a log has the number of a call, and in an argument the bits that a condition asks for
pub record IsSeen (calls : List Call) (call : Record) (it : Condition) : Type 0 where
  pub logged : Call
  pub there : Contains calls logged
  pub number : logged.nr ≡ call.nr
  pub value : ℕ
  pub shown : shown_value logged it.argument ≡ Told value
  pub same : bit_and (slice_index_or call.args it.argument 0) it.mask ≡ bit_and value it.mask

-- a narrowed call is allowed only with numbers that calls of a log have
abbrev pub NarrowedAreSeen : Type 0
NarrowedAreSeen =
    (by : Architecture) (numbers narrowed : List ℕ) (calls : List Call) (call : Record) (it : Condition)
    → allowed_verdict by numbers narrowed calls call ≡ allow → Contains (conditions_for narrowed calls call.nr) it → IsSeen calls call it
