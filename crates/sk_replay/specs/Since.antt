-- Which lines of a log of strace(1) show what a process does under a filter. seccomp(2): a process attaches one to itself, its
-- later children inherit it, and it stays over execve(2); with SECCOMP_FILTER_FLAG_TSYNC all threads of the process get it. A log
-- does not tell surely who is whose child or thread: where it may be either, a line counts as one under a filter.
use Rattle.std.specs.Prelude.{ℕ, ◌==◌, ◌&&◌, ◌||◌, ◌-◌, ◌^◌, ◌%◌, ◌++◌, not, Bool, true, false, if◌then◌else◌, List, [], ◌∷◌, drop, take, find, codes, is_some, Option, Some, None, slice_index_or}
use Rattle.std.specs.List.{after_first, before_first, list_any, position_or_len}
use Rattle.std.specs.Str.{bytes_eq}
use Rattle.sk_text.specs.Lines.{words_of}
use Rattle.sk_text.specs.Numbers.{number_in, up_to}
use Rattle.sk_asm.specs.Grammar.{◌>>=◌}
use Rattle.sk_names.specs.declared.architecture.Architecture.{Architecture}
use Rattle.sk_names.specs.Names.{number_on}
use Rattle.sk_replay.specs.declared.attaching.Scope.{Scope}
use Rattle.sk_replay.specs.declared.attaching.Scope.TheVariants.{OneProcess, AllProcesses}
use Rattle.sk_replay.specs.declared.line.LogLine.{LogLine}
use Rattle.sk_replay.specs.declared.line.LogLine.TheVariants.{Made}
use Rattle.sk_replay.specs.declared.value.Value.{Value}
use Rattle.sk_replay.specs.declared.value.Value.TheVariants.{Told, Unknown}
use Rattle.sk_replay.specs.declared.written.Written.TheVariants.{ByRegister}
use Rattle.sk_replay.specs.Lines.{is_unfinished, line_of, values_in}

-- ---- the process of a line

-- a number of 32 bits, in digits alone: a time has a colon or a point
unfoldable pub process_number : List ℕ → Option ℕ
process_number word = up_to (2 ^ 32 - 1) (number_in 10 word)

-- a line begins with `PID`, or with `[pid PID]`, where `]` is 93. It has no number while strace follows one process alone
abbrev pub process_in : List (List ℕ) → Option ℕ
process_in (first ∷ second ∷ words) =
    if bytes_eq first (codes "[pid") then process_number (before_first (λ byte. byte == 93) second) else process_number first
process_in words = None

abbrev pub process_of : List ℕ → Option ℕ
process_of line = process_in (words_of line)

-- ---- what a call attaches

-- an argument is this number, or is not known
abbrev pub may_be : ℕ → Value → Bool
may_be number (Told other) = other == number
may_be number Unknown = true

-- it has bit 0, or is not known
abbrev pub may_be_odd : Value → Bool
may_be_odd (Told number) = number % 2 == 1
may_be_odd Unknown = true

-- seccomp(SECCOMP_SET_MODE_FILTER, FLAGS, ..): 1, and SECCOMP_FILTER_FLAG_TSYNC is 1
abbrev pub scope_of_seccomp : List Value → Option Scope
scope_of_seccomp args =
    if may_be 1 (slice_index_or args 0 Unknown)
    then Some (if may_be_odd (slice_index_or args 1 Unknown) then AllProcesses else OneProcess)
    else None

-- prctl(PR_SET_SECCOMP, SECCOMP_MODE_FILTER, ..): 22 and 2
abbrev pub scope_of_prctl : List Value → Option Scope
scope_of_prctl args =
    if may_be 22 (slice_index_or args 0 Unknown) && may_be 2 (slice_index_or args 1 Unknown) then Some OneProcess else None

-- what stands behind the arguments of a call that has returned: a parenthesis, and `= RESULT`
abbrev pub result_of : List (List ℕ) → Option (List ℕ)
result_of (first ∷ second ∷ third ∷ words) = if bytes_eq first (codes ")") && bytes_eq second (codes "=") then Some third else None
result_of words = None

-- strace shows -1 where a call has failed
abbrev pub is_success : Option (List ℕ) → Bool
is_success None = false
is_success (Some result) = not (bytes_eq result (codes "-1"))

abbrev pub is_failure : Option (List ℕ) → Bool
is_failure None = false
is_failure (Some result) = bytes_eq result (codes "-1")

-- the arguments of a call that has succeeded, or has not returned, from behind its opening parenthesis on: each is in its own
-- register on all architectures
unfoldable pub effective : List ℕ → Option (List Value)
effective text = do
  shown ← values_in ByRegister 6 text
  if is_unfinished text || is_success (result_of (words_of shown.1)) then Some shown.0 else None

abbrev pub is_number : Option ℕ → ℕ → Bool
is_number None nr = false
is_number (Some other) nr = other == nr

-- by the numbers of seccomp and prctl, and that of the call
unfoldable pub scope_of_call : Option ℕ → Option ℕ → ℕ → List ℕ → Option Scope
scope_of_call seccomp prctl nr text =
    if is_number seccomp nr then (effective text >>= scope_of_seccomp)
    else if is_number prctl nr then (effective text >>= scope_of_prctl)
    else None

abbrev pub scope_said : Option ℕ → Option ℕ → LogLine → List ℕ → Option Scope
scope_said seccomp prctl (Made call) text = scope_of_call seccomp prctl call.nr text
scope_said seccomp prctl said text = None

-- for whom a line attaches a filter, or begins to
abbrev pub scope_in : Option ℕ → Option ℕ → Architecture → List ℕ → Option Scope
scope_in seccomp prctl by line = scope_said seccomp prctl (line_of by line) (after_first (λ byte. byte == 40) line)

-- ---- the end of a call that a line begins

-- in front of the first parenthesis stands this word
abbrev pub has_word : List ℕ → List ℕ → Bool
has_word word line = list_any (bytes_eq word) (words_of (before_first (λ byte. byte == 40) line))

-- a line of this process
abbrev pub is_process : ℕ → Option ℕ → Bool
is_process process None = false
is_process process (Some other) = other == process

-- `<... CALL resumed>) = -1 ..`, where `>` is 62
abbrev pub is_failed_end : List ℕ → Bool
is_failed_end line = has_word (codes "<...") line && is_failure (result_of (words_of (after_first (λ byte. byte == 62) line)))

-- the next line of the process among so many: that they are bounded bounds the work on a log which begins many calls
abbrev pub next_of : ℕ → ℕ → List (List ℕ) → Option (List ℕ)
next_of room process behind = find (λ line. is_process process (process_of line)) (take room behind)

abbrev pub fails : Option (List ℕ) → Bool
fails None = false
fails (Some line) = is_failed_end line

-- the lines behind a line of a process show that the call which it begins fails
abbrev pub fails_behind : Option ℕ → List (List ℕ) → Bool
fails_behind None behind = false
fails_behind (Some process) behind = fails (next_of 256 process behind)

-- for whom a line attaches a filter, by those behind it
abbrev pub scope_by : Option ℕ → Option ℕ → Architecture → List ℕ → List (List ℕ) → Option Scope
scope_by seccomp prctl by line behind = do
  scope ← scope_in seccomp prctl by line
  if is_unfinished line && fails_behind (process_of line) behind then None else Some scope

abbrev pub scope_of : Architecture → List ℕ → List (List ℕ) → Option Scope
scope_of by line behind = scope_by (number_on by (codes "seccomp")) (number_on by (codes "prctl")) by line behind

-- each line with what it attaches
abbrev pub Marked : Type 0
Marked = List ℕ × Option Scope

abbrev pub marked : Architecture → List (List ℕ) → List Marked
marked by [] = []
marked by (line ∷ behind) = (line, scope_of by line behind) ∷ marked by behind

abbrev pub attaches : Marked → Bool
attaches line = is_some line.1

-- ---- who may have a filter

-- a filter is attached for this process by a line of that one: a line without a number may be of any
abbrev pub reaches : ℕ → Option ℕ → Option Scope → Bool
reaches process from None = false
reaches process from (Some AllProcesses) = true
reaches process None (Some OneProcess) = true
reaches process (Some other) (Some OneProcess) = other == process

-- `+++ superseded by execve in pid PID +++`: a thread that calls execve(2), and may have a filter, goes on under this number
abbrev pub is_superseded : List ℕ → Bool
is_superseded line = has_word (codes "superseded") line

-- after a line of a process this process may have a filter
abbrev pub gets : ℕ → Option ℕ → Option Scope → List ℕ → Bool
gets process from scope line = reaches process from scope || (is_process process from && is_superseded line)

abbrev pub may_get : ℕ → Marked → Bool
may_get process line = gets process (process_of line.0) line.1 line.0

-- the first line that attaches a filter, and those behind it
abbrev pub from_attached : List Marked → List Marked
from_attached lines = drop (position_or_len attaches lines) lines

-- after these lines the process has no filter: it stands in front of the first that is attached, and no line gives it one. A
-- process that comes later may be a child of one with a filter
abbrev pub is_outside : List Marked → ℕ → Bool
is_outside lines process =
    list_any (λ line. is_process process (process_of line.0)) (before_first attaches lines)
    && not (list_any (may_get process) (from_attached lines))

-- a line is of a process that is not among these, or may be of any
abbrev pub is_other : (ℕ → Bool) → Option ℕ → Bool
is_other is_among None = true
is_other is_among (Some process) = not (is_among process)

-- ---- the lines

-- a line is under a filter, by those in front of it
abbrev pub is_under : List Marked → List ℕ → Bool
is_under before line = list_any attaches before && is_other (is_outside before) (process_of line)

-- each line that is; and a blank one for each other, so that each line has the number that it had
abbrev pub since_behind : List Marked → List Marked → List (List ℕ)
since_behind before [] = []
since_behind before (line ∷ lines) = (if is_under before line.0 then line.0 else []) ∷ since_behind (before ++ line ∷ []) lines

-- those of a log, where one of them attaches a filter
abbrev pub since_attached : Architecture → List (List ℕ) → Option (List (List ℕ))
since_attached by lines = if list_any attaches (marked by lines) then Some (since_behind [] (marked by lines)) else None
