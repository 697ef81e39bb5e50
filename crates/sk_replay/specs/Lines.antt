-- What a line of a log says. strace(1) writes `PID CALL(ARG, ..) = RESULT`, in front of which may stand the time and the
-- instruction pointer, and `[pid PID]` for PID. It writes the names that calls have on the architecture of the process. Other
-- lines are audit records.
use Rattle.std.specs.Prelude.{ℕ, ◌==◌, ◌&&◌, ◌||◌, ◌-◌, ◌^◌, zero, suc, nat_eq, nat_le, Bool, false, if◌then◌else◌, List, [], ◌∷◌, length, take, drop, codes, Option, Some, None, slice_index_or}
use Rattle.std.specs.Option.{option_or}
use Rattle.std.specs.List.{list_all, starts_with, ends_with, after_first}
use Rattle.std.specs.Str.{bytes_eq}
use Rattle.sk_text.specs.Lines.{words_of}
use Rattle.sk_text.specs.Numbers.{number_of, up_to}
use Rattle.sk_text.specs.Words.{none_of}
use Rattle.sk_asm.specs.Grammar.{◌>>=◌}
use Rattle.sk_names.specs.declared.architecture.Architecture.{Architecture}
use Rattle.sk_names.specs.declared.architecture.Architecture.TheVariants.{S390x}
use Rattle.sk_names.specs.Names.{number_on}
use Rattle.sk_replay.specs.declared.call.Call.{Call}
use Rattle.sk_replay.specs.declared.line.LogLine.{LogLine}
use Rattle.sk_replay.specs.declared.line.LogLine.TheVariants.{Made, Event, Unclear}
use Rattle.sk_replay.specs.declared.recorded.Recorded.{Recorded}
use Rattle.sk_replay.specs.declared.recorded.Recorded.TheVariants as recorded
use Rattle.sk_replay.specs.declared.value.Value.{Value}
use Rattle.sk_replay.specs.declared.value.Value.TheVariants.{Unknown}
use Rattle.sk_replay.specs.declared.written.Written.{Written}
use Rattle.sk_replay.specs.AuditRecords.{audited_call, fields_in, words_in_front}
use Rattle.sk_replay.specs.Calls.{call_begun, call_with}
use Rattle.sk_replay.specs.Modes.{is_other_mode}
use Rattle.sk_replay.specs.Nests.{end_from, outside}
use Rattle.sk_replay.specs.Values.{value_of, written}

-- ---- words

-- `0` to `9`, `.`, `:`, `[` or `]`
unfoldable pub is_mark_byte : ℕ → Bool
is_mark_byte byte = (nat_le 48 byte && nat_le byte 58) || byte == 46 || byte == 91 || byte == 93

-- a word in front of the call: the process, the time, the instruction pointer
unfoldable pub is_mark : List ℕ → Bool
is_mark word =
    bytes_eq word (codes "[pid") || list_all is_mark_byte word
    || (starts_with nat_eq word (codes "[") && ends_with nat_eq word (codes "]"))

-- the first word of what is no call: the end of a process, a signal, the end of a call that an earlier line begins, what
-- strace itself tells, of processes and their modes, and where a call came from
unfoldable pub is_event : List ℕ → Bool
is_event word =
    bytes_eq word (codes "+++") || bytes_eq word (codes "---") || bytes_eq word (codes "<...") || bytes_eq word (codes "strace:")
    || bytes_eq word (codes "Process") || bytes_eq word (codes ">")

-- ---- the number

-- strace writes the number of a call that it knows no name of; that of x32 has bit 30
unfoldable pub number_shown : List ℕ → Option ℕ
number_shown name =
    if starts_with nat_eq name (codes "syscall_0x") then up_to (2 ^ 32 - 1) (number_of (drop 8 name)) else None

-- the call with this name on an architecture
abbrev pub number_in : Architecture → List ℕ → Option ℕ
number_in by name = option_or (number_on by name) (number_shown name)

-- ---- the arguments

-- the text of the first argument, and what stands behind it from its comma or parenthesis on
abbrev pub first_argument : List ℕ → List ℕ
first_argument text = take (end_from outside text) text

abbrev pub behind_argument : List ℕ → List ℕ
behind_argument text = drop (end_from outside text) text

-- that of the last one; no argument where there is no word
abbrev pub last_value : Written → List ℕ → List (List ℕ) → List Value
last_value how text [] = []
last_value how text (word ∷ words) = value_of how text ∷ []

-- the arguments, at most so many, with commas between them; and what stands behind them
unfoldable pub values_in : Written → ℕ → List ℕ → Option (List Value × List ℕ)
values_in how zero text = None
values_in how (suc room) text =
    if starts_with nat_eq (behind_argument text) (codes ",")
    then (values_in how room (drop 1 (behind_argument text)) >>= λ rest. Some (value_of how (first_argument text) ∷ rest.0, rest.1))
    else Some (last_value how (first_argument text) (words_of (first_argument text)), behind_argument text)

-- strace names the arguments of clone(2), and writes the stack before the flags. The registers have them the other way round,
-- but for s390; in which of them the others stand is not the same everywhere
abbrev pub clone_registers : Architecture → List Value → List Value
clone_registers S390x args = slice_index_or args 0 Unknown ∷ slice_index_or args 1 Unknown ∷ Unknown ∷ Unknown ∷ Unknown ∷ []
clone_registers by args = slice_index_or args 1 Unknown ∷ slice_index_or args 0 Unknown ∷ Unknown ∷ Unknown ∷ Unknown ∷ []

abbrev pub in_registers : Architecture → List ℕ → List Value → List Value
in_registers by text args = if starts_with nat_eq text (codes "child_stack=") then clone_registers by args else args

-- ---- the call

-- behind a call that has returned: its parenthesis, and `= RESULT`
abbrev pub is_answer : List (List ℕ) → Bool
is_answer (first ∷ second ∷ words) = bytes_eq first (codes "=")
is_answer words = false

unfoldable pub is_returned : List ℕ → Bool
is_returned text = starts_with nat_eq text (codes ")") && is_answer (words_of (drop 1 text))

-- behind one that has not
abbrev pub unfinished : List ℕ
unfinished = codes " <unfinished ...>"

abbrev pub is_unfinished : List ℕ → Bool
is_unfinished text = ends_with nat_eq text unfinished

abbrev pub begun_part : List ℕ → List ℕ
begun_part text = take (length text - 17) text

-- a call, of which a line shows all, from behind its opening parenthesis on
unfoldable pub whole_call : Architecture → Written → ℕ → List ℕ → Option Call
whole_call by how nr text = do
  shown ← values_in how 6 text
  if is_returned shown.1 then Some (call_with nr (in_registers by text shown.0)) else None

-- one of which it shows the beginning
unfoldable pub begun_call : Architecture → Written → ℕ → List ℕ → Option Call
begun_call by how nr text = do
  shown ← values_in how 6 (begun_part text)
  none ← none_of (words_of shown.1)
  Some (call_begun nr (in_registers by text shown.0))

abbrev pub call_of : Architecture → Written → ℕ → List ℕ → Option Call
call_of by how nr text = if is_unfinished text then begun_call by how nr text else whole_call by how nr text

-- ---- the line

-- a call: its name, in front of which other words are marks, and what stands behind its opening parenthesis
unfoldable pub call_in : Architecture → List ℕ → List (List ℕ) → List ℕ → Option Call
call_in by name words text = do
  none ← none_of words
  nr ← number_in by name
  call_of by (written by name) nr text

abbrev pub made_or : Option Call → LogLine
made_or None = Unclear
made_or (Some call) = Made call

-- an event; but that the calls which follow are not of this architecture is not understood
abbrev pub event_or : Architecture → List ℕ → List (List ℕ) → LogLine
event_or by word words = if is_other_mode by word words then Unclear else Event

-- from the first word on that is no mark
unfoldable pub said_at : Architecture → List ℕ → List (List ℕ) → List ℕ → LogLine
said_at by word words text = if is_event word then event_or by word words else made_or (call_in by word words text)

abbrev pub said : Architecture → List (List ℕ) → List ℕ → LogLine
said by [] text = Unclear
said by (word ∷ words) text = if is_mark word then said by words text else said_at by word words text

-- by its words in front of the first parenthesis (40), of which the first may be marks, and what stands behind it
abbrev pub said_in : Architecture → List ℕ → LogLine
said_in by line = said by (words_in_front line) (after_first (λ byte. byte == 40) line)

-- spaces (32) alone, or nothing
abbrev pub is_blank : List ℕ → Bool
is_blank line = list_all (λ byte. byte == 32) line

-- what a line of strace says: a call, an event that is none, such as a line without a word, or nothing that is understood
abbrev pub strace_line : Architecture → List ℕ → LogLine
strace_line by line = if is_blank line then Event else said_in by line

-- ---- records of the kernel

-- the first word that is no mark begins what is no call
abbrev pub begins_event : List (List ℕ) → Bool
begins_event [] = false
begins_event (word ∷ words) = if is_mark word then begins_event words else is_event word

abbrev pub of_or : Option Call → Recorded
of_or None = recorded.Unclear
of_or (Some call) = recorded.Of call

-- what the fields of a record tell, or that there are none
abbrev pub recorded_in : Architecture → Option (List ℕ) → Recorded
recorded_in by None = recorded.NoRecord
recorded_in by (Some fields) = of_or (audited_call by (words_of fields))

-- whether a line is a record of the kernel, and the call that it tells of. What strace tells of an event is none
unfoldable pub recorded_of : Architecture → List ℕ → Recorded
recorded_of by line = if begins_event (words_in_front line) then recorded.NoRecord else recorded_in by (fields_in line)

-- what a record says, or else what a line of strace does
abbrev pub said_or : Recorded → LogLine → LogLine
said_or recorded.NoRecord other = other
said_or recorded.Unclear other = Unclear
said_or (recorded.Of call) other = Made call

-- what a line of a log says
abbrev pub line_of : Architecture → List ℕ → LogLine
line_of by line = said_or (recorded_of by line) (strace_line by line)
