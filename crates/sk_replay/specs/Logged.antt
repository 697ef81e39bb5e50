-- The numbers of the calls that logs have.
use Rattle.std.specs.Prelude.{ℕ, ◌==◌, ◌+◌, ◌≤◌, Bool, true, false, List, [], ◌∷◌}
use Rattle.std.specs.BTreeSet.{insert_key}
use Rattle.std.specs.List.{count_by, list_any}
use Rattle.std.specs.Ordering.{nat_cmp}
use Rattle.sk_text.specs.Lines.{lines_of}
use Rattle.sk_names.specs.declared.architecture.Architecture.{Architecture}
use Rattle.sk_replay.specs.declared.line.LogLine.{LogLine}
use Rattle.sk_replay.specs.declared.line.LogLine.TheVariants.{Made, Event, Unclear}
use Rattle.sk_replay.specs.Lines.{line_of}

-- the number of a line's call, if it is one, at its place among rising numbers
abbrev pub onto_numbers : LogLine → List ℕ → List ℕ
onto_numbers (Made call) numbers = insert_key nat_cmp numbers call.nr
onto_numbers Event numbers = numbers
onto_numbers Unclear numbers = numbers

-- rising numbers, and those of the calls of lines among them, each once
abbrev pub numbers_with : Architecture → List ℕ → List (List ℕ) → List ℕ
numbers_with by numbers [] = numbers
numbers_with by numbers (line ∷ lines) = onto_numbers (line_of by line) (numbers_with by numbers lines)

-- the numbers of the calls of logs, each once, in rising order
abbrev pub numbers_in : Architecture → List (List ℕ) → List ℕ
numbers_in by [] = []
numbers_in by (log ∷ logs) = numbers_with by (numbers_in by logs) (lines_of log)

abbrev pub is_call : LogLine → Bool
is_call (Made call) = true
is_call line = false

-- so many lines are calls
abbrev pub calls_in : Architecture → List (List ℕ) → ℕ
calls_in by lines = count_by (λ line. is_call (line_of by line)) lines

-- ---- the laws

-- each number is this one at least, and less than those behind it
abbrev pub RiseFrom : ℕ → List ℕ → Type 0
RiseFrom from [] = Unit {0}
RiseFrom from (first ∷ numbers) = (from ≤ first) × RiseFrom (first + 1) numbers

abbrev pub has_number : ℕ → LogLine → Bool
has_number nr (Made call) = call.nr == nr
has_number nr line = false

-- a line of a log is a call with the number
abbrev pub is_made_in : Architecture → ℕ → List ℕ → Bool
is_made_in by nr log = list_any (λ line. has_number nr (line_of by line)) (lines_of log)

-- so is a line of one of the logs
abbrev pub is_made : Architecture → ℕ → List (List ℕ) → Bool
is_made by nr logs = list_any (is_made_in by nr) logs

abbrev pub is_among : ℕ → List ℕ → Bool
is_among nr numbers = list_any (λ other. other == nr) numbers
