-- What `ask lint` looks for in a chain: calls that are the same one to Linux and get other verdicts, by bits of their arguments that
-- it does not read. What it reads is told by the types of its SYSCALL_DEFINEs.
use Rattle.std.specs.Prelude.{ℕ, ◌≡◌, ◌+◌, ◌/◌, ◌%◌, ◌^◌, ◌==◌, ◌&&◌, ◌||◌, not, nat_lt, Bool, true, false, if◌then◌else◌, List, map, slice_index_or, slice_set}
use Rattle.std.specs.List.{All, Contains, filter, list_any, range_with_len}
use Rattle.sk_arguments.specs.declared.kinds.Kind.{Kind}
use Rattle.sk_arguments.specs.declared.naming.Naming.{Naming}
use Rattle.sk_arguments.specs.declared.kinds.Kind.TheVariants as kind
use Rattle.sk_arguments.specs.Reading.{kind_of, narrow_numbers, unread_places}
use Rattle.sk_names.specs.declared.architecture.Architecture.{Architecture}
use Rattle.sk_names.specs.declared.architecture.Architecture.TheVariants as architecture
use Rattle.sk_insn.specs.declared.insn.Insn.{Insn}
use Rattle.sk_insn.specs.declared.record.Record.{Record}
use Rattle.sk_insn.specs.Record.{IsNative}
use Rattle.sk_filter.specs.Verdict.{verdict_of}
use Rattle.sk_survey.specs.ByArchitecture.{chain_loads}
use Rattle.sk_survey.specs.Taken.{IsSameCall, chain_taking, taken_as}
use Rattle.sk_conditions.specs.declared.standing.Relation.TheVariants.{Same, AsStrict}
use Rattle.sk_conditions.specs.Comparing.{relates}
use Rattle.sk_when.specs.declared.concern.Concern.{Concern}
use Rattle.sk_when.specs.declared.concern.Concern.TheVariants as concern
use Rattle.sk_when.specs.declared.diff_engine.Finding.{Finding}
use Rattle.sk_when.specs.declared.diff_engine.Finding.TheVariants as finding
use Rattle.sk_when.specs.declared.names.Names.{Names}
use Rattle.sk_when.specs.Naming.{names_of}
use Rattle.sk_when.specs.declared.piece.Calls.{Calls}
use Rattle.sk_when.specs.declared.piece.Outcome.{Outcome}
use Rattle.sk_when.specs.declared.piece.Outcome.TheVariants.{Undecided, Apart}
use Rattle.sk_when.specs.declared.piece.Part.{Part}
use Rattle.sk_when.specs.declared.piece.Piece.{Piece}
use Rattle.sk_when.specs.Pieces.{Holds, meets_calls}

-- ---- what is looked for

-- calls that are the same one to Linux get the same verdict
abbrev pub IsClean : List (List Insn) → Type 0
IsClean programs = (one other : Record) → IsSameCall one other → verdict_of programs one ≡ verdict_of programs other

-- no call gets a verdict that is less strict than that on the call that Linux takes it for
abbrev pub IsNowhereLooser : List (List Insn) → Type 0
IsNowhereLooser programs =
    (call : Record) → IsNative call → relates AsStrict (verdict_of programs (taken_as call)) (verdict_of programs call) ≡ true

-- ---- which numbers are looked at

-- of calls with this number a filter loads a word that Linux does not read
abbrev pub is_asked : List (List Insn) → ℕ → Bool
is_asked programs nr = list_any (λ place. chain_loads place programs) (unread_places nr)

abbrev pub number_of : Piece → ℕ
number_of piece = piece.numbers.first

-- a piece of one number tells of its calls where the verdict is not that on the call that Linux takes a call for
abbrev pub IsLinted : List (List Insn) → Piece → Type 0
IsLinted programs piece =
    (piece.numbers.first ≡ piece.numbers.last) × Holds Same (chain_taking piece.numbers.first programs) programs piece

-- each such number has a piece, in the order of the table
pub record AreLinted (programs : List (List Insn)) (pieces : List Piece) : Type 0 where
  pub numbers : map number_of pieces ≡ filter (is_asked programs) narrow_numbers
  pub each : (nr : ℕ) → is_asked programs nr ≡ true → Contains (map number_of pieces) nr
  pub holds : All (IsLinted programs) pieces

-- ---- what is told of a part

-- by whose names the calls with a number are told: those of x32 have bit 30
abbrev pub named_by : ℕ → Architecture
named_by nr = if nat_lt nr (2 ^ 30) then architecture.X86_64 else architecture.X32

abbrev pub lint_names : Naming → ℕ → Names
lint_names naming nr = names_of naming (named_by nr)

-- the upper half of an argument
abbrev pub upper_of : Record → ℕ → ℕ
upper_of call i = slice_index_or call.args i 0 / 2 ^ 32

-- the call with 1 there
abbrev pub with_one_above : Record → ℕ → Record
with_one_above call i = record call { args = slice_set call.args i (2 ^ 32 + slice_index_or call.args i 0 % 2 ^ 32) }

abbrev pub is_int : Kind → Bool
is_int kind.Int = true
is_int other = false

-- a call has the sign of an int in the upper half of an argument, and what is said of the call is not said with 1 in its place
abbrev pub needs_sign : Calls → Record → ℕ → Bool
needs_sign calls call i =
    (is_int (kind_of call.nr i) && (upper_of call i == 0xffffffff)) && not (meets_calls calls (with_one_above call i))

abbrev pub needs_a_sign : Calls → Record → Bool
needs_a_sign calls call = list_any (needs_sign calls call) (range_with_len 0 6)

-- the chain is looser than to what Linux takes the calls for; or it is as strict or stricter, with a number that has the sign of an
-- int in it, which a program in C does not pass; or so it is with other bits, which refuses no less
abbrev pub concern_by : Calls → Outcome → Concern
concern_by calls Undecided = concern.Undecided
concern_by calls (Apart it call) =
    if not (relates AsStrict it.old it.new) then concern.Looser
    else if needs_a_sign calls call then concern.Signed
    else concern.Stricter

abbrev pub concern_of : Part → Concern
concern_of part = concern_by part.calls part.outcome

abbrev pub is_concern : Concern → Concern → Bool
is_concern concern.Looser concern.Looser = true
is_concern concern.Signed concern.Signed = true
is_concern concern.Undecided concern.Undecided = true
is_concern concern.Stricter concern.Stricter = true
is_concern one other = false

abbrev pub has_concern : Concern → Part → Bool
has_concern it part = is_concern (concern_of part) it

-- some part of a piece is so
abbrev pub piece_has : Concern → Piece → Bool
piece_has it piece = list_any (has_concern it) piece.parts.items

abbrev pub some_has : Concern → List Piece → Bool
some_has it pieces = list_any (piece_has it) pieces

-- ---- what is found

abbrev pub lint_finding : List Piece → Finding
lint_finding pieces =
    if some_has concern.Looser pieces || some_has concern.Signed pieces then finding.Fails
    else if some_has concern.Undecided pieces then finding.Undecided
    else finding.Holds
