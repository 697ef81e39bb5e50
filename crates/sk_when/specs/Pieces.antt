-- Two chains compared on every call: what holds of each piece of the numbers, and of all.
use Rattle.std.specs.Prelude.{ℕ, ◌≡◌, ◌+◌, ◌≤◌, true, false, if◌then◌else◌, Bool, is_some, IsTrue, List, [], ◌∷◌, Option, None}
use Rattle.std.specs.List.{All, Contains, list_any}
use Rattle.sk_names.specs.declared.architecture.Architecture.{Architecture}
use Rattle.sk_names.specs.Names.{name_on}
use Rattle.sk_insn.specs.declared.insn.Insn.{Insn}
use Rattle.sk_insn.specs.declared.record.Record.{Record}
use Rattle.sk_filter.specs.Verdict.{verdict_of}
use Rattle.sk_survey.specs.Answers.{IsCallOf}
use Rattle.sk_conditions.specs.declared.differences.Verdicts.{Verdicts}
use Rattle.sk_conditions.specs.declared.numbers.Numbers.{Numbers}
use Rattle.sk_conditions.specs.declared.standing.Comparing.{Comparing}
use Rattle.sk_conditions.specs.declared.standing.Relation.{Relation}
use Rattle.sk_conditions.specs.Comparing.{relates}
use Rattle.sk_conditions.specs.Differing.{SaysOf}
use Rattle.sk_terms.specs.declared.lines.Line.{Line}
use Rattle.sk_terms.specs.Lines.{meets_line}
use Rattle.sk_terms.specs.Numbers.{TellsNoWhole}
use Rattle.sk_when.specs.declared.diff_engine.Finding.{Finding}
use Rattle.sk_when.specs.declared.diff_engine.Finding.TheVariants as finding
use Rattle.sk_when.specs.declared.piece.Calls.{Calls}
use Rattle.sk_when.specs.declared.piece.Calls.TheVariants.{Every, Meeting}
use Rattle.sk_when.specs.declared.piece.Outcome.{Outcome}
use Rattle.sk_when.specs.declared.piece.Outcome.TheVariants.{Undecided, Apart}
use Rattle.sk_when.specs.declared.piece.Part.{Part}
use Rattle.sk_when.specs.declared.piece.Piece.{Piece}
use Rattle.sk_when.specs.declared.parts.Said.{Said}
use Rattle.sk_when.specs.declared.parts.Said.TheVariants as said
use Rattle.sk_when.specs.declared.parts.Said.TheVariants.{Alike, Unknown}

-- whether the relation holds between the verdicts of two chains on a call
abbrev pub stands_on : Relation → List (List Insn) → List (List Insn) → Record → Bool
stands_on relation old new call = relates relation (verdict_of old call) (verdict_of new call)

-- these are the verdicts on the call
abbrev pub HasVerdicts : List (List Insn) → List (List Insn) → Verdicts → Record → Type 0
HasVerdicts old new it call = (verdict_of old call ≡ it.old) × (verdict_of new call ≡ it.new)

-- the calls that a part speaks of
abbrev pub meets_calls : Calls → Record → Bool
meets_calls Every call = true
meets_calls (Meeting line) call = meets_line line call

-- where it is decided, the calls have these verdicts, for which the relation fails, and the one that is shown is one of them
abbrev pub IsSo : Relation → List (List Insn) → List (List Insn) → Numbers → Calls → Outcome → Type 0
IsSo relation old new numbers calls Undecided = Unit {0}
IsSo relation old new numbers calls (Apart it shown) =
    ((call : Record) → IsCallOf numbers.first numbers.last call → meets_calls calls call ≡ true → HasVerdicts old new it call)
    × (relates relation it.old it.new ≡ false)
    × (IsCallOf numbers.first numbers.last shown × (meets_calls calls shown ≡ true))

-- a condition tells no range of numbers that is all of these
abbrev pub TellNoWhole : Numbers → Calls → Type 0
TellNoWhole numbers Every = Unit {0}
TellNoWhole numbers (Meeting line) = TellsNoWhole numbers.first numbers.last line

abbrev pub HoldsOf : Relation → List (List Insn) → List (List Insn) → Numbers → Part → Type 0
HoldsOf relation old new numbers part = IsSo relation old new numbers part.calls part.outcome × TellNoWhole numbers part.calls

-- a call on which the relation fails is one that a part speaks of
abbrev pub Cover : Relation → List (List Insn) → List (List Insn) → Numbers → List Part → Type 0
Cover relation old new numbers parts =
    (call : Record) → IsCallOf numbers.first numbers.last call → stands_on relation old new call ≡ false
    → list_any (λ part. meets_calls part.calls call) parts ≡ true

abbrev pub HoldsPart : Comparing → Part → Type 0
HoldsPart chains part = HoldsOf chains.relation chains.old.now chains.new.now chains.numbers part

-- a call with one of the numbers on which the relation fails
abbrev pub Fails : Comparing → Record → Type 0
Fails chains call =
    IsCallOf chains.numbers.first chains.numbers.last call × (stands_on chains.relation chains.old.now chains.new.now call ≡ false)

-- so a piece says of its numbers
abbrev pub Holds : Relation → List (List Insn) → List (List Insn) → Piece → Type 0
Holds relation old new piece =
    All (HoldsOf relation old new piece.numbers) piece.parts.items × Cover relation old new piece.numbers piece.parts.items

-- whatever has this number among the pairs is this one, for which the relation fails
abbrev pub IsPairOf : Relation → List Verdicts → Option ℕ → Verdicts → Type 0
IsPairOf relation pairs number it =
    ((old new : ℕ) → SaysOf relation pairs old new number → (old ≡ it.old) × (new ≡ it.new)) × (relates relation it.old it.new ≡ false)

-- so says an end of the tree of differences that has this number
abbrev pub Says : Relation → List Verdicts → Option ℕ → Said → Type 0
Says relation pairs number Alike = (old new : ℕ) → SaysOf relation pairs old new number → relates relation old new ≡ true
Says relation pairs number (said.Apart it) = IsPairOf relation pairs number it
Says relation pairs number Unknown = (old new : ℕ) → SaysOf relation pairs old new number → number ≡ None

-- the pair, with one of the calls, which meets the line
abbrev pub ShowsOf : Line → List Record → Verdicts → Outcome → Type 0
ShowsOf line calls pair Undecided = Unit {0}
ShowsOf line calls pair (Apart it call) = (it ≡ pair) × Contains calls call × (meets_line line call ≡ true)

-- a line says of the calls that meet it which verdicts they get
abbrev pub SaysOfLine : Comparing → List Verdicts → Line → Type 0
SaysOfLine chains pairs line =
    (call : Record) → IsCallOf chains.numbers.first chains.numbers.last call → meets_line line call ≡ true
    → SaysOf chains.relation pairs (verdict_of chains.old.now call) (verdict_of chains.new.now call) line.value

-- pieces that rise from a number on without a gap, to an end, and what each says holds
abbrev pub AreCompared : Relation → List (List Insn) → List (List Insn) → ℕ → ℕ → List Piece → Type 0
AreCompared relation old new from end [] = from ≡ end
AreCompared relation old new from end (piece ∷ pieces) =
    (piece.numbers.first ≡ from) × (from ≤ piece.numbers.last) × Holds relation old new piece
    × AreCompared relation old new (piece.numbers.last + 1) end pieces

-- these numbers are one alone, which has a name on the architecture
abbrev pub IsNamed : Architecture → Numbers → Type 0
IsNamed architecture numbers = (numbers.first ≡ numbers.last) × IsTrue (is_some (name_on architecture numbers.first))

-- if one of these numbers has a name on the architecture, it is the only one
abbrev pub NamedAreAlone : Architecture → Numbers → Type 0
NamedAreAlone architecture numbers =
    (nr : ℕ) → IsTrue (is_some (name_on architecture nr)) → numbers.first ≤ nr → nr ≤ numbers.last
    → (numbers.first ≡ nr) × (numbers.last ≡ nr)

abbrev pub NamedAreAloneIn : Architecture → Piece → Type 0
NamedAreAloneIn architecture piece = NamedAreAlone architecture piece.numbers

-- verdicts are told, with a call
abbrev pub is_decided : Outcome → Bool
is_decided Undecided = false
is_decided (Apart it call) = true

abbrev pub shows_call : Part → Bool
shows_call part = is_decided part.outcome

abbrev pub IsShown : Part → Type 0
IsShown part = shows_call part ≡ true

abbrev pub is_apart : Piece → Bool
is_apart piece = list_any shows_call piece.parts.items

-- so it is of each part
abbrev pub AreDecided : Piece → Type 0
AreDecided piece = All IsShown piece.parts.items

-- there are calls on which it may fail
abbrev pub has_parts : List Part → Bool
has_parts [] = false
has_parts (part ∷ parts) = true

abbrev pub may_fail : Piece → Bool
may_fail piece = has_parts piece.parts.items

-- what is said of all pieces
abbrev pub finding_of : List Piece → Finding
finding_of pieces =
    if list_any is_apart pieces then finding.Fails
    else if list_any may_fail pieces then finding.Undecided
    else finding.Holds

-- the same verdicts, or none
abbrev pub AreAlike : Outcome → Outcome → Type 0
AreAlike Undecided Undecided = Unit {0}
AreAlike (Apart it call) (Apart other another) = it ≡ other
AreAlike one other = ⊥

-- no part, or one each of every call, with the same verdicts
abbrev pub ArePartsOfOne : List Part → List Part → Type 0
ArePartsOfOne [] [] = Unit {0}
ArePartsOfOne (part ∷ []) (other ∷ []) = (part.calls ≡ Every) × (other.calls ≡ Every) × AreAlike part.outcome other.outcome
ArePartsOfOne parts others = ⊥
