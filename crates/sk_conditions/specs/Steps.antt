-- Filters through which all calls of a row go one way, so that a step for each instruction is enough to follow them.
use Rattle.std.specs.Prelude.{ℕ, ◌≡◌, ◌≤◌, ◌<◌, ◌⊎◌, false, List, Some, slice_get}
use Rattle.std.specs.List.{All}
use Rattle.sk_insn.specs.declared.insn.Insn.{Insn}
use Rattle.sk_insn.specs.Operations.{operation_of}
use Rattle.sk_survey.specs.Settling.{loads_other}
use Rattle.sk_conditions.specs.declared.explore.Stop.{Stop}
use Rattle.sk_conditions.specs.declared.explore.Stop.TheVariants as stop
use Rattle.sk_conditions.specs.declared.follow.Held.{Held}
use Rattle.sk_conditions.specs.declared.follow.Held.TheVariants.{Constant, Bits}
use Rattle.sk_conditions.specs.declared.follow.Next.{Next}
use Rattle.sk_conditions.specs.declared.follow.Next.TheVariants.{Skip, Fork, End, Untold}
use Rattle.sk_conditions.specs.declared.pair.Parts.{Parts}
use Rattle.sk_conditions.specs.declared.pair.Parts.TheVariants as parts
use Rattle.sk_conditions.specs.declared.standing.Comparing.{Comparing}
use Rattle.sk_conditions.specs.Followed.{parts_calls}

-- a filter has no conditional jump
abbrev pub IsStraight : List Insn → Type 0
IsStraight insns = (place : ℕ) (insn : Insn) → slice_get insns place ≡ Some insn → parts_calls (operation_of insn.code) ≡ false

-- or it loads no word but those that all calls with the numbers share: their architecture, and their number where it is one
abbrev pub LoadsShared : ℕ → ℕ → List Insn → Type 0
LoadsShared first last insns =
    (place : ℕ) (insn : Insn) → slice_get insns place ≡ Some insn → loads_other first last (operation_of insn.code) insn ≡ false

-- in either case all calls with the numbers go one way through it
abbrev pub GoOneWay : ℕ → ℕ → List Insn → Type 0
GoOneWay first last insns = IsStraight insns ⊎ LoadsShared first last insns

-- so they go through each filter of a chain, in whatever rows the numbers up to an end are told
abbrev pub NeverPart : ℕ → ℕ → List (List Insn) → Type 0
NeverPart from end programs = (first last : ℕ) → from ≤ first → first ≤ last → last < end → All (GoOneWay first last) programs

-- so they go through each filter of two chains that are compared
abbrev pub BothGoOneWay : Comparing → Type 0
BothGoOneWay chains =
    All (GoOneWay chains.numbers.first chains.numbers.last) chains.old.now × All (GoOneWay chains.numbers.first chains.numbers.last) chains.new.now

-- ---- what the code knows on its way there

-- A holds a constant
abbrev pub IsConstant : Held → Type 0
IsConstant (Constant k) = Unit {0}
IsConstant (Bits place mask) = ⊥

-- the calls go one way on
abbrev pub GoesOn : Next → Type 0
GoesOn (Skip skip after) = Unit {0}
GoesOn (Fork test) = ⊥
GoesOn (End value) = Unit {0}
GoesOn Untold = Unit {0}

-- and A still holds a constant
abbrev pub GoesOnKnown : Next → Type 0
GoesOnKnown (Skip skip after) = IsConstant after
GoesOnKnown (Fork test) = ⊥
GoesOnKnown (End value) = Unit {0}
GoesOnKnown Untold = Unit {0}

abbrev pub StopsOnce : Stop → Type 0
StopsOnce (stop.Fork test a held failed) = ⊥
StopsOnce (stop.End value) = Unit {0}
StopsOnce stop.Untold = Unit {0}

-- two trees have no test
abbrev pub AreEnds : Parts → Type 0
AreEnds (parts.Test test held failed) = ⊥
AreEnds (parts.Ends value another) = Unit {0}
