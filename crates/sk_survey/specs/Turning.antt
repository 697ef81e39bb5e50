-- The numbers at which tests of filters turn: told by the runs of two calls that differ in nothing but their numbers.
use Rattle.std.specs.Prelude.{ℕ, zero, suc, ◌≡◌, ◌≢◌, ◌+◌, ◌≤◌, ◌⊎◌, List, [], ◌∷◌, Some}
use Rattle.std.specs.Int.{w32, trailing_zeros}
use Rattle.sk_insn.specs.declared.insn.Insn.{Insn}
use Rattle.sk_insn.specs.declared.record.Record.{Record}
use Rattle.sk_insn.specs.declared.operation.Operand.TheVariants.{Constant}
use Rattle.sk_insn.specs.declared.operation.Comparison.{Comparison}
use Rattle.sk_insn.specs.declared.operation.Comparison.TheVariants.{CommonBits}
use Rattle.sk_insn.specs.declared.operation.Operation.TheVariants.{Branch}
use Rattle.sk_filter.specs.Paths.{At}
use Rattle.sk_filter.specs.Meaning.{State, start, effect, holds, GoesOn}

-- calls that differ at most in their numbers
abbrev pub DifferInNumber : Record → Record → Type 0
DifferInNumber call other = other ≡ record call { nr = other.nr }

-- after so many instructions the runs of two calls have come the same way to this place, in these states
abbrev pub ComeAlike : List Insn → Record → Record → ℕ → ℕ → State → State → Type 0
ComeAlike insns call other zero place s t = (place ≡ 0) × (s ≡ start) × (t ≡ start)
ComeAlike insns call other (suc steps) place s t =
    (before : ℕ) × (u : State) × (v : State) × ComeAlike insns call other steps before u v
    × At insns before (λ operation insn. (skip : ℕ)
    × (effect operation insn call u ≡ GoesOn skip s) × (effect operation insn other v ≡ GoesOn skip t) × (place ≡ before + 1 + skip))

-- what A holds at a place comes from the call's number: another number alone makes it another one, on the same way
pub record HoldsNumber (insns : List Insn) (place : ℕ) : Type 0 where
  pub call : Record
  pub other : Record
  pub differ : DifferInNumber call other
  pub steps : ℕ
  pub s : State
  pub t : State
  pub come : ComeAlike insns call other steps place s t
  pub apart : s.a ≢ t.a

-- there the filter compares it with a constant
abbrev pub TestsNumber : List Insn → Comparison → ℕ → Type 0
TestsNumber insns comparison k =
    (place : ℕ) × HoldsNumber insns place × At insns place (λ operation insn. (operation ≡ Some (Branch comparison Constant)) × (insn.k ≡ k))

-- the outcome of a comparison with a constant is another one for this number than for the one before it
abbrev pub Turns : Comparison → ℕ → ℕ → Type 0
Turns comparison k nr = (before : ℕ) × (nr ≡ before + 1) × (holds comparison nr k ≢ holds comparison before k)

-- it turns at few numbers: a test of bits does so at multiples of its lowest one, of which bit 26 has 64
abbrev pub TurnsSeldom : Comparison → ℕ → Type 0
TurnsSeldom CommonBits k = 26 ≤ trailing_zeros w32 k
TurnsSeldom comparison k = Unit {0}

-- a test of the number turns here that turns at few numbers
abbrev pub IsTurn : List Insn → ℕ → Type 0
IsTurn insns nr = (comparison : Comparison) × (k : ℕ) × TestsNumber insns comparison k × TurnsSeldom comparison k × Turns comparison k nr

-- one of some filter of the chain
abbrev pub IsTurnOf : List (List Insn) → ℕ → Type 0
IsTurnOf [] nr = ⊥
IsTurnOf (insns ∷ programs) nr = IsTurn insns nr ⊎ IsTurnOf programs nr
