-- What is noted of A is so in each run, and labels stand where jumps go.
use Rattle.std.specs.Prelude.{ℕ, ◌≡◌, ◌<◌, ◌+◌, ◌^◌, ◌↔◌, ⊤, IsSome, true, false, List, Some, length, slice_get, slice_index_or}
use Rattle.sk_insn.specs.declared.insn.Insn.{Insn}
use Rattle.sk_insn.specs.declared.record.Record.{Record}
use Rattle.sk_filter.specs.Paths.{At, LeadsTo}
use Rattle.sk_filter.specs.Meaning.{State}
use Rattle.sk_show.specs.Runs.{ComesTo}
use Rattle.sk_show.specs.declared.held.Held.{Held}
use Rattle.sk_show.specs.declared.held.Held.TheVariants.{Number, Architecture, Other}
use Rattle.sk_show.specs.Coming.{comes_to}
use Rattle.sk_show.specs.Holding.{Way, ways_to}

-- A holds this on a call
abbrev pub IsHeld : Held → Record → ℕ → Type 0
IsHeld Number call a = a ≡ call.nr
IsHeld Architecture call a = a ≡ call.arch
IsHeld Other call a = ⊤

-- the number and the architecture each have 32 bits
abbrev pub FitWords : Record → Type 0
FitWords call = (call.nr < 2 ^ 32) × (call.arch < 2 ^ 32)

-- wherever the run on a call of whatever architecture comes to, A holds what it is taken to hold before the instruction there
abbrev pub NotesAreRight : Type 0
NotesAreRight =
    (insns : List Insn) (call : Record) (steps place : ℕ) (s : State) (way : Way) → FitWords call → ComesTo insns call steps place s
    → slice_get (ways_to insns) place ≡ Some way → IsHeld way.held call s.a

-- and where it comes to, it is found that calls with its number of an architecture come
abbrev pub ComersAreFound : Type 0
ComersAreFound =
    (insns : List Insn) (call : Record) (steps place : ℕ) (s : State) → FitWords call → place < length insns → ComesTo insns call steps place s
    → slice_index_or (comes_to call.arch insns) place false ≡ true

-- a jump goes there: some instruction leads to the place, and not as to the next one
abbrev pub IsTarget : List Insn → ℕ → Type 0
IsTarget insns place = (from : ℕ) × (from + 1 < place) × At insns from (LeadsTo from place)

-- an instruction has a label where a jump goes to it, and only there
abbrev pub LabelsAreTargets : Type 0
LabelsAreTargets =
    (insns : List Insn) (place : ℕ) (way : Way) → slice_get (ways_to insns) place ≡ Some way → IsSome way.jump ↔ IsTarget insns place
