-- The run of a filter on a call, place by place: from the first instruction, each in the state that those before it
-- left, to the one that ends the filter.
use Rattle.std.specs.Prelude.{ℕ, zero, suc, ◌≡◌, ◌+◌, List}
use Rattle.sk_insn.specs.declared.insn.Insn.{Insn}
use Rattle.sk_insn.specs.declared.record.Record.{Record}
use Rattle.sk_filter.specs.Paths.{At}
use Rattle.sk_filter.specs.Meaning.{State, start, effect, GoesOn, Ends}

-- after so many instructions the run has come to this place, in this state
abbrev pub ComesTo : List Insn → Record → ℕ → ℕ → State → Type 0
ComesTo insns call zero place s = (place ≡ 0) × (s ≡ start)
ComesTo insns call (suc steps) place s =
    (before : ℕ) × (earlier : State) × ComesTo insns call steps before earlier
    × At insns before (λ operation insn. (skip : ℕ) × (effect operation insn call earlier ≡ GoesOn skip s) × (place ≡ before + 1 + skip))

-- the run comes to this place, and the instruction there ends it with the value
abbrev pub EndsAt : List Insn → Record → ℕ → ℕ → Type 0
EndsAt insns call value place =
    (steps : ℕ) × (s : State) × ComesTo insns call steps place s
    × At insns place (λ operation insn. effect operation insn call s ≡ Ends value)
