-- The path through a filter is its run.
use Rattle.std.specs.Prelude.{ℕ, ◌≡◌, List, [], ◌∷◌, ◌++◌, length, slice_get, Some}
use Rattle.sk_insn.specs.declared.insn.Insn.{Insn}
use Rattle.sk_insn.specs.declared.record.Record.{Record}
use Rattle.sk_insn.specs.Operations.{operation_of}
use Rattle.sk_filter.specs.Meaning.{Returned, State, Ends, effect, meaning_of}
use Rattle.sk_show.specs.Runs.{ComesTo}
use Rattle.sk_show.specs.declared.tracing.Step.{Step}
use Rattle.sk_show.specs.Paths.{path_of, step_at}

-- after so many instructions the run comes to the place of the step, in the state in which the step is executed
abbrev pub IsComeTo : List Insn → Record → ℕ → Step → Type 0
IsComeTo insns call steps step =
    (s : State) × ComesTo insns call steps step.place s × (slice_get insns step.place ≡ Some step.insn)
    × (step ≡ step_at step.place step.insn call s)

-- the last step ends the filter with the value
abbrev pub EndsWith : Record → ℕ → List Step → Type 0
EndsWith call value path =
    (earlier : List Step) × (place : ℕ) × (insn : Insn) × (s : State) × (path ≡ earlier ++ step_at place insn call s ∷ [])
    × (effect (operation_of insn.code) insn call s ≡ Ends value)

-- the path has as many steps as the run has instructions, each where the run comes to, and ends with its value
pub record IsRun (insns : List Insn) (call : Record) (value steps : ℕ) (path : List Step) : Type 0 where
  pub counted : length path ≡ steps
  pub comes : (n : ℕ) (step : Step) → slice_get path n ≡ Some step → IsComeTo insns call n step
  pub ends : EndsWith call value path

abbrev pub PathsAreRuns : Type 0
PathsAreRuns =
    (insns : List Insn) (call : Record) (value steps : ℕ) → meaning_of insns call ≡ Returned value steps
    → IsRun insns call value steps (path_of insns call)
