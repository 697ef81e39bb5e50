-- The path of a call through a filter: the instructions that the machine of McCanne and Jacobson (1993) executes, in their
-- order, with what the registers hold. Each does what the meaning of a filter says of it.
use Rattle.std.specs.Prelude.{ℕ, zero, suc, ◌+◌, List, [], ◌∷◌, Option, Some, None}
use Rattle.sk_insn.specs.declared.insn.Insn.{Insn}
use Rattle.sk_insn.specs.declared.record.Record.{Record}
use Rattle.sk_insn.specs.Operations.{operation_of}
use Rattle.sk_filter.specs.Meaning.{State, start, Effect, GoesOn, Ends, Fails, effect}
use Rattle.sk_show.specs.declared.tracing.Registers.{Registers}
use Rattle.sk_show.specs.declared.tracing.Step.{Step}

-- what A and X hold
abbrev pub registers_of : State → Registers
registers_of s = record { a = s.a; x = s.x }

-- what they hold behind an instruction: one that ends the filter leaves them
abbrev pub registers_behind : State → Effect → Registers
registers_behind s (GoesOn skip after) = registers_of after
registers_behind s (Ends value) = registers_of s
registers_behind s Fails = registers_of s

-- the place that an instruction leads to, if it leads on
abbrev pub leads : ℕ → Effect → Option ℕ
leads place (GoesOn skip after) = Some (place + (1 + skip))
leads place (Ends value) = None
leads place Fails = None

-- the instruction at a place, executed for a call in a state
abbrev pub step_at : ℕ → Insn → Record → State → Step
step_at place insn call s = record {
  place = place;
  insn = insn;
  before = registers_of s;
  behind = registers_behind s (effect (operation_of insn.code) insn call s);
  next = leads place (effect (operation_of insn.code) insn call s);
}

-- the steps that follow what an instruction does
abbrev pub steps_behind : Effect → (ℕ → State → List Step) → List Step
steps_behind (GoesOn skip s) follows = follows skip s
steps_behind (Ends value) follows = []
steps_behind Fails follows = []

-- the steps through the instructions that are left, the first of which stands at this place, where so many are passed over
abbrev pub steps_from : List Insn → ℕ → ℕ → Record → State → List Step
steps_from [] place skip call s = []
steps_from (insn ∷ rest) place (suc skip) call s = steps_from rest (place + 1) skip call s
steps_from (insn ∷ rest) place zero call s =
    step_at place insn call s
    ∷ steps_behind (effect (operation_of insn.code) insn call s) (λ skip after. steps_from rest (place + 1) skip call after)

-- the path through a filter
abbrev pub path_of : List Insn → Record → List Step
path_of insns call = steps_from insns 0 0 call start
