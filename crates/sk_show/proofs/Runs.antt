-- How the run of a filter comes to its end.
use Rattle.std.proofs.Common.{◌≡◌, ℕ, zero, suc, ◌+◌, ◌<◌, List, length, Some, slice_get, slice_index_or, sym, ap, ◌∙◌, arith}
use Rattle.std.proofs.lemmas.Option.{slice_get-get_or}
use Rattle.sk_insn.specs.declared.insn.Insn.{Insn}
use Rattle.sk_insn.specs.declared.record.Record.{Record}
use Rattle.sk_insn.specs.Operations.{operation_of}
use Rattle.sk_filter.specs.Fits.{TakesConstant}
use Rattle.sk_filter.specs.Valid.{IsValid}
use Rattle.sk_filter.proofs.ValidPrograms.{valid_fits, valid_leads}
use Rattle.sk_filter.specs.Meaning.{Stuck, State, effect, GoesOn, Fails, start, then_follows, meaning, meaning_of}
use Rattle.sk_filter.specs.MachineState.{after_steps}
use Rattle.sk_filter.proofs.Meanings.{after_none, goes_on, ends, meaning_at}
use Rattle.sk_filter.proofs.ValidMeanings.{valid_returns}
use Rattle.sk_filter.proofs.ValidSteps.{leads_to}
use Rattle.sk_filter.specs.Verdict.{meaning_value}
use Rattle.sk_show.specs.Runs.{ComesTo, EndsAt}

-- the instruction at a place, where there is one
abbrev no_insn : Insn
no_insn = record { code = 0; jt = 0; jf = 0; k = 0 }

abbrev pub insn_at : List Insn → ℕ → Insn
insn_at insns place = slice_index_or insns place no_insn

pub is_there : (insns : List Insn) (place : ℕ) → place < length insns → slice_get insns place ≡ Some (insn_at insns place)
is_there insns place inside = slice_get-get_or insns place no_insn inside

pub takes_constant : (insns : List Insn) → IsValid insns → (place : ℕ) → place < length insns
    → TakesConstant (operation_of (insn_at insns place).code) (insn_at insns place)
takes_constant insns valid place inside = (valid_fits insns valid place (insn_at insns place) (is_there insns place inside)).0

-- what a filter means is what is left to be done where its run comes to
pub means_what_is_left : (insns : List Insn) (call : Record) (steps place : ℕ) (s : State) → ComesTo insns call steps place s
    → meaning_of insns call ≡ after_steps steps (meaning insns place call s)
means_what_is_left insns call zero place s comes =
    after_none (meaning_of insns call)
    ∙ ap (λ n. after_steps 0 (meaning insns n call start)) (sym comes.0)
    ∙ ap (λ from. after_steps 0 (meaning insns place call from)) (sym comes.1)
means_what_is_left insns call (suc steps) place s (before, earlier, comes, (insn, here, (skip, does, lands))) =
    let more : steps + 1 ≡ suc steps = omega arith in
    let there : before + (1 + skip) ≡ place = omega arith in
    goes_on insns before insn call earlier skip s steps (meaning_of insns call) here does (means_what_is_left insns call steps before earlier comes)
    ∙ ap (λ n. after_steps n (meaning insns (before + (1 + skip)) call s)) more
    ∙ ap (λ n. after_steps (suc steps) (meaning insns n call s)) there

-- a filter whose run ends with a value answers it
pub ends_with : (insns : List Insn) (call : Record) (value place : ℕ) → EndsAt insns call value place → meaning_value (meaning_of insns call) ≡ value
ends_with insns call value place (steps, s, comes, (insn, here, does)) =
    ap meaning_value (ends insns place insn call s value steps (meaning_of insns call) here does (means_what_is_left insns call steps place s comes))

-- control stays inside
pub stays_inside : (insns : List Insn) → IsValid insns → (call : Record) (place : ℕ) (insn : Insn) (s : State) (skip : ℕ) (after : State)
    → slice_get insns place ≡ Some insn → effect (operation_of insn.code) insn call s ≡ GoesOn skip after → place + (1 + skip) < length insns
stays_inside insns valid call place insn s skip after here does =
    valid_leads insns valid place (place + (1 + skip)) (insn, here, leads_to place (operation_of insn.code) insn call s skip after does)

-- one instruction more
pub comes_further : (insns : List Insn) (call : Record) (steps place : ℕ) (insn : Insn) (s : State) (skip : ℕ) (after : State)
    → ComesTo insns call steps place s → slice_get insns place ≡ Some insn → effect (operation_of insn.code) insn call s ≡ GoesOn skip after
    → ComesTo insns call (suc steps) (place + (1 + skip)) after
comes_further insns call steps place insn s skip after comes here does =
    (place, s, comes, (insn, here, (skip, does, omega arith)))

-- no instruction that the run of a valid filter comes to is without a meaning
pub never_stuck : (insns : List Insn) → IsValid insns → (call : Record) (steps place : ℕ) (insn : Insn) (s : State)
    → ComesTo insns call steps place s → slice_get insns place ≡ Some insn → effect (operation_of insn.code) insn call s ≡ Fails → ⊥
never_stuck insns valid call steps place insn s comes here does =
    let returns = (valid_returns insns valid call).2 in
    let stuck : meaning_of insns call ≡ Stuck =
    means_what_is_left insns call steps place s comes
    ∙ ap (after_steps steps) (meaning_at insns place insn call s here ∙ ap (λ e. then_follows e (λ skip s. meaning insns (place + (1 + skip)) call s)) does) in
    cc
