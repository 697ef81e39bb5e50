-- Lemmas on paths, by recursion on the remaining instructions.
use Rattle.std.proofs.Common.{◌≡◌, ℕ, zero, suc, ◌+◌, ◌∙◌, List, [], ◌∷◌, ◌++◌, length, slice_get, Option, Some, None, refl, sym, ap, subst, append_assoc, arith}
use Rattle.sk_insn.specs.declared.insn.Insn.{Insn}
use Rattle.sk_insn.specs.declared.record.Record.{Record}
use Rattle.sk_insn.specs.Operations.{operation_of}
use Rattle.sk_filter.specs.Meaning.{Meaning, Returned, Stuck, State, start, Effect, GoesOn, Ends, Fails, effect, after_step, then_follows, meaning}
use Rattle.sk_show.specs.Runs.{ComesTo}
use Rattle.sk_show.proofs.Runs.{comes_further}
use Rattle.sk_show.specs.declared.tracing.Registers.{Registers}
use Rattle.sk_show.specs.declared.tracing.Step.{Step}
use Rattle.sk_show.specs.Paths.{leads, registers_behind, registers_of, step_at, steps_behind, steps_from}
use Rattle.sk_show.specs.PathLaws.{EndsWith, IsComeTo, PathsAreRuns}

-- what follows counts as far as its steps
behind_same : (e : Effect) (f g : ℕ → State → List Step) → ((skip : ℕ) (s : State) → f skip s ≡ g skip s) → steps_behind e f ≡ steps_behind e g
behind_same (GoesOn skip s) f g same = same skip s
behind_same (Ends value) f g same = refl
behind_same Fails f g same = refl

-- the steps from a place on are the one there, and then those from where it leads, counted from a first one on
steps_there : (insns : List Insn) (first n : ℕ) (insn : Insn) (call : Record) (s : State) → slice_get insns n ≡ Some insn
    → steps_from insns first n call s
    ≡ step_at (first + n) insn call s ∷ steps_behind (effect (operation_of insn.code) insn call s) (λ skip after. steps_from insns first (n + (1 + skip)) call after)
steps_there [] first n insn call s here = cc
steps_there (head ∷ rest) first zero insn call s here =
    let same : head ≡ insn = cc in
    let place : first ≡ first + zero = omega arith in
    let beyond = λ (skip : ℕ) (after : State). let e : suc skip ≡ zero + (1 + skip) = omega arith in ap (λ n. steps_from (head ∷ rest) first n call after) e in
    ap (λ p. step_at p head call s ∷ steps_behind (effect (operation_of head.code) head call s) (λ skip after. steps_from rest (first + 1) skip call after)) place
    ∙ ap (λ more. step_at (first + zero) head call s ∷ more) (behind_same (effect (operation_of head.code) head call s) _ _ beyond)
    ∙ ap (λ (i : Insn). step_at (first + zero) i call s ∷ steps_behind (effect (operation_of i.code) i call s) (λ skip after. steps_from (head ∷ rest) first (zero + (1 + skip)) call after)) same
steps_there (head ∷ rest) first (suc n) insn call s here =
    let place : first + 1 + n ≡ first + suc n = omega arith in
    let beyond = λ (skip : ℕ) (after : State). let e : suc (n + (1 + skip)) ≡ suc n + (1 + skip) = omega arith in ap (λ m. steps_from (head ∷ rest) first m call after) e in
    steps_there rest (first + 1) n insn call s here
    ∙ ap (λ p. step_at p insn call s ∷ steps_behind (effect (operation_of insn.code) insn call s) (λ skip after. steps_from rest (first + 1) (n + (1 + skip)) call after)) place
    ∙ ap (λ more. step_at (first + suc n) insn call s ∷ more) (behind_same (effect (operation_of insn.code) insn call s) _ _ beyond)

pub steps_at : (insns : List Insn) (place : ℕ) (insn : Insn) (call : Record) (s : State) → slice_get insns place ≡ Some insn
    → steps_from insns 0 place call s
    ≡ step_at place insn call s ∷ steps_behind (effect (operation_of insn.code) insn call s) (λ skip after. steps_from insns 0 (place + (1 + skip)) call after)
steps_at insns place insn call s here =
    let same : 0 + place ≡ place = omega arith in
    steps_there insns 0 place insn call s here
    ∙ ap (λ p. step_at p insn call s ∷ steps_behind (effect (operation_of insn.code) insn call s) (λ skip after. steps_from insns 0 (place + (1 + skip)) call after)) same

-- there is none past the last instruction
steps_past : (insns : List Insn) (first n : ℕ) (call : Record) (s : State) → slice_get insns n ≡ None → steps_from insns first n call s ≡ []
steps_past [] first n call s none = refl
steps_past (insn ∷ rest) first zero call s none = cc
steps_past (insn ∷ rest) first (suc n) call s none = steps_past rest (first + 1) n call s none

-- ---- the path is the run

-- one step more than what follows
one_more : (m : Meaning) (value steps : ℕ) → after_step m ≡ Returned value steps → (k : ℕ) × (m ≡ Returned value k) × (steps ≡ k + 1)
one_more (Returned value' k) value steps e = (k, cc, cc)
one_more Stuck value steps e = cc

counted_behind : (step : Step) (e : Effect) (means : ℕ → State → Meaning) (steps : ℕ → State → List Step) (value count : ℕ)
    → ((skip : ℕ) (s : State) (k : ℕ) → means skip s ≡ Returned value k → length (steps skip s) ≡ k)
    → then_follows e means ≡ Returned value count → length (step ∷ steps_behind e steps) ≡ count
counted_behind step (GoesOn skip s) means steps value count same e =
    let more = one_more (means skip s) value count e in
    let few = same skip s more.0 more.1 in
    let last = more.2 in
    omega arith
counted_behind step (Ends v) means steps value count same e = let one : 1 ≡ count = cc in omega arith
counted_behind step Fails means steps value count same e = cc

counted : (insns : List Insn) (first skip : ℕ) (call : Record) (s : State) (value steps : ℕ) → meaning insns skip call s ≡ Returned value steps
    → length (steps_from insns first skip call s) ≡ steps
counted [] first skip call s value steps e = cc
counted (insn ∷ rest) first (suc skip) call s value steps e = counted rest (first + 1) skip call s value steps e
counted (insn ∷ rest) first zero call s value steps e =
    counted_behind (step_at first insn call s) (effect (operation_of insn.code) insn call s) (λ skip s. meaning rest skip call s)
    (λ skip s. steps_from rest (first + 1) skip call s) value steps (λ skip s k. counted rest (first + 1) skip call s value k) e

ended_behind : (place : ℕ) (insn : Insn) (call : Record) (s : State) (e : Effect) → effect (operation_of insn.code) insn call s ≡ e
    → (means : ℕ → State → Meaning) (steps : ℕ → State → List Step) (value count : ℕ)
    → ((skip : ℕ) (after : State) (k : ℕ) → means skip after ≡ Returned value k → EndsWith call value (steps skip after))
    → then_follows e means ≡ Returned value count → EndsWith call value (step_at place insn call s ∷ steps_behind e steps)
ended_behind place insn call s (GoesOn skip after) does means steps value count same e =
    let more = one_more (means skip after) value count e in
    let rest = same skip after more.0 more.1 in
    (step_at place insn call s ∷ rest.0, rest.1, rest.2, rest.3, ap (λ l. step_at place insn call s ∷ l) rest.4, rest.5)
ended_behind place insn call s (Ends v) does means steps value count same e =
    let last : v ≡ value = cc in
    ([], place, insn, s, refl, does ∙ ap Ends last)
ended_behind place insn call s Fails does means steps value count same e = cc

ended : (insns : List Insn) (first skip : ℕ) (call : Record) (s : State) (value steps : ℕ) → meaning insns skip call s ≡ Returned value steps
    → EndsWith call value (steps_from insns first skip call s)
ended [] first skip call s value steps e = cc
ended (insn ∷ rest) first (suc skip) call s value steps e = ended rest (first + 1) skip call s value steps e
ended (insn ∷ rest) first zero call s value steps e =
    ended_behind first insn call s (effect (operation_of insn.code) insn call s) refl (λ skip s. meaning rest skip call s)
    (λ skip s. steps_from rest (first + 1) skip call s) value steps (λ skip s k. ended rest (first + 1) skip call s value k) e

come_behind : (m : ℕ) (insns : List Insn) (call : Record) (done place : ℕ) (insn : Insn) (s : State) (step : Step) (e : Effect)
    → slice_get insns place ≡ Some insn → effect (operation_of insn.code) insn call s ≡ e → ComesTo insns call done place s
    → ((skip : ℕ) (after : State) → ComesTo insns call (suc done) (place + (1 + skip)) after
    → slice_get (steps_from insns 0 (place + (1 + skip)) call after) m ≡ Some step → IsComeTo insns call (suc done + m) step)
    → slice_get (steps_behind e (λ skip after. steps_from insns 0 (place + (1 + skip)) call after)) m ≡ Some step → IsComeTo insns call (suc done + m) step
come_behind m insns call done place insn s step (GoesOn skip after) here does comes again there =
    again skip after (comes_further insns call done place insn s skip after comes here does) there
come_behind m insns call done place insn s step (Ends v) here does comes again there = cc
come_behind m insns call done place insn s step Fails here does comes again there = cc

come : (n : ℕ) (insns : List Insn) (call : Record) (done place : ℕ) (s : State) (step : Step) (found : Option Insn) → slice_get insns place ≡ found
    → ComesTo insns call done place s → slice_get (steps_from insns 0 place call s) n ≡ Some step → IsComeTo insns call (done + n) step
come n insns call done place s step None none comes there =
    let e = ap (λ l. slice_get l n) (steps_past insns 0 place call s none) in cc
come zero insns call done place s step (Some insn) here comes there =
    let e = ap (λ l. slice_get l 0) (steps_at insns place insn call s here) in
    let same : step_at place insn call s ≡ step = let first = sym e ∙ there in cc in
    let count : done ≡ done + 0 = omega arith in
    subst (λ it. IsComeTo insns call (done + 0) it) same (s, subst (λ k. ComesTo insns call k place s) count comes, here, refl)
come (suc m) insns call done place s step (Some insn) here comes there =
    let e = ap (λ l. slice_get l (suc m)) (steps_at insns place insn call s here) in
    let more : suc done + m ≡ done + suc m = omega arith in
    subst (λ k. IsComeTo insns call k step) more
    (come_behind m insns call done place insn s step (effect (operation_of insn.code) insn call s) here refl comes
    (λ skip after further there. come m insns call (suc done) (place + (1 + skip)) after step (slice_get insns (place + (1 + skip))) refl further there)
    (sym e ∙ there))

pub paths_are_runs : PathsAreRuns
paths_are_runs insns call value steps e = record {
  counted = counted insns 0 0 call start value steps e;
  comes = λ n step there.
      let same : 0 + n ≡ n = omega arith in
      subst (λ k. IsComeTo insns call k step) same (come n insns call 0 0 start step (slice_get insns 0) refl (refl, refl) there);
  ends = ended insns 0 0 call start value steps e;
}

-- ---- one step more of the path

-- the step of an instruction that does this, and the steps behind it
abbrev with_effect : ℕ → Insn → Registers → State → (ℕ → State → List Step) → Effect → List Step
with_effect place insn before s follows e =
    record { place = place; insn = insn; before = before; behind = registers_behind s e; next = leads place e } ∷ steps_behind e follows

-- the steps that are done and those from a place on, where the instruction there does this
done_with : (insns : List Insn) (place : ℕ) (insn : Insn) (call : Record) (s : State) (e : Effect) (before : Registers) (done whole : List Step)
    → slice_get insns place ≡ Some insn → effect (operation_of insn.code) insn call s ≡ e → before ≡ registers_of s
    → done ++ steps_from insns 0 place call s ≡ whole
    → done ++ with_effect place insn before s (λ skip after. steps_from insns 0 (place + (1 + skip)) call after) e ≡ whole
done_with insns place insn call s e before done whole here does same so_far =
    ap (λ b. done ++ with_effect place insn b s (λ skip after. steps_from insns 0 (place + (1 + skip)) call after) e) same
    ∙ ap (λ e. done ++ with_effect place insn (registers_of s) s (λ skip after. steps_from insns 0 (place + (1 + skip)) call after) e) (sym does)
    ∙ ap (λ l. done ++ l) (sym (steps_at insns place insn call s here))
    ∙ so_far

-- after one that leads on
pub path_on : (insns : List Insn) (place : ℕ) (insn : Insn) (call : Record) (s : State) (skip : ℕ) (after : State) (before behind : Registers) (done more whole : List Step)
    → slice_get insns place ≡ Some insn → effect (operation_of insn.code) insn call s ≡ GoesOn skip after → before ≡ registers_of s → behind ≡ registers_of after
    → done ++ steps_from insns 0 place call s ≡ whole
    → more ≡ done ++ record { place = place; insn = insn; before = before; behind = behind; next = Some (place + (1 + skip)) } ∷ []
    → more ++ steps_from insns 0 (place + (1 + skip)) call after ≡ whole
path_on insns place insn call s skip after before behind done more whole here does same left so_far next =
    let rest = steps_from insns 0 (place + (1 + skip)) call after in
    ap (λ l. l ++ rest) next
    ∙ append_assoc done _ rest
    ∙ ap (λ (b : Registers). done ++ record { place = place; insn = insn; before = before; behind = b; next = Some (place + (1 + skip)) } ∷ rest) left
    ∙ done_with insns place insn call s (GoesOn skip after) before done whole here does same so_far

-- after the one that ends the filter
pub path_ends : (insns : List Insn) (place : ℕ) (insn : Insn) (call : Record) (s : State) (value : ℕ) (before : Registers) (done more whole : List Step)
    → slice_get insns place ≡ Some insn → effect (operation_of insn.code) insn call s ≡ Ends value → before ≡ registers_of s
    → done ++ steps_from insns 0 place call s ≡ whole
    → more ≡ done ++ record { place = place; insn = insn; before = before; behind = before; next = None } ∷ []
    → more ≡ whole
path_ends insns place insn call s value before done more whole here does same so_far next =
    next
    ∙ ap (λ (b : Registers). done ++ record { place = place; insn = insn; before = before; behind = b; next = None } ∷ []) same
    ∙ done_with insns place insn call s (Ends value) before done whole here does same so_far
