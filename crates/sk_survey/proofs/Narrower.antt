-- A filter that answers calls by what many have in common answers so on fewer of them.
use Rattle.std.proofs.Common.{◌≡◌, ◌≢◌, ℕ, zero, suc, ◌+◌, ◌≤◌, ◌==◌, ◌&&◌, ◌⊎◌, inl, inr, Bool, true, false, not, if◌then◌else◌, List, [], ◌∷◌, map, replicate, Option, Some, None, refl, sym, ap, subst, ◌∙◌, arith}
use Rattle.std.proofs.lemmas.Bool.{cases_eq, ne_eqb}
use Rattle.sk_insn.specs.declared.insn.Insn.{Insn}
use Rattle.sk_insn.specs.declared.record.Record.{Record}
use Rattle.sk_insn.specs.declared.operation.Register.TheVariants.{Accumulator}
use Rattle.sk_insn.specs.declared.operation.Operand.TheVariants.{Constant, IndexRegister}
use Rattle.sk_insn.specs.declared.operation.Arithmetic.TheVariants.{Divide}
use Rattle.sk_insn.specs.declared.operation.Operation.{Operation}
use Rattle.sk_insn.specs.declared.operation.Operation.TheVariants.{LoadRecord, LoadConstant, LoadScratch, LoadLength, StoreScratch, Compute, Negate, Jump, Branch, ReturnConstant, ReturnAccumulator, CopyToIndex, CopyToAccumulator}
use Rattle.sk_insn.specs.Operations.{operation_of}
use Rattle.sk_insn.specs.Record.{IsNative, native, word_of}
use Rattle.sk_insn.proofs.RecordWords.{native_there}
use Rattle.sk_filter.specs.Meaning.{Meaning, Returned, Stuck, State, Effect, GoesOn, Ends, Fails, effect, loaded, after_step, then_follows, meaning, start}
use Rattle.sk_survey.specs.Settling.{is_common_word, loads_other, without_other, SettlesOn}
use Rattle.sk_survey.proofs.WithoutOthers.{bare, no_operation}

-- ---- what instructions do for two calls

-- what loads no word of the record does the same for each
pub same_effect : (o : Option Operation) (insn : Insn) (call other : Record) (s : State) → o ≢ Some LoadRecord → effect o insn other s ≡ effect o insn call s
same_effect None insn call other s apart = refl
same_effect (Some LoadRecord) insn call other s apart = absurd (apart refl)
same_effect (Some (LoadConstant r)) insn call other s apart = refl
same_effect (Some (LoadScratch r)) insn call other s apart = refl
same_effect (Some (LoadLength r)) insn call other s apart = refl
same_effect (Some (StoreScratch r)) insn call other s apart = refl
same_effect (Some (Compute arithmetic Constant)) insn call other s apart = refl
same_effect (Some (Compute Divide IndexRegister)) insn call other s apart = refl
same_effect (Some (Compute arithmetic IndexRegister)) insn call other s apart = refl
same_effect (Some Negate) insn call other s apart = refl
same_effect (Some Jump) insn call other s apart = refl
same_effect (Some (Branch comparison right)) insn call other s apart = refl
same_effect (Some ReturnConstant) insn call other s apart = refl
same_effect (Some ReturnAccumulator) insn call other s apart = refl
same_effect (Some CopyToIndex) insn call other s apart = refl
same_effect (Some CopyToAccumulator) insn call other s apart = refl

pub is_load : (o : Option Operation) → (o ≡ Some LoadRecord) ⊎ (o ≢ Some LoadRecord)
is_load None = inr (λ e. cc)
is_load (Some LoadRecord) = inl refl
is_load (Some operation) = inr (λ e. cc)

-- an instruction has no meaning, or the other one does for the other call what it does for this one
abbrev pub DoesAlike : Record → Record → Insn → Insn → Type 0
DoesAlike call other insn changed =
    (operation_of insn.code ≡ None)
    ⊎ ((s : State) → effect (operation_of insn.code) insn call s ≡ effect (operation_of changed.code) changed other s)

one_more : (m : Meaning) (value steps : ℕ) → after_step m ≡ Returned value steps → (k : ℕ) × (m ≡ Returned value k) × (Returned value (k + 1) ≡ Returned value steps)
one_more (Returned value' k) value steps e = (k, cc, cc)
one_more Stuck value steps e = cc

follows_alike : (e e' : Effect) (f g : ℕ → State → Meaning) (value steps : ℕ) → e ≡ e'
    → ((skip : ℕ) (s : State) (k : ℕ) → f skip s ≡ Returned value k → g skip s ≡ Returned value k)
    → then_follows e f ≡ Returned value steps → then_follows e' g ≡ Returned value steps
follows_alike (GoesOn skip s) e' f g value steps same on means =
    let more = one_more (f skip s) value steps means in
    subst (λ e. then_follows e g ≡ Returned value steps) same (ap after_step (on skip s more.0 more.1) ∙ more.2)
follows_alike (Ends v) e' f g value steps same on means = subst (λ e. then_follows e g ≡ Returned value steps) same means
follows_alike Fails e' f g value steps same on means = cc

pub returns_alike : (f g : Insn → Insn) (call other : Record) → ((insn : Insn) → DoesAlike call other (f insn) (g insn))
    → (insns : List Insn) (skip : ℕ) (s : State) (value steps : ℕ) → meaning (map f insns) skip call s ≡ Returned value steps
    → meaning (map g insns) skip other s ≡ Returned value steps
returns_alike f g call other alike [] skip s value steps means = cc
returns_alike f g call other alike (insn ∷ rest) (suc skip) s value steps means = returns_alike f g call other alike rest skip s value steps means
returns_alike f g call other alike (insn ∷ rest) zero s value steps means = elim (alike insn) [
  | inl none ↦
      let stuck : Stuck ≡ Returned value steps =
      sym (ap (λ o. then_follows (effect o (f insn) call s) (λ skip s. meaning (map f rest) skip call s)) none) ∙ means in
      cc
  | inr same ↦
      follows_alike _ _ (λ skip s. meaning (map f rest) skip call s) (λ skip s. meaning (map g rest) skip other s) value steps (same s)
      (λ skip s k. returns_alike f g call other alike rest skip s value k) means
]

-- ---- loads that are left out

loads_none : (first last : ℕ) (o : Option Operation) (insn : Insn) → o ≢ Some LoadRecord → loads_other first last o insn ≡ false
loads_none first last None insn apart = refl
loads_none first last (Some LoadRecord) insn apart = absurd (apart refl)
loads_none first last (Some operation) insn apart = refl

-- what loads no word of the record stays
pub kept_other : (first last : ℕ) (insn : Insn) → operation_of insn.code ≢ Some LoadRecord → without_other first last insn ≡ insn
kept_other first last insn apart = ap (λ b. if b then bare insn else insn) (loads_none first last (operation_of insn.code) insn apart)

-- so does what loads the architecture
pub kept_architecture : (first last : ℕ) (insn : Insn) → operation_of insn.code ≡ Some LoadRecord → insn.k ≡ 4 → without_other first last insn ≡ insn
kept_architecture first last insn is at =
    ap (λ o. if loads_other first last o insn then bare insn else insn) is
    ∙ ap (λ k. if not (is_common_word first last k) then bare insn else insn) at

-- and among several numbers nothing else
pub left_out : (first last : ℕ) (insn : Insn) → first ≢ last → operation_of insn.code ≡ Some LoadRecord → insn.k ≢ 4
    → operation_of (without_other first last insn).code ≡ None
left_out first last insn several is apart =
    let gone : without_other first last insn ≡ bare insn =
    ap (λ o. if loads_other first last o insn then bare insn else insn) is
    ∙ rw (ne_eqb insn.k 4 apart, ne_eqb first last several) (by_number (insn.k == 0)) in
    ap (λ (i : Insn). operation_of i.code) gone ∙ no_operation
  where
    by_number : (b : Bool) → (if not (b && false) then bare insn else insn) ≡ bare insn
    by_number true = refl
    by_number false = refl

-- ---- fewer calls

-- on calls with several numbers nothing but the architecture is looked at
loads_alike : (from to first last : ℕ) → from ≢ to → (call other : Record) → IsNative call → IsNative other → (insn : Insn)
    → DoesAlike call other (without_other from to insn) (without_other first last insn)
loads_alike from to first last several call other native native' insn = elim (is_load (operation_of insn.code)) [
  | inr apart ↦ inr (λ s.
      ap (λ (i : Insn). effect (operation_of i.code) i call s) (kept_other from to insn apart)
      ∙ same_effect (operation_of insn.code) insn other call s apart
      ∙ sym (ap (λ (i : Insn). effect (operation_of i.code) i other s) (kept_other first last insn apart)))
  | inl is ↦ elim (cases_eq insn.k 4) [
    | inr apart ↦ inl (left_out from to insn several is apart)
    | inl at ↦ inr (λ s.
        ap (λ (i : Insn). effect (operation_of i.code) i call s) (kept_architecture from to insn is at)
        ∙ ap (λ o. effect o insn call s) is
        ∙ ap (λ k. loaded Accumulator s (word_of call k)) at
        ∙ ap (loaded Accumulator s) (native_there call native ∙ sym (native_there other native'))
        ∙ ap (λ k. loaded Accumulator s (word_of other k)) (sym at)
        ∙ ap (λ o. effect o insn other s) (sym is)
        ∙ sym (ap (λ (i : Insn). effect (operation_of i.code) i other s) (kept_architecture first last insn is at)))
  ]
]

pub settles_on_fewer : (insns : List Insn) (from to first last value : ℕ) → from ≤ first → first ≤ last → last ≤ to → SettlesOn insns from to value
    → SettlesOn insns first last value
settles_on_fewer insns from to first last value low rises high settles = elim (cases_eq from to) [
  | inl one ↦
      let begins : from ≡ first = omega arith in
      let ends : to ≡ last = omega arith in
      subst (λ n. SettlesOn insns first n value) ends (subst (λ n. SettlesOn insns n to value) begins settles)
  | inr several ↦
      let other = native first 0 (replicate 6 0) in (
        other,
        (refl, (omega arith, rises)),
        (
          settles.2.0,
          returns_alike (without_other from to) (without_other first last) settles.0 other
              (loads_alike from to first last several settles.0 other settles.1.0 refl) insns 0 start value settles.2.0 settles.2.1,
        ),
      )
]
