-- The stages of a check: what is known once a program has no fault of the earlier ones.
use Rattle.std.proofs.Common.{ℕ, ◌≡◌, ◌+◌, ◌-◌, ◌<◌, ◌≤◌, ◌⊎◌, inl, inr, false, List, Option, Some, None, length, refl, sym, subst, arith}
use Rattle.std.specs.Prelude.{slice_get}
use Rattle.std.proofs.lemmas.Option.{slice_get_within}
use Rattle.sk_insn.specs.declared.insn.Insn.{Insn}
use Rattle.sk_insn.specs.Operations.{operation_of}
use Rattle.sk_filter.specs.declared.fault.CheckFault.{CheckFault}
use Rattle.sk_filter.specs.declared.fault.CheckFault.TheVariants.{Empty, TooLong, NoReturn, Unstored}
use Rattle.sk_filter.specs.Paths.{onward, LeadsTo, returns, At, IsUnstored}
use Rattle.sk_filter.specs.Valid.{HasFault, IsValid, IsFirstFault, stage_of, fault_place}
use Rattle.sk_filter.specs.Places.{fault_of}
use Rattle.sk_filter.specs.Fits.{NoFaultBefore}
use Rattle.sk_filter.specs.FirstFault.{own_fault}
use Rattle.sk_filter.proofs.ForwardPass.{NoneUnstored}
use Rattle.sk_filter.proofs.PlaceFaults.{IsFaultAt, fault_of-is_fault, fits_if_none, FitsAt, own_fault_told, of_insn-Some, stays_in_room, goes_inside}

none_or_some : {A : Type 0} (o : Option A) → (o ≡ None) ⊎ ((x : A) × (o ≡ Some x))
none_or_some None = inl refl
none_or_some (Some x) = inr (x, refl)

pub length_bounds : (insns : List Insn) → NoFaultBefore insns 3 → (0 < length insns) × (length insns ≤ 4096)
length_bounds insns clear =
    let empty : length insns ≡ 0 → ⊥ = clear Empty (omega arith) in
    let long : 4096 < length insns → ⊥ = clear TooLong (omega arith) in
    (omega arith, omega arith)

-- ---- single instructions

pub first_at : (insns : List Insn) (at : ℕ) (fault : CheckFault) → NoFaultBefore insns 3 → ((place : ℕ) → place < at → own_fault insns place ≡ None) → IsFaultAt insns at fault → IsFirstFault insns fault
first_at insns at fault clear fine is_fault =
    let stage : stage_of fault ≡ 3 = is_fault.stage in
    let place : fault_place fault ≡ at = is_fault.at in (
      is_fault.has,
      λ other before has. elim before [
        | inl earlier ↦ clear other (omega arith) has
        | inr same ↦ let none = fine (fault_place other) (omega arith) in let some = own_fault_told insns other (omega arith) has in cc
      ],
    )

pub all_fine : (insns : List Insn) → NoFaultBefore insns 3 → ((place : ℕ) → place < length insns → own_fault insns place ≡ None) → NoFaultBefore insns 4
all_fine insns clear fine fault early has =
    let single : (stage_of fault ≡ 3) → ⊥ = λ stage. told_inside fault (own_fault_told insns fault stage has) in
    clear fault (omega arith) has
  where
    told_inside : (fault : CheckFault) → own_fault insns (fault_place fault) ≡ Some fault → ⊥
    told_inside fault some =
        let at = of_insn-Some insns (fault_place fault) (fault_of (fault_place fault) (length insns)) fault some in
        let none = fine (fault_place fault) (slice_get_within insns (fault_place fault) at.0 at.1) in
        cc

pub fits_at : (insns : List Insn) → NoFaultBefore insns 4 → (place : ℕ) → FitsAt insns place
fits_at insns clear place insn here =
    elim (none_or_some (fault_of place (length insns) (operation_of insn.code) insn)) [
      | inl e ↦ fits_if_none place (length insns) insn (operation_of insn.code) e
      | inr (fault, e) ↦ let is_fault = fault_of-is_fault insns place insn fault here e in let stage : stage_of fault ≡ 3 = is_fault.stage in absurd (clear fault (omega arith) is_fault.has)
    ]

-- ---- the end

-- after an instruction that is no return there is another one
pub goes_on : (insns : List Insn) → NoFaultBefore insns 5 → (place : ℕ) → At insns place (λ o insn. returns o insn ≡ false) → place + 1 < length insns
goes_on insns clear place (insn, here, no_return) =
    let within : place < length insns = slice_get_within insns place insn here in
    let last : length insns - 1 ≡ place → ⊥ = λ e. clear NoReturn (omega arith) (insn, (subst (λ p. slice_get insns p ≡ Some insn) (sym e) here), no_return) in
    omega arith

-- control stays inside
pub stays_inside : (insns : List Insn) → NoFaultBefore insns 5 → (place next : ℕ) → At insns place (LeadsTo place next) → next < length insns
stays_inside insns clear place next (insn, here, leads) =
    let clear_4 : NoFaultBefore insns 4 = λ fault early. clear fault (omega arith) in
    let inside = stays_in_room place (length insns) (length insns) insn (operation_of insn.code) (omega arith) (fits_at insns clear_4 place insn here) (λ no_return. goes_on insns clear place (insn, here, no_return)) in
    goes_inside (length insns) next (onward place (operation_of insn.code) insn) leads inside

-- ---- the paths

pub first_unstored_at : (insns : List Insn) (at word : ℕ) → NoFaultBefore insns 5 → NoneUnstored insns at → IsUnstored insns at word → IsFirstFault insns (Unstored at word)
first_unstored_at insns at word clear stored has = (
  has,
  λ other before other_has. elim before [
    | inl earlier ↦ clear other earlier other_has
    | inr same ↦ later other same.0 same.1 other_has
  ],
)
  where
    later : (other : CheckFault) → stage_of other ≡ 5 → fault_place other < at → HasFault insns other → ⊥
    later Empty stage place has = omega arith
    later TooLong stage place has = omega arith
    later NoReturn stage place has = omega arith
    later (Unstored place' m) stage place has = stored place' place m has
    later fault stage place has = omega arith

pub all_stored : (insns : List Insn) → NoFaultBefore insns 5 → NoneUnstored insns (length insns) → IsValid insns
all_stored insns clear stored Empty has = clear Empty (omega arith) has
all_stored insns clear stored TooLong has = clear TooLong (omega arith) has
all_stored insns clear stored NoReturn has = clear NoReturn (omega arith) has
all_stored insns clear stored (Unstored place word) has =
    stored place (slice_get_within insns place has.0.0 has.0.1) word has
all_stored insns clear stored fault has = clear fault (omega arith) has
