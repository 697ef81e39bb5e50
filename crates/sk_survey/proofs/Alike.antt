-- Filters in which some loads of the record are other loads: they take the same paths, and store and load the same words.
use Rattle.std.proofs.Common.{◌≡◌, ℕ, ◌-◌, ◌%◌, ◌<◌, ◌⊎◌, false, List, [], ◌∷◌, length, Option, Some, None, slice_get, inl, inr, refl, sym, ap, subst, ◌∙◌, arith}
use Rattle.std.specs.Option.{option_map}
use Rattle.std.specs.Prelude.{IsSomeAnd, map}
use Rattle.std.proofs.lemmas.Bool.{eq-eqb, lt-ltb}
use Rattle.std.proofs.lemmas.List.{length-map}
use Rattle.std.proofs.lemmas.Option.{slice_get-map}
use Rattle.sk_insn.specs.declared.insn.Insn.{Insn}
use Rattle.sk_insn.specs.declared.operation.Register.TheVariants.{Accumulator}
use Rattle.sk_insn.specs.declared.operation.Operation.{Operation}
use Rattle.sk_insn.specs.declared.operation.Operation.TheVariants.{LoadConstant, LoadRecord}
use Rattle.sk_insn.specs.Operations.{operation_of}
use Rattle.sk_filter.specs.declared.fault.CheckFault.{CheckFault}
use Rattle.sk_filter.specs.declared.fault.CheckFault.TheVariants.{Empty, TooLong, Code, Load, DivZero, Shift, Word, Jump, NoReturn, Unstored}
use Rattle.sk_filter.specs.Paths.{GoesTo, At, LeadsTo, Loads, Stores, IsPath, NoneStores, IsUnstored, onward, loaded_word, returns, stored_word}
use Rattle.sk_filter.specs.Places.{fault_of}
use Rattle.sk_filter.specs.Valid.{HasByItself, HasFault, IsValid, fault_place}

-- it loads a constant, or a word of the record
abbrev pub IsLoad : Insn → Type 0
IsLoad insn =
    (operation_of insn.code ≡ Some (LoadConstant Accumulator))
    ⊎ ((operation_of insn.code ≡ Some LoadRecord) × ((insn.k % 4 ≡ 0) × (insn.k < 64)))

-- an instruction in place of another: it is the same, or another load for a load of the record
abbrev pub StandsFor : Insn → Insn → Type 0
StandsFor other insn = (other ≡ insn) ⊎ ((operation_of insn.code ≡ Some LoadRecord) × IsLoad other)

abbrev pub ChangesLoads : (Insn → Insn) → Type 0
ChangesLoads change = (insn : Insn) → StandsFor (change insn) insn

-- what is the same of both loads and of a load of the record is the same of both instructions
same : {X : Type 0} (g : Option Operation → Insn → X) (other insn : Insn) → StandsFor other insn
    → g (Some (LoadConstant Accumulator)) other ≡ g (Some LoadRecord) insn → g (Some LoadRecord) other ≡ g (Some LoadRecord) insn
    → g (operation_of other.code) other ≡ g (operation_of insn.code) insn
same g other insn (inl e) constant record_too = ap (λ (i : Insn). g (operation_of i.code) i) e
same g other insn (inr (is, inl load)) constant record_too = ap (λ o. g o other) load ∙ constant ∙ ap (λ o. g o insn) (sym is)
same g other insn (inr (is, inr load)) constant record_too = ap (λ o. g o other) load.0 ∙ record_too ∙ ap (λ o. g o insn) (sym is)

found : (change : Insn → Insn) (o : Option Insn) (other : Insn) → option_map change o ≡ Some other → (it : Insn) × (o ≡ Some it) × (change it ≡ other)
found change None other e = cc
found change (Some it) other e = (it, refl, cc)

-- what holds at a place of one filter holds at that of the other
from_changed : (change : Insn → Insn) (insns : List Insn) (place : ℕ) (P Q : Option Operation → Insn → Type 0)
    → ((insn : Insn) → P (operation_of (change insn).code) (change insn) → Q (operation_of insn.code) insn)
    → At (map change insns) place P → At insns place Q
from_changed change insns place P Q holds at =
    let it = found change (slice_get insns place) at.0 (sym (slice_get-map change insns place) ∙ at.1) in
    (it.0, it.1, holds it.0 (subst (λ (i : Insn). P (operation_of i.code) i) (sym it.2) at.2))

to_changed : (change : Insn → Insn) (insns : List Insn) (place : ℕ) (P : Option Operation → Insn → Type 0)
    → ((insn : Insn) → P (operation_of insn.code) insn → P (operation_of (change insn).code) (change insn))
    → At insns place P → At (map change insns) place P
to_changed change insns place P holds at =
    (change at.0, slice_get-map change insns place ∙ ap (option_map change) at.1, holds at.0 at.2)

path_from : (change : Insn → Insn) → ChangesLoads change → (insns : List Insn) (place : ℕ) (path : List ℕ) → IsPath (map change insns) place path → IsPath insns place path
path_from change keeps insns place [] is = is
path_from change keeps insns place (before ∷ earlier) is = (
  from_changed change insns before (LeadsTo before place) (LeadsTo before place)
      (λ insn. subst (GoesTo place) (same (onward before) (change insn) insn (keeps insn) refl refl)) is.0,
  path_from change keeps insns before earlier is.1,
)

none_from : (change : Insn → Insn) → ChangesLoads change → (insns : List Insn) (word : ℕ) (path : List ℕ) → NoneStores (map change insns) word path → NoneStores insns word path
none_from change keeps insns word [] none = none
none_from change keeps insns word (place ∷ places) none = (
  λ at. none.0
      (to_changed change insns place (Stores word)
      (λ insn. subst (λ o. IsSomeAnd o (λ stored. stored ≡ word)) (sym (same stored_word (change insn) insn (keeps insn) refl refl))) at),
  none_from change keeps insns word places none.1,
)

unstored_from : (change : Insn → Insn) → ChangesLoads change → (insns : List Insn) (place word : ℕ) → IsUnstored (map change insns) place word → IsUnstored insns place word
unstored_from change keeps insns place word is = (
  from_changed change insns place (Loads word) (Loads word)
      (λ insn. subst (λ o. IsSomeAnd o (λ loaded. loaded ≡ word)) (same loaded_word (change insn) insn (keeps insn) refl refl)) is.0,
  (is.1.0, path_from change keeps insns place is.1.0 is.1.1, none_from change keeps insns word is.1.0 is.1.2),
)

-- a load has no fault by itself
no_fault : (place count : ℕ) (insn : Insn) → IsLoad insn → fault_of place count (operation_of insn.code) insn ≡ None
no_fault place count insn (inl load) = ap (λ o. fault_of place count o insn) load
no_fault place count insn (inr load) =
    let aligned = eq-eqb (insn.k % 4) 0 load.1.0 in
    let inside = lt-ltb insn.k 64 load.1.1 in
    ap (λ o. fault_of place count o insn) load.0 ∙ rw (aligned, inside) refl

fault_from : (place count : ℕ) (other insn : Insn) (fault : CheckFault) → StandsFor other insn
    → fault_of place count (operation_of other.code) other ≡ Some fault → fault_of place count (operation_of insn.code) insn ≡ Some fault
fault_from place count other insn fault (inl e) is = ap (λ (i : Insn). fault_of place count (operation_of i.code) i) (sym e) ∙ is
fault_from place count other insn fault (inr stands) is = let none = no_fault place count other stands.1 in cc (none, is)

by_itself : (change : Insn → Insn) → ChangesLoads change → (insns : List Insn) (fault : CheckFault) → HasByItself (map change insns) fault → HasByItself insns fault
by_itself change keeps insns fault has =
    let long = length-map insns change in
    from_changed change insns (fault_place fault)
    (λ o insn. fault_of (fault_place fault) (length (map change insns)) o insn ≡ Some fault)
    (λ o insn. fault_of (fault_place fault) (length insns) o insn ≡ Some fault)
    (λ insn is. subst (λ count. fault_of (fault_place fault) count (operation_of insn.code) insn ≡ Some fault) long
    (fault_from (fault_place fault) (length (map change insns)) (change insn) insn fault (keeps insn) is)) has

fault_there : (change : Insn → Insn) → ChangesLoads change → (insns : List Insn) (fault : CheckFault) → HasFault (map change insns) fault → HasFault insns fault
fault_there change keeps insns Empty has = sym (length-map insns change) ∙ has
fault_there change keeps insns TooLong has = let long = length-map insns change in omega (arith, long, has)
fault_there change keeps insns NoReturn has =
    subst (λ count. At insns (count - 1) (λ o insn. returns o insn ≡ false)) (length-map insns change)
    (from_changed change insns (length (map change insns) - 1) (λ o insn. returns o insn ≡ false) (λ o insn. returns o insn ≡ false)
    (λ insn is. sym (same returns (change insn) insn (keeps insn) refl refl) ∙ is) has)
fault_there change keeps insns (Unstored place word) has = unstored_from change keeps insns place word has
fault_there change keeps insns (Code place) has = by_itself change keeps insns (Code place) has
fault_there change keeps insns (Load place) has = by_itself change keeps insns (Load place) has
fault_there change keeps insns (DivZero place) has = by_itself change keeps insns (DivZero place) has
fault_there change keeps insns (Shift place) has = by_itself change keeps insns (Shift place) has
fault_there change keeps insns (Word place) has = by_itself change keeps insns (Word place) has
fault_there change keeps insns (Jump place) has = by_itself change keeps insns (Jump place) has

-- so the one is valid where the other is
pub still_valid : (change : Insn → Insn) → ChangesLoads change → (insns : List Insn) → IsValid insns → IsValid (map change insns)
still_valid change keeps insns valid fault has = valid fault (fault_there change keeps insns fault has)
