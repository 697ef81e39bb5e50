-- A filter of whose instructions some have no meaning takes the same paths, and stores and loads the same words.
use Rattle.std.proofs.Common.{◌≡◌, ℕ, Bool, true, false, if◌then◌else◌, List, [], ◌∷◌, length, Option, Some, None, slice_get, inr, refl, sym, ap, subst, ◌∙◌, arith}
use Rattle.std.specs.Option.{option_map}
use Rattle.std.specs.Prelude.{IsSomeAnd}
use Rattle.std.proofs.lemmas.Option.{slice_get-map}
use Rattle.sk_insn.specs.declared.insn.Insn.{Insn}
use Rattle.sk_insn.specs.declared.record.Record.{Record}
use Rattle.sk_insn.specs.declared.operation.Operation.{Operation}
use Rattle.sk_insn.specs.declared.operation.Operation.TheVariants.{LoadRecord}
use Rattle.sk_insn.specs.Operations.{operation_of}
use Rattle.sk_filter.specs.declared.fault.CheckFault.TheVariants.{Unstored}
use Rattle.sk_filter.specs.Paths.{GoesTo, At, LeadsTo, Loads, Stores, IsPath, NoneStores, IsUnstored, onward, loaded_word, stored_word}
use Rattle.sk_filter.specs.Valid.{IsValid}
use Rattle.sk_filter.specs.Meaning.{meaning, meaning_of}
use Rattle.sk_filter.proofs.ScratchWords.{same_meaning}
use Rattle.sk_survey.specs.Following.{zeros}
use Rattle.sk_survey.specs.Settling.{loads_other, without_other, without_others}

abbrev pub bare : Insn → Insn
bare insn = record insn { code = 0xffff }

pub no_operation : operation_of 0xffff ≡ None
unfolding operation_of
no_operation = refl

only_loads : (first last : ℕ) (o : Option Operation) (insn : Insn) → loads_other first last o insn ≡ true → o ≡ Some LoadRecord
only_loads first last None insn e = cc
only_loads first last (Some LoadRecord) insn e = refl
only_loads first last (Some operation) insn e = cc

-- what is the same for an instruction without meaning and for a load of the record
same : {X : Type 0} (first last : ℕ) (g : Option Operation → Insn → X) (insn : Insn) → g None (bare insn) ≡ g (Some LoadRecord) insn
    → g (operation_of (without_other first last insn).code) (without_other first last insn) ≡ g (operation_of insn.code) insn
same first last g insn alike = by_test (loads_other first last (operation_of insn.code) insn) refl where
  by_test : (b : Bool) → loads_other first last (operation_of insn.code) insn ≡ b
      → g (operation_of (if b then bare insn else insn).code) (if b then bare insn else insn) ≡ g (operation_of insn.code) insn
  by_test true e =
      ap (λ o. g o (bare insn)) no_operation ∙ alike ∙ ap (λ o. g o insn) (sym (only_loads first last (operation_of insn.code) insn e))
  by_test false e = refl

pub here_without : (first last : ℕ) (insns : List Insn) (place : ℕ) (insn : Insn) → slice_get insns place ≡ Some insn
    → slice_get (without_others first last insns) place ≡ Some (without_other first last insn)
here_without first last insns place insn here = slice_get-map (without_other first last) insns place ∙ ap (option_map (without_other first last)) here

found : (first last : ℕ) (o : Option Insn) (insn : Insn) → option_map (without_other first last) o ≡ Some insn → (it : Insn) × (o ≡ Some it) × (without_other first last it ≡ insn)
found first last None insn e = cc
found first last (Some it) insn e = (it, refl, cc)

from_without : (first last : ℕ) (insns : List Insn) (place : ℕ) (P : Option Operation → Insn → Type 0)
    → ((insn : Insn) → P (operation_of (without_other first last insn).code) (without_other first last insn) → P (operation_of insn.code) insn)
    → At (without_others first last insns) place P → At insns place P
from_without first last insns place P holds at =
    let it = found first last (slice_get insns place) at.0 (sym (slice_get-map (without_other first last) insns place) ∙ at.1) in
    (it.0, it.1, holds it.0 (subst (λ (i : Insn). P (operation_of i.code) i) (sym it.2) at.2))

to_without : (first last : ℕ) (insns : List Insn) (place : ℕ) (P : Option Operation → Insn → Type 0)
    → ((insn : Insn) → P (operation_of insn.code) insn → P (operation_of (without_other first last insn).code) (without_other first last insn))
    → At insns place P → At (without_others first last insns) place P
to_without first last insns place P holds at = (without_other first last at.0, here_without first last insns place at.0 at.1, holds at.0 at.2)

path_from : (first last : ℕ) (insns : List Insn) (place : ℕ) (path : List ℕ) → IsPath (without_others first last insns) place path → IsPath insns place path
path_from first last insns place [] is = is
path_from first last insns place (before ∷ earlier) is = (
  from_without first last insns before (LeadsTo before place) (λ insn. subst (GoesTo place) (same first last (onward before) insn refl)) is.0,
  path_from first last insns before earlier is.1,
)

none_from : (first last : ℕ) (insns : List Insn) (word : ℕ) (path : List ℕ) → NoneStores (without_others first last insns) word path → NoneStores insns word path
none_from first last insns word [] none = none
none_from first last insns word (place ∷ places) none = (
  λ at. none.0
      (to_without first last insns place (Stores word)
      (λ insn. subst (λ o. IsSomeAnd o (λ stored. stored ≡ word)) (sym (same first last stored_word insn refl))) at),
  none_from first last insns word places none.1,
)

unstored_from : (first last : ℕ) (insns : List Insn) (place word : ℕ) → IsUnstored (without_others first last insns) place word → IsUnstored insns place word
unstored_from first last insns place word is = (
  from_without first last insns place (Loads word) (λ insn. subst (λ o. IsSomeAnd o (λ loaded. loaded ≡ word)) (same first last loaded_word insn refl)) is.0,
  (is.1.0, path_from first last insns place is.1.0 is.1.1, none_from first last insns word is.1.0 is.1.2),
)

-- so its scratch words may begin as 0
pub zeros_without : (first last : ℕ) (insns : List Insn) (call : Record) → IsValid insns
    → meaning_of (without_others first last insns) call ≡ meaning (without_others first last insns) 0 call zeros
zeros_without first last insns call valid =
    same_meaning (without_others first last insns) call (λ place word is. valid (Unstored place word) (unstored_from first last insns place word is))
    (length (without_others first last insns)) 0 0 0 (λ k. None) (λ k. Some 0) [] (omega arith) refl (λ k. inr tt)
