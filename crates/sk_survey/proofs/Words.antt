-- Loads of single words of a record.
use Rattle.std.proofs.Common.{◌≡◌, ℕ, suc, zero, ◌%◌, ◌==◌, nat_le, nat_lt, ◌&&◌, not, Bool, true, false, if◌then◌else◌, List, [], ◌∷◌, find, slice_get, Option, Some, None, inl, inr, refl, sym, ap, subst, ◌∙◌}
use Rattle.std.specs.List.{list_all}
use Rattle.std.proofs.lemmas.Bool.{and_parts, cases_Bool, eqb-true, leb-true, ltb-true, not-true, or_parts}
use Rattle.sk_insn.specs.declared.insn.Insn.{Insn}
use Rattle.sk_insn.specs.declared.operation.Operation.{Operation}
use Rattle.sk_insn.specs.declared.operation.Operation.TheVariants.{LoadRecord}
use Rattle.sk_insn.specs.Operations.{operation_of}
use Rattle.sk_filter.specs.Architectures.{loads_architecture}
use Rattle.sk_survey.specs.ByArchitecture.{IsFree, chain_loads, free_place, loads_word, program_loads, words_behind}

-- the architecture is the word at 4
pub architecture_there : (o : Option Operation) (insn : Insn) → loads_word 4 o insn ≡ loads_architecture o insn
architecture_there None insn = refl
architecture_there (Some LoadRecord) insn = refl
architecture_there (Some operation) insn = refl

pub loads_record : (place : ℕ) (o : Option Operation) (insn : Insn) → loads_word place o insn ≡ true → o ≡ Some LoadRecord
loads_record place None insn e = cc
loads_record place (Some LoadRecord) insn e = refl
loads_record place (Some operation) insn e = cc

-- where no instruction of a filter loads a word, none does
pub none_loads : (place : ℕ) (insns : List Insn) → program_loads place insns ≡ false
    → (at : ℕ) (insn : Insn) → slice_get insns at ≡ Some insn → loads_word place (operation_of insn.code) insn ≡ false
none_loads place [] none at insn here = cc
none_loads place (first ∷ rest) none zero insn here =
    let same : first ≡ insn = cc in
    subst (λ (i : Insn). loads_word place (operation_of i.code) i ≡ false) same (or_parts (loads_word place (operation_of first.code) first) (program_loads place rest) none).0
none_loads place (first ∷ rest) none (suc at) insn here =
    none_loads place rest (or_parts (loads_word place (operation_of first.code) first) (program_loads place rest) none).1 at insn here

-- a word behind the architecture, as a test
abbrev is_behind : ℕ → Bool
is_behind place = (place % 4 == 0) && (nat_le 8 place && nat_lt place 64)

-- what is found passes the test, and the other one that all pass
found : (all test : ℕ → Bool) (place : ℕ) (places : List ℕ) → list_all all places ≡ true → find test places ≡ Some place
    → (all place ≡ true) × (test place ≡ true)
found all test place [] each e = cc
found all test place (first ∷ rest) each e = elim (cases_Bool (test first)) [
  | inl passes ↦
      let same : first ≡ place = cc in
      (subst (λ at. all at ≡ true) same (and_parts (all first) (list_all all rest) each).0, subst (λ at. test at ≡ true) same passes)
  | inr fails ↦
      found all test place rest (and_parts (all first) (list_all all rest) each).1 (ap (λ b. if b then Some first else find test rest) (sym fails) ∙ e)
]

-- the place that is found is free
pub free : (programs : List (List Insn)) (place : ℕ) → free_place programs ≡ Some place → IsFree programs place
free programs place is =
    let it = found is_behind (λ place. not (chain_loads place programs)) place words_behind refl is in
    let aligned = and_parts (place % 4 == 0) (nat_le 8 place && nat_lt place 64) it.0 in
    let range = and_parts (nat_le 8 place) (nat_lt place 64) aligned.1 in
    ((eqb-true (place % 4) 0 aligned.0, leb-true 8 place range.0, ltb-true place 64 range.1), not-true (chain_loads place programs) it.1)
