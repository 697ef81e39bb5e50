-- A filter with a change of its loads is valid.
use Rattle.std.proofs.Common.{◌≡◌, ℕ, ◌%◌, ◌<◌, Bool, true, false, if◌then◌else◌, List, map, Option, Some, None, inl, inr, refl, arith}
use Rattle.sk_insn.specs.declared.insn.Insn.{Insn}
use Rattle.sk_insn.specs.declared.operation.Register.TheVariants.{Accumulator}
use Rattle.sk_insn.specs.declared.operation.Operation.{Operation}
use Rattle.sk_insn.specs.declared.operation.Operation.TheVariants.{LoadConstant, LoadRecord}
use Rattle.sk_insn.specs.Operations.{operation_of, code_of}
use Rattle.sk_insn.proofs.OperationTable.{operation_of-code_of}
use Rattle.sk_filter.specs.Valid.{IsValid}
use Rattle.sk_filter.specs.Architectures.{loads_architecture, with_architecture}
use Rattle.sk_survey.specs.declared.change.Change.{Change}
use Rattle.sk_survey.specs.declared.change.Change.TheVariants.{Constant, NumberAt, Without}
use Rattle.sk_survey.specs.ByArchitecture.{loads_word, with_number_at}
use Rattle.sk_survey.specs.Changes.{IsMade, changed}
use Rattle.sk_survey.specs.Without.{loads_among, without}
use Rattle.sk_survey.proofs.Alike.{ChangesLoads, StandsFor, still_valid}
use Rattle.sk_survey.proofs.Words.{loads_record}

only_loads : (o : Option Operation) (insn : Insn) → loads_architecture o insn ≡ true → o ≡ Some LoadRecord
only_loads None insn e = cc
only_loads (Some LoadRecord) insn e = refl
only_loads (Some operation) insn e = cc

constant_loads : (architecture : ℕ) → ChangesLoads (with_architecture architecture)
constant_loads architecture insn = by_test (loads_architecture (operation_of insn.code) insn) refl where
  by_test : (b : Bool) → loads_architecture (operation_of insn.code) insn ≡ b
      → StandsFor (if b then record insn { code = code_of (LoadConstant Accumulator); k = architecture } else insn) insn
  by_test true e = inr (only_loads (operation_of insn.code) insn e, inl (operation_of-code_of (LoadConstant Accumulator)))
  by_test false e = inl refl

pub number_loads : (place : ℕ) → place % 4 ≡ 0 → place < 64 → ChangesLoads (with_number_at place)
number_loads place aligned inside insn =
    by_test (loads_architecture (operation_of insn.code) insn) (loads_word 0 (operation_of insn.code) insn) refl refl where
      by_test : (b c : Bool) → loads_architecture (operation_of insn.code) insn ≡ b → loads_word 0 (operation_of insn.code) insn ≡ c
          → StandsFor (if b then record insn { k = 0 } else if c then record insn { k = place } else insn) insn
      by_test true c e first =
          let is = only_loads (operation_of insn.code) insn e in
          inr (is, inr (is, (refl, omega arith)))
      by_test false true e first =
          let is = loads_record 0 (operation_of insn.code) insn first in
          inr (is, inr (is, (aligned, inside)))
      by_test false false e first = inl refl

among_loads : (places : List ℕ) (o : Option Operation) (insn : Insn) → loads_among places o insn ≡ true → o ≡ Some LoadRecord
among_loads places None insn e = cc
among_loads places (Some LoadRecord) insn e = refl
among_loads places (Some operation) insn e = cc

pub without_loads : (places : List ℕ) → ChangesLoads (without places)
without_loads places insn = by_test (loads_among places (operation_of insn.code) insn) refl where
  by_test : (b : Bool) → loads_among places (operation_of insn.code) insn ≡ b
      → StandsFor (if b then record insn { code = code_of (LoadConstant Accumulator); k = 0 } else insn) insn
  by_test true e = inr (among_loads places (operation_of insn.code) insn e, inl (operation_of-code_of (LoadConstant Accumulator)))
  by_test false e = inl refl

pub changes_loads : (change : Change) → IsMade change → ChangesLoads (changed change)
changes_loads (Constant architecture) made = constant_loads architecture
changes_loads (NumberAt place) made = number_loads place made.0 made.1
changes_loads (Without places) made = without_loads places.now

pub still_valid_with : (change : Change) → IsMade change → (insns : List Insn) → IsValid insns → IsValid (map (changed change) insns)
still_valid_with change made insns valid = still_valid (changed change) (changes_loads change made) insns valid
