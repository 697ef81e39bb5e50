-- A chain that takes some words for 0 answers by the call that has 0 there.
use Rattle.std.proofs.Common.{◌≡◌, ℕ, ◌%◌, ◌<◌, Bool, true, false, if◌then◌else◌, List, [], ◌∷◌, map, Option, Some, refl, sym, ap, subst, ◌∙◌}
use Rattle.sk_insn.specs.declared.insn.Insn.{Insn}
use Rattle.sk_insn.specs.declared.record.Record.{Record}
use Rattle.sk_insn.specs.declared.operation.Register.TheVariants.{Accumulator}
use Rattle.sk_insn.specs.declared.operation.Operation.{Operation}
use Rattle.sk_insn.specs.declared.operation.Operation.TheVariants.{LoadRecord, LoadConstant}
use Rattle.sk_insn.specs.Operations.{operation_of, code_of}
use Rattle.sk_insn.specs.Record.{word_of}
use Rattle.sk_insn.proofs.OperationTable.{operation_of-code_of}
use Rattle.sk_filter.specs.Fits.{TakesConstant}
use Rattle.sk_filter.specs.Valid.{IsValid}
use Rattle.sk_filter.proofs.ValidPrograms.{valid_fits}
use Rattle.sk_filter.specs.Meaning.{meaning_of}
use Rattle.sk_filter.specs.Chains.{AllValid}
use Rattle.sk_filter.specs.Verdict.{first_of, meaning_value, values_of}
use Rattle.sk_survey.specs.Without.{ChainsWithout, IsWithout, chain_without, is_among, loads_among, without}
use Rattle.sk_survey.proofs.Meanings.{LoadsAlike, same_meaning, word_loaded}
use Rattle.sk_survey.proofs.Valid.{without_loads}

among_at : (places : List ℕ) (o : Option Operation) (insn : Insn) → o ≡ Some LoadRecord → loads_among places o insn ≡ is_among places insn.k
among_at places o insn e = ap (λ o. loads_among places o insn) e

loads_alike : (places : List ℕ) (call other : Record) → IsWithout places call other → (insn : Insn)
    → TakesConstant (operation_of insn.code) insn → LoadsAlike other call insn (without places insn)
loads_alike places call other stands insn takes is = by_test (loads_among places (operation_of insn.code) insn) refl where
  can : (insn.k % 4 ≡ 0) × (insn.k < 64)
  can = subst (λ o. TakesConstant o insn) is takes

  word : word_of other insn.k ≡ (if is_among places insn.k then Some 0 else word_of call insn.k)
  word = let c = can in stands insn.k c.0 c.1

  answered : (b : Bool) → loads_among places (operation_of insn.code) insn ≡ b → word_of other insn.k ≡ (if b then Some 0 else word_of call insn.k)
  answered b e = word ∙ ap (λ b. if b then Some 0 else word_of call insn.k) (sym (among_at places (operation_of insn.code) insn is) ∙ e)

  by_test : (b : Bool) → loads_among places (operation_of insn.code) insn ≡ b
      → (λ (changed : Insn). word_loaded (operation_of changed.code) changed call)
      (if b then record insn { code = code_of (LoadConstant Accumulator); k = 0 } else insn) ≡ word_of other insn.k
  by_test true e =
      ap (λ o. word_loaded o (record insn { code = code_of (LoadConstant Accumulator); k = 0 }) call) (operation_of-code_of (LoadConstant Accumulator))
      ∙ sym (answered true e)
  by_test false e = ap (λ o. word_loaded o insn call) is ∙ sym (answered false e)

one_filter : (places : List ℕ) (call other : Record) → IsWithout places call other → (insns : List Insn) → IsValid insns
    → meaning_of (map (without places) insns) call ≡ meaning_of insns other
one_filter places call other stands insns valid =
    same_meaning (without places) (without_loads places) other call insns
    (λ at insn here. loads_alike places call other stands insn (valid_fits insns valid at insn here).0)

values_without : (programs : List (List Insn)) → AllValid programs → (places : List ℕ) (call other : Record) → IsWithout places call other
    → values_of (chain_without places programs) call ≡ values_of programs other
values_without [] valid places call other stands = refl
values_without (newest ∷ older) valid places call other stands =
    let one = one_filter places call other stands newest valid.0 in
    let rest = values_without older valid.1 places call other stands in
    ap (λ meaning. meaning_value meaning ∷ values_of (chain_without places older) call) one
    ∙ ap (λ values. meaning_value (meaning_of newest other) ∷ values) rest

pub chains_without : ChainsWithout
chains_without programs valid places call other stands = ap first_of (values_without programs valid places call other stands)
