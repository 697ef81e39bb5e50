-- A chain that does not look at the architecture answers the same on every architecture.
use Rattle.std.proofs.Common.{◌≡◌, ℕ, ◌%◌, ◌^◌, false, if◌then◌else◌, List, [], ◌∷◌, refl, sym, ap, ◌∙◌}
use Rattle.std.proofs.lemmas.Bool.{or_parts}
use Rattle.sk_insn.specs.declared.insn.Insn.{Insn}
use Rattle.sk_insn.specs.declared.record.Record.{Record}
use Rattle.sk_insn.specs.declared.operation.Register.TheVariants.{Accumulator}
use Rattle.sk_insn.specs.declared.operation.Operation.TheVariants.{LoadConstant}
use Rattle.sk_insn.specs.Operations.{operation_of, code_of}
use Rattle.sk_filter.specs.Valid.{IsValid}
use Rattle.sk_filter.specs.Architectures.{as_native, for_architecture, loads_architecture}
use Rattle.sk_filter.specs.Meaning.{meaning_of}
use Rattle.sk_filter.proofs.Architectures.{architectures_are_constants}
use Rattle.sk_filter.specs.Chains.{AllValid}
use Rattle.sk_filter.specs.Verdict.{first_of, meaning_value, values_of}
use Rattle.sk_survey.specs.ChainsFor.{of_architecture}
use Rattle.sk_survey.specs.Looks.{looks_at_architecture, program_looks, UnseenArchitectures}

-- no load is changed
unchanged : (a : ℕ) (insns : List Insn) → program_looks insns ≡ false → for_architecture a insns ≡ insns
unchanged a [] none = refl
unchanged a (insn ∷ rest) none =
    let split = or_parts (loads_architecture (operation_of insn.code) insn) (program_looks rest) none in
    let changed : Insn = record insn { code = code_of (LoadConstant Accumulator); k = a } in
    ap (λ b. (if b then changed else insn) ∷ for_architecture a rest) split.0
    ∙ ap (λ insns. insn ∷ insns) (unchanged a rest split.1)

one_filter : (insns : List Insn) → IsValid insns → program_looks insns ≡ false → (call : Record)
    → meaning_of insns call ≡ meaning_of insns (as_native call)
one_filter insns valid none call =
    architectures_are_constants insns valid call
    ∙ ap (λ insns. meaning_of insns (as_native call)) (unchanged (call.arch % 2 ^ 32) insns none)

values_alike : (programs : List (List Insn)) → AllValid programs → looks_at_architecture programs ≡ false → (a : ℕ) (call : Record)
    → values_of programs (of_architecture a call) ≡ values_of programs call
values_alike [] valid none a call = refl
values_alike (newest ∷ older) valid none a call =
    let split = or_parts (program_looks newest) (looks_at_architecture older) none in
    let one = one_filter newest valid.0 split.0 (of_architecture a call) ∙ sym (one_filter newest valid.0 split.0 call) in
    ap (λ meaning. meaning_value meaning ∷ values_of older (of_architecture a call)) one
    ∙ ap (λ values. meaning_value (meaning_of newest call) ∷ values) (values_alike older valid.1 split.1 a call)

pub unseen_architectures : UnseenArchitectures
unseen_architectures programs valid none a call = ap first_of (values_alike programs valid none a call)
