-- Where filters answer by the architecture alone, the one verdict is told.
use Rattle.std.proofs.Common.{◌≡◌, ◌≢◌, ℕ, ◌==◌, ◌%◌, ◌^◌, ◌++◌, false, if◌then◌else◌, List, [], ◌∷◌, map, inl, inr, Option, Some, None, refl, sym, ap, subst, ◌∙◌, arith}
use Rattle.std.specs.Prelude.{codes}
use Rattle.std.proofs.lemmas.Bool.{cases_eq}
use Rattle.sk_insn.specs.declared.insn.Insn.{Insn}
use Rattle.sk_insn.specs.declared.record.Record.{Record}
use Rattle.sk_insn.specs.declared.operation.Register.TheVariants.{Accumulator}
use Rattle.sk_insn.specs.declared.operation.Operation.{Operation}
use Rattle.sk_insn.specs.declared.operation.Operation.TheVariants.{LoadRecord, LoadConstant}
use Rattle.sk_insn.specs.Operations.{operation_of, code_of}
use Rattle.sk_insn.specs.Record.{word_of}
use Rattle.sk_insn.proofs.OperationTable.{operation_of-code_of}
use Rattle.sk_insn.proofs.RecordWords.{word_of_architecture}
use Rattle.sk_filter.specs.Architectures.{as_native, for_architecture, loads_architecture, with_architecture}
use Rattle.sk_filter.specs.Meaning.{effect, loaded, meaning, Returned, start}
use Rattle.sk_survey.specs.Answers.{answers_of}
use Rattle.sk_survey.specs.Settling.{without_other, AllSettle, Settles}
use Rattle.sk_survey.proofs.Narrower.{DoesAlike, is_load, kept_architecture, kept_other, left_out, returns_alike, same_effect}
use Rattle.sk_names.specs.declared.architecture.Architecture.{Architecture}
use Rattle.sk_names.specs.declared.architecture.Architecture.TheVariants as by
use Rattle.sk_names.specs.Architectures.{audit_of, text_of}
use Rattle.sk_survey.specs.AnswersByArchitecture.{first_of, last_of, only_value}
use Rattle.sk_survey.specs.ChainsFor.{chain_for}
use Rattle.sk_survey.specs.Settled.{AnswersByArchitecture, AllAnswerByArchitecture, OneVerdictIsTold}
use Rattle.sk_survey.specs.Text.{answered_text, judged_text}
use Rattle.sk_survey.proofs.EachCall.{fits, one_verdict_is_of_each_call}

several : (a : Architecture) → first_of a ≢ last_of a
several by.X86_64 e = omega arith
several by.X32 e = omega arith
several by.I386 e = omega arith
several by.Aarch64 e = omega arith
several by.Arm e = omega arith
several by.Riscv64 e = omega arith
several by.Ppc64le e = omega arith
several by.S390x e = omega arith
several by.Loongarch64 e = omega arith

abbrev constant : ℕ → Insn → Insn
constant arch insn = record insn { code = code_of (LoadConstant Accumulator); k = arch }

looks_not : (o : Option Operation) (insn : Insn) → o ≢ Some LoadRecord → loads_architecture o insn ≡ false
looks_not None insn apart = refl
looks_not (Some LoadRecord) insn apart = absurd (apart refl)
looks_not (Some operation) insn apart = refl

stays : (arch : ℕ) (insn : Insn) → operation_of insn.code ≢ Some LoadRecord → with_architecture arch insn ≡ insn
stays arch insn apart = ap (λ b. if b then constant arch insn else insn) (looks_not (operation_of insn.code) insn apart)

made_constant : (arch : ℕ) (insn : Insn) → operation_of insn.code ≡ Some LoadRecord → insn.k ≡ 4 → with_architecture arch insn ≡ constant arch insn
made_constant arch insn is at =
    ap (λ o. if loads_architecture o insn then constant arch insn else insn) is ∙ ap (λ k. if k == 4 then constant arch insn else insn) at

-- what is left of the filter does for the call what is left of the filter for the architecture does for the same call of x86-64
does_alike : (first last arch : ℕ) → first ≢ last → (call : Record) → call.arch % 2 ^ 32 ≡ arch → (insn : Insn)
    → DoesAlike call (as_native call) (without_other first last insn) (without_other first last (with_architecture arch insn))
does_alike first last arch apart call same insn = elim (is_load (operation_of insn.code)) [
  | inr other ↦ inr (λ s.
      ap (λ (i : Insn). effect (operation_of i.code) i call s) (kept_other first last insn other)
      ∙ same_effect (operation_of insn.code) insn (as_native call) call s other
      ∙ sym (ap (λ (i : Insn). effect (operation_of i.code) i (as_native call) s) (ap (without_other first last) (stays arch insn other) ∙ kept_other first last insn other)))
  | inl is ↦ elim (cases_eq insn.k 4) [
    | inr elsewhere ↦ inl (left_out first last insn apart is elsewhere)
    | inl at ↦
        let loads : operation_of (constant arch insn).code ≡ Some (LoadConstant Accumulator) = operation_of-code_of (LoadConstant Accumulator) in
        let none : operation_of (constant arch insn).code ≢ Some LoadRecord = λ e. let both : Some (LoadConstant Accumulator) ≡ Some LoadRecord = sym loads ∙ e in cc in
        inr (λ s.
        ap (λ (i : Insn). effect (operation_of i.code) i call s) (kept_architecture first last insn is at)
        ∙ ap (λ o. effect o insn call s) is
        ∙ ap (λ k. loaded Accumulator s (word_of call k)) at
        ∙ ap (loaded Accumulator s) (word_of_architecture call ∙ ap Some same)
        ∙ sym (ap (λ o. effect o (constant arch insn) (as_native call) s) loads)
        ∙ sym (ap (λ (i : Insn). effect (operation_of i.code) i (as_native call) s)
        (ap (without_other first last) (made_constant arch insn is at) ∙ kept_other first last (constant arch insn) none)))
  ]
]

once : (f g : Insn → Insn) (insns : List Insn) → map (λ insn. f (g insn)) insns ≡ map f (map g insns)
once f g [] = refl
once f g (insn ∷ insns) = ap (λ rest. f (g insn) ∷ rest) (once f g insns)

one_filter : (a : Architecture) (insns : List Insn) → AnswersByArchitecture a insns
    → Settles (for_architecture (audit_of a) insns) (first_of a) (last_of a)
one_filter a insns (call, called, (value, steps, means)) =
    let small = fits a in
    let same : call.arch % 2 ^ 32 ≡ audit_of a = ap (λ n. n % 2 ^ 32) called.0 ∙ omega arith in
    let f = without_other (first_of a) (last_of a) in
    let g = with_architecture (audit_of a) in
    let there = returns_alike f (λ insn. f (g insn)) call (as_native call) (does_alike (first_of a) (last_of a) (audit_of a) (several a) call same)
    insns 0 start value steps means in
    (value, (as_native call, (refl, called.1), (steps, subst (λ xs. meaning xs 0 (as_native call) start ≡ Returned value steps) (once f g insns) there)))

all_settle : (a : Architecture) (programs : List (List Insn)) → AllAnswerByArchitecture a programs
    → AllSettle (chain_for (audit_of a) programs) (first_of a) (last_of a)
all_settle a [] all = tt
all_settle a (insns ∷ programs) all = (one_filter a insns all.0, all_settle a programs all.1)

pub one_verdict_is_told : OneVerdictIsTold
unfolding answered_text
one_verdict_is_told programs valid it is all call called =
    let a = it.architecture in
    let own = chain_for (audit_of a) programs in
    let settle = subst (λ first. AllSettle own first it.row.last) (sym is.first) (subst (AllSettle own (first_of a)) (sym is.last) (all_settle a programs all)) in
    let told = is.holds.settled settle in
    let one : only_value (answers_of it.row.answers) ≡ Some told.0 = ap only_value told.1 in
    let verdict = one_verdict_is_of_each_call programs valid it is told.0 one call called in
    let same = one ∙ ap Some (sym verdict) in
    (same, ap (λ o. text_of it.architecture ++ (codes " " ++ (judged_text o ++ codes "\n"))) same)
