-- One verdict that is told of an architecture is that of each of its calls.
use Rattle.std.proofs.Common.{◌≡◌, ℕ, ◌<◌, ◌≤◌, ◌^◌, ◌⊎◌, inl, inr, List, [], ◌∷◌, Option, Some, None, refl, sym, ap, subst, ◌∙◌, arith}
use Rattle.sk_insn.specs.declared.record.Record.{Record}
use Rattle.sk_insn.specs.Record.{architecture}
use Rattle.sk_filter.specs.Verdict.{verdict_of}
use Rattle.sk_survey.specs.Answers.{ChainAnswersAmong, answers_of}
use Rattle.sk_names.specs.declared.architecture.Architecture.{Architecture}
use Rattle.sk_names.specs.declared.architecture.Architecture.TheVariants as by
use Rattle.sk_names.specs.Architectures.{audit_of}
use Rattle.sk_survey.specs.ChainsFor.{chain_for, of_architecture}
use Rattle.sk_survey.proofs.Chains.{chains_for_architectures}
use Rattle.sk_survey.specs.AnswersByArchitecture.{OneVerdictIsOfEachCall, only_value}

pub fits : (a : Architecture) → audit_of a < 2 ^ 32
fits by.X86_64 = omega arith
fits by.X32 = omega arith
fits by.I386 = omega arith
fits by.Aarch64 = omega arith
fits by.Arm = omega arith
fits by.Riscv64 = omega arith
fits by.Ppc64le = omega arith
fits by.S390x = omega arith
fits by.Loongarch64 = omega arith

pub alone : (answers : Option (List ℕ)) (value : ℕ) → only_value answers ≡ Some value → answers ≡ Some (value ∷ [])
alone None value e = cc
alone (Some []) value e = cc
alone (Some (one ∷ [])) value e = cc
alone (Some (one ∷ (other ∷ more))) value e = cc

pub one_of_one : (v value : ℕ) → (v ≡ value) ⊎ ⊥ → v ≡ value
one_of_one v value (inl is) = is
one_of_one v value (inr none) = absurd none

pub one_verdict_is_of_each_call : OneVerdictIsOfEachCall
one_verdict_is_of_each_call programs valid it is value one call called =
    let a = it.architecture in
    let as_x86_64 : Record = record call { arch = architecture } in
    let there : of_architecture (audit_of a) as_x86_64 ≡ call = ap (λ arch. record call { arch = arch }) (sym called.0) in
    let from : it.row.first ≤ call.nr = subst (λ n. n ≤ call.nr) (sym is.first) called.1.0 in
    let to : call.nr ≤ it.row.last = subst (λ n. call.nr ≤ n) (sym is.last) called.1.1 in
    let among : ChainAnswersAmong (chain_for (audit_of a) programs) it.row.first it.row.last (Some (value ∷ [])) =
    subst (ChainAnswersAmong (chain_for (audit_of a) programs) it.row.first it.row.last) (alone (answers_of it.row.answers) value one) is.holds.among in
    let same = chains_for_architectures programs valid (audit_of a) (fits a) as_x86_64 refl in
    sym (same ∙ ap (verdict_of programs) there) ∙ one_of_one _ value (among as_x86_64 (refl, (from, to)))
