-- One verdict that is told of every architecture but x86-64 is that of each of their calls.
use Rattle.std.proofs.Common.{◌≡◌, ◌≢◌, ℕ, ◌==◌, ◌<◌, ◌≤◌, ◌^◌, ◌||◌, true, false, if◌then◌else◌, List, [], ◌∷◌, map, Option, Some, None, inl, inr, refl, sym, ap, subst, ◌∙◌, arith}
use Rattle.std.specs.List.{All, list_all, list_any}
use Rattle.std.specs.Option.{option_map_or}
use Rattle.std.proofs.lemmas.Bool.{and_parts, cases_Bool, eqb-true}
use Rattle.std.proofs.lemmas.List.Elements.{All-head, All-tail}
use Rattle.sk_names.specs.declared.architecture.Architecture.{Architecture}
use Rattle.sk_names.specs.declared.architecture.Architecture.TheVariants as by
use Rattle.sk_names.specs.Architectures.{audit_of}
use Rattle.sk_insn.specs.declared.insn.Insn.{Insn}
use Rattle.sk_insn.specs.declared.record.Record.{Record}
use Rattle.sk_filter.specs.Chains.{AllValid}
use Rattle.sk_filter.specs.Verdict.{verdict_of}
use Rattle.sk_survey.specs.declared.answered.Answered.{Answered}
use Rattle.sk_survey.specs.declared.other.Other.{Other}
use Rattle.sk_survey.specs.declared.other.Other.TheVariants.{Verdict, Several, Unknown}
use Rattle.sk_survey.specs.AnswersByArchitecture.{IsAnswered, answered_architecture, first_of, last_of}
use Rattle.sk_survey.specs.Other.{IsOther, OtherVerdictIsOfEachCall, is_named, value_of}
use Rattle.sk_survey.proofs.EachCall.{one_verdict_is_of_each_call}
use Rattle.sk_policy_when.specs.Smaller.{OthersGetOne, gets_alone, shared_by}
use Rattle.sk_policy_when.specs.WorkedSmaller.{OthersWork}

-- all that have a name get what those get that have none
shared : (its : List Answered) (other : Other) (value : ℕ) → Verdict value ≡ shared_by its other → (other ≡ Verdict value) × (list_all (gets_alone value) its ≡ true)
shared its (Verdict told) value e = elim (cases_Bool (list_all (gets_alone told) its)) [
  | inl all ↦
      let same : told ≡ value = cc in
      (ap Verdict same, subst (λ value. list_all (gets_alone value) its ≡ true) same all)
  | inr some ↦ absurd (cc (e, some))
]
shared its Several value e = cc
shared its Unknown value e = cc

-- any number may be one of theirs
numbers : (a : Architecture) → (audit_of a ≡ audit_of by.X86_64 → ⊥) → (nr : ℕ) → nr < 2 ^ 32 → (first_of a ≤ nr) × (nr ≤ last_of a)
numbers by.X86_64 other nr small = absurd (other refl)
numbers by.X32 other nr small = absurd (other refl)
numbers by.I386 other nr small = (omega arith, omega arith)
numbers by.Aarch64 other nr small = (omega arith, omega arith)
numbers by.Arm other nr small = (omega arith, omega arith)
numbers by.Riscv64 other nr small = (omega arith, omega arith)
numbers by.Ppc64le other nr small = (omega arith, omega arith)
numbers by.S390x other nr small = (omega arith, omega arith)
numbers by.Loongarch64 other nr small = (omega arith, omega arith)

that_one : (o : Option ℕ) (value : ℕ) → option_map_or (λ other. other == value) o false ≡ true → o ≡ Some value
that_one None value e = cc
that_one (Some other) value e = ap Some (eqb-true other value e)

told_alone : (value : ℕ) (it : Answered) → (audit_of it.architecture ≡ audit_of by.X86_64 → ⊥) → gets_alone value it ≡ true → value_of it.row ≡ Some value
told_alone value it other e = elim (cases_Bool (audit_of it.architecture == audit_of by.X86_64)) [
  | inl same ↦ absurd (other (eqb-true (audit_of it.architecture) (audit_of by.X86_64) same))
  | inr differs ↦ that_one (value_of it.row) value (ap (λ b. b || option_map_or (λ other. other == value) (value_of it.row) false) (sym differs) ∙ e)
]

named_call : (programs : List (List Insn)) → AllValid programs → (value : ℕ) (call : Record) → call.nr < 2 ^ 32 → call.arch ≢ audit_of by.X86_64
    → (its : List Answered) → All (IsAnswered programs) its → list_all (gets_alone value) its ≡ true
    → list_any (λ audit. call.arch == audit) (map audit_of (map answered_architecture its)) ≡ true → verdict_of programs call ≡ value
named_call programs valid value call small other [] answered all named = cc
named_call programs valid value call small other (it ∷ its) answered all named =
    let both = and_parts (gets_alone value it) (list_all (gets_alone value) its) all in
    elim (cases_Bool (call.arch == audit_of it.architecture)) [
      | inl same ↦
          let is = eqb-true call.arch (audit_of it.architecture) same in
          let another : audit_of it.architecture ≡ audit_of by.X86_64 → ⊥ = λ e. other (is ∙ e) in
          one_verdict_is_of_each_call programs valid it (All-head (IsAnswered programs) it its answered) value (told_alone value it another both.0)
          call (is, numbers it.architecture another call.nr small)
      | inr differs ↦
          named_call programs valid value call small other its (All-tail (IsAnswered programs) it its answered) both.1
          (ap (λ b. b || list_any (λ audit. call.arch == audit) (map audit_of (map answered_architecture its))) (sym differs) ∙ named)
    ]

pub others_get_one : OtherVerdictIsOfEachCall → OthersGetOne
others_get_one nameless_get_one programs valid value told call arch small other =
    let its = told.0 in
    let both = shared its told.1 value told.4 in
    elim (cases_Bool (is_named call.arch)) [
      | inl named ↦
          named_call programs valid value call small other its told.2.1 both.1
          (subst (λ all. list_any (λ audit. call.arch == audit) (map audit_of all) ≡ true) (sym told.2.0) named)
      | inr nameless ↦
          nameless_get_one programs valid value (subst (IsOther programs) both.0 told.3) call (record { other = nameless; architecture = arch; number = small })
    ]

pub others_work : OthersWork
others_work = record {
  gets_it = refl;
  gets_another = refl;
  gets_several = refl;
  x86_64_is_left_out = refl;
  x32_is_left_out = refl;
  shared = refl;
  not_shared = refl;
  several_stay = refl;
  unknown_stay = refl;
}
