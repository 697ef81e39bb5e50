-- A filter that is made of the rows of a chain answers each call as the chain does.
use Rattle.std.proofs.Common.{◌≡◌, ◌==◌, Bool, false, List, None, inl, inr, refl, sym, ap, subst, ◌∙◌}
use Rattle.std.specs.List.{All}
use Rattle.std.proofs.lemmas.Bool.{cases_Bool, eqb-true, eqb-false}
use Rattle.sk_names.specs.declared.architecture.Architecture.TheVariants.{X86_64}
use Rattle.sk_names.specs.Architectures.{audit_of}
use Rattle.sk_insn.specs.declared.insn.Insn.{Insn}
use Rattle.sk_insn.specs.declared.record.Record.{Record}
use Rattle.sk_insn.specs.Record.{IsNative}
use Rattle.sk_filter.specs.Chains.{AllValid}
use Rattle.sk_filter.specs.Meaning.{meaning_of}
use Rattle.sk_filter.specs.Verdict.{verdict_of}
use Rattle.sk_profile.specs.Means.{Gives}
use Rattle.sk_survey.specs.declared.other.Other.TheVariants.{Verdict}
use Rattle.sk_survey.specs.Other.{OtherVerdictIsOfEachCall}
use Rattle.sk_conditions.specs.Followed.{AreFollowed}
use Rattle.sk_when.specs.declared.row.ConditionalRow.{ConditionalRow}
use Rattle.sk_when.specs.Telling.{AreTold}
use Rattle.sk_policy.specs.declared.policy.Policy.{Policy}
use Rattle.sk_policy.specs.Policies.{AnswersOthers, MeansPolicy}
use Rattle.sk_policy_when.specs.Again.{AreRulesOf, as_native}
use Rattle.sk_policy_when.specs.Smaller.{AnswersAs, AreThere, CanBeRule, IsOthersVerdict}
use Rattle.sk_policy_when.proofs.Again.{filters_come_back}
use Rattle.sk_policy_when.proofs.OtherVerdicts.{others_get_one}
use Rattle.sk_policy_when.proofs.Ruled.{rows_can}

native : (call : Record) → IsNative call → as_native call ≡ call
native call is = ap (λ arch. record call { arch = arch }) (sym is)

pub answers_as : OtherVerdictIsOfEachCall → (programs : List (List Insn)) → AllValid programs → (is_spent : Bool) (rows : List ConditionalRow) (policy : Policy) (insns : List Insn)
    → AreTold X86_64 None programs is_spent rows → AreRulesOf rows policy.rules.items → policy.audit ≡ audit_of X86_64 → IsOthersVerdict programs (Verdict policy.others)
    → MeansPolicy insns policy → AnswersOthers insns policy → AnswersAs programs insns
answers_as nameless_get_one programs valid is_spent rows policy insns told are audit others means answers call whole = elim (cases_Bool (call.arch == policy.audit)) [
  | inl same ↦
      let is = eqb-true call.arch policy.audit same in
      subst (λ value. Gives value (meaning_of insns call)) (ap (verdict_of programs) (native call (is ∙ audit)))
      (filters_come_back X86_64 programs is_spent rows policy insns told are means call whole is)
  | inr differs ↦
      let other = eqb-false call.arch policy.audit differs in
      let one = others_get_one nameless_get_one programs valid policy.others others call whole.is_call.arch whole.is_call.number (λ is. other (is ∙ sym audit)) in
      subst (λ value. Gives value (meaning_of insns call)) (sym one) (answers call whole.is_call.arch other)
]

-- where the filters are followed, rows that are no rules ask for a register that no call has
pub not_there : (programs : List (List Insn)) (is_spent : Bool) (rows : List ConditionalRow) → AreTold X86_64 None programs is_spent rows → (All CanBeRule rows → ⊥)
    → All AreFollowed programs → is_spent ≡ false → AreThere rows → ⊥
not_there programs is_spent rows told none follows unspent there = none (rows_can programs rows (told.exact follows unspent) told.met there)
