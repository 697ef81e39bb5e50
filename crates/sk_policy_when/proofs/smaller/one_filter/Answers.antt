use Rattle.std.proofs.Common.{subst}
use Rattle.std.specs.Prelude.{All, IfNone, IfSome}
use Rattle.sk_names.specs.declared.architecture.Architecture.TheVariants.{X86_64}
use Rattle.sk_policy.specs.declared.policy.Policy.{Policy}
use Rattle.sk_survey.specs.declared.other.Other.TheVariants.{Verdict}
use Rattle.sk_policy_when.specs.Again.{AreRulesOf}
use Rattle.sk_policy_when.specs.Smaller.{CanBeRule, IsOthersVerdict}
use Rattle.sk_policy_when.proofs.Again.{rows_are_rules}
use Rattle.sk_policy_when.proofs.Answering.{answers_as, not_there}
use Rattle.sk_policy_when.proofs.smaller.one_filter.Goals as goal

pub returns-in_default-clause-fault : goal.returns-in_default-clause-fault
returns-in_default-clause-fault c = λ follows unspent.
    let rows = c.in_ok-rows.rows.items in
    let none : All CanBeRule rows → ⊥ = subst (λ found. IfNone found (All CanBeRule rows → ⊥)) c.in_default.is c.in_ok-rules.ensures.none in
    (rows, c.in_ok-rows.ensures.told, not_there c.args.chain.now _ rows c.in_ok-rows.ensures.told none follows unspent)

pub policy_filter-requires-clause-apart : goal.policy_filter-requires-clause-apart
policy_filter-requires-clause-apart c =
    let rows = c.in_ok-rows.rows.items in
    let are : AreRulesOf rows c.in-Some.rules.items = subst (λ found. IfSome found (λ rules. AreRulesOf rows rules.items)) c.in-Some.is c.in_ok-rules.ensures.are in
    (rows_are_rules X86_64 c.args.chain.now _ rows c.in-Some.rules.items c.in_ok-rows.ensures.told are).0

pub policy_filter-requires-clause-within : goal.policy_filter-requires-clause-within
policy_filter-requires-clause-within c =
    let rows = c.in_ok-rows.rows.items in
    let are : AreRulesOf rows c.in-Some.rules.items = subst (λ found. IfSome found (λ rules. AreRulesOf rows rules.items)) c.in-Some.is c.in_ok-rules.ensures.are in
    (rows_are_rules X86_64 c.args.chain.now _ rows c.in-Some.rules.items c.in_ok-rows.ensures.told are).1

pub returns-clause-same : goal.returns-clause-same
returns-clause-same c =
    let rows = c.in_ok-rows.rows.items in
    let are : AreRulesOf rows c.in-Some.rules.items = subst (λ found. IfSome found (λ rules. AreRulesOf rows rules.items)) c.in-Some.is c.in_ok-rules.ensures.are in
    let others : IsOthersVerdict c.args.chain.now (Verdict c.in-Verdict.value) = subst (IsOthersVerdict c.args.chain.now) c.in-Verdict.is c.in_ok-value.ensures.others in
    let policy : Policy = record { audit = c.audit.result; rules = c.in-Some.rules; default = 0x80000000; others = c.in-Verdict.value } in
    answers_as c.other_verdict_is_of_each_call.ensures.law c.args.chain.now c.programs-filters.ensures.valid _ rows policy c.in_ok-insns.insns.items c.in_ok-rows.ensures.told are c.audit.ensures.number others
    c.in_ok-insns.ensures.means c.in_ok-insns.ensures.others
