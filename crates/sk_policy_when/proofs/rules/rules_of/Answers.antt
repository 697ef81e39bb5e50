use Rattle.std.proofs.Common.{sym, subst}
use Rattle.std.specs.Prelude.{IfSome}
use Rattle.std.specs.List.{All}
use Rattle.std.proofs.lemmas.List.Elements.{All-push}
use Rattle.sk_policy.specs.Policies.{RuleThere}
use Rattle.sk_policy_when.specs.Again.{AreRulesOf, IsRuleOf}
use Rattle.sk_policy_when.proofs.Ruled.{one_more_made, rule_more}
use Rattle.sk_policy_when.proofs.rules.rules_of.Goals as goal

pub loop-told-preserved : goal.loop-told-preserved
loop-told-preserved c =
    let told = c.in-Some.told in
    let rule = c.in-Some-2.rule in
    let is : IsRuleOf told rule = subst (λ found. IfSome found (IsRuleOf told)) c.in-Some-2.is c.in_ok-rule.ensures.is in
    let there : RuleThere rule = subst (λ found. IfSome found RuleThere) c.in-Some-2.is c.in_ok-rule.ensures.there in
    let rules = c.loop-told.rules.items in
    let items = c.in_ok-push.ensures.items in record {
      made = one_more_made AreRulesOf _ _ _ rules _ told rule (λ front are. rule_more front rules told rule is are) c.in-Some.ensures.steps.0 items c.loop-told.invariant.made;
      there = subst (All RuleThere) (sym items) (All-push RuleThere rules rule c.loop-told.invariant.there there);
    }
