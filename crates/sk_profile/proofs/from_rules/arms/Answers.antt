use Rattle.std.proofs.Common.{subst, sym}
use Rattle.std.specs.Prelude.{All}
use Rattle.std.proofs.lemmas.List.Elements.{All-tail}
use Rattle.sk_profile.specs.Rows.{IsGood}
use Rattle.sk_profile.proofs.Starts.{with_rule, without_rule}
use Rattle.sk_profile.proofs.from_rules.arms.Goals as goal

pub loop-rule-preserved-in_ok-push_arm : goal.loop-rule-preserved-in_ok-push_arm
loop-rule-preserved-in_ok-push_arm c = record {
  left = All-tail IsGood _ _ (subst (All IsGood) c.in-Some.ensures.cases.0 c.loop-rule.invariant.left);
  good = c.in_ok-push_arm.ensures.good c.loop-rule.invariant.good;
  arms = with_rule _ _ _ _ c.args.rules.now _ c.args.default c.args.nr c.in_ok-push_arm.ensures.arms c.in-Some.ensures.cases.0 (sym c.if-is_for.ensures.is_for) c.loop-rule.invariant.arms;
}

pub loop-rule-preserved : goal.loop-rule-preserved
loop-rule-preserved c = record {
  left = All-tail IsGood _ _ (subst (All IsGood) c.in-Some.ensures.cases.0 c.loop-rule.invariant.left);
  good = c.loop-rule.invariant.good;
  arms = without_rule _ _ _ c.args.rules.now _ c.args.default c.args.nr c.in-Some.ensures.cases.0 (sym c.if-is_for.ensures.is_for) c.loop-rule.invariant.arms;
}
