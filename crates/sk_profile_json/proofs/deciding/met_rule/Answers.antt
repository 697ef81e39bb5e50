use Rattle.std.proofs.Common.{sym, ◌∙◌}
use Rattle.sk_profile.specs.Views.{rule_of}
use Rattle.sk_profile_json.specs.Deciding.{is_met}
use Rattle.sk_profile_json.proofs.Finding.{find_here, find_later}
use Rattle.sk_profile_json.proofs.deciding.met_rule.Goals as goal

pub returns-then-is_met : goal.returns-then-is_met
returns-then-is_met c =
    let found = find_here rule_of (is_met c.args.default c.args.nr c.args.call.now) _ _ c.rule-item.result c.loop-rule-test.true c.rule-item.is (sym c.if-is_met.ensures.is) in
    record { first = sym found ∙ c.loop-rule.invariant }

pub loop-rule-preserved : goal.loop-rule-preserved
loop-rule-preserved c =
    find_later rule_of (is_met c.args.default c.args.nr c.args.call.now) _ _ c.rule-item.result c.loop-rule-test.true c.rule-item.is (sym c.if-is_met.ensures.is) ∙ c.loop-rule.invariant
