use Rattle.std.proofs.Common.{◌&&◌, sym, ◌∙◌}
use Rattle.sk_profile.specs.Views.{rule_of}
use Rattle.sk_profile.specs.Profiles.{Rule, has_none, is_for}
use Rattle.sk_profile_json.proofs.Finding.{find_here, find_later}
use Rattle.sk_profile_json.proofs.deciding.plain_rule.Goals as goal

pub returns-then-is_plain : goal.returns-then-is_plain
returns-then-is_plain c =
    let found = find_here rule_of (λ (rule : Rule). is_for c.args.default c.args.nr rule && has_none rule.conditions) _ _ c.rule-item.result c.loop-rule-test.true c.rule-item.is (sym c.if-is_plain.ensures.is) in
    record { first = sym found ∙ c.loop-rule.invariant }

pub loop-rule-preserved : goal.loop-rule-preserved
loop-rule-preserved c =
    find_later rule_of (λ (rule : Rule). is_for c.args.default c.args.nr rule && has_none rule.conditions) _ _ c.rule-item.result c.loop-rule-test.true c.rule-item.is (sym c.if-is_plain.ensures.is) ∙ c.loop-rule.invariant
