use Rattle.std.proofs.Common.{◌∙◌}
use Rattle.sk_profile.specs.Views.{rule_of}
use Rattle.sk_profile_json.specs.Partings.{parting_for}
use Rattle.sk_profile_json.proofs.Gathering.{more_found}
use Rattle.sk_profile_json.proofs.parting.push_partings.Goals as goal

pub loop-rule-preserved : goal.loop-rule-preserved
loop-rule-preserved c =
    more_found rule_of (parting_for c.args.default c.args.one.now c.args.other.now) _ _ c.rule-item.result _ _ c.loop-rule-test.true c.rule-item.is
    c.in_ok-push_parting_for.ensures.pushed
    ∙ c.loop-rule.invariant
