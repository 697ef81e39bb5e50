use Rattle.std.proofs.Common.{◌∙◌}
use Rattle.sk_profile_json.proofs.Following.{more_conditions}
use Rattle.sk_profile_json.proofs.conditions.conditions_of.Goals as goal

pub loop-argument-preserved : goal.loop-argument-preserved
loop-argument-preserved c =
    more_conditions _ _ c.argument-item.result _ _ c.loop-argument-test.true c.argument-item.is c.in_ok-push_condition.ensures.pushed ∙ c.loop-argument.invariant
