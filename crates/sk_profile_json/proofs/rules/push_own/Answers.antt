use Rattle.std.proofs.Common.{◌∙◌}
use Rattle.sk_profile_json.specs.EntryViews.{named_view}
use Rattle.sk_profile_json.specs.Rules.{own_rule}
use Rattle.sk_profile_json.proofs.Gathering.{more_found}
use Rattle.sk_profile_json.proofs.rules.push_own.Goals as goal

pub loop-it-preserved : goal.loop-it-preserved
loop-it-preserved c =
    more_found named_view (own_rule c.args.architecture) _ _ c.it-item.result _ _ c.loop-it-test.true c.it-item.is c.in_ok-push_own_rule.ensures.pushed
    ∙ c.loop-it.invariant
