use Rattle.std.proofs.Common.{◌∙◌}
use Rattle.json.specs.Value.{value_view}
use Rattle.sk_profile_json.specs.Entries.{named_as}
use Rattle.sk_profile_json.proofs.Gathering.{more_found}
use Rattle.sk_profile_json.proofs.named.push_names.Goals as goal

pub loop-name-preserved : goal.loop-name-preserved
loop-name-preserved c =
    more_found value_view (named_as c.args.entry c.args.conditions.now c.args.value) _ _ c.name-item.result _ _
    c.loop-name-test.true c.name-item.is c.in_ok-push_name.ensures.pushed
    ∙ c.loop-name.invariant
