use Rattle.std.proofs.Common.{map, ◌∙◌}
use Rattle.sk_profile_json.specs.EntryViews.{named_view}
use Rattle.sk_profile_json.specs.Multiplexed.{told_rule}
use Rattle.sk_profile_json.specs.PartViews.{told_view}
use Rattle.sk_profile_json.proofs.Gathering.{more_found_at}
use Rattle.sk_profile_json.proofs.multiplexed.push_told_rules.Goals as goal

pub loop-told-preserved : goal.loop-told-preserved
loop-told-preserved c =
    more_found_at told_view (told_rule c.args.number c.args.mask c.args.default (map named_view c.args.named.now)) c.args.tells.now c.loop-told.told-index _ _ _
    c.loop-told-test.true c.in_ok-push_told_rule.ensures.pushed
    ∙ c.loop-told.invariant
