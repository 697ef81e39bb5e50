use Rattle.std.proofs.Common.{◌∙◌}
use Rattle.sk_profile_json.proofs.Gathering.{more_found}
use Rattle.json.specs.Value.{value_view}
use Rattle.sk_profile_json.specs.Notes.{name_note}
use Rattle.sk_profile_json.proofs.note.push_names.Goals as goal

pub loop-name-preserved : goal.loop-name-preserved
loop-name-preserved c =
    more_found value_view (name_note c.args.entry) _ _ c.name-item.result _ _ c.loop-name-test.true c.name-item.is c.in_ok-push_name.ensures.pushed
    ∙ c.loop-name.invariant
