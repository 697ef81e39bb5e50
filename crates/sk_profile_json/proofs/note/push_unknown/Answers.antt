use Rattle.std.proofs.Common.{◌++◌, map, string_bytes, ap, ◌∙◌}
use Rattle.sk_profile_json.specs.Notes.{names_notes}
use Rattle.sk_profile_json.proofs.Noting.{more_notes}
use Rattle.sk_profile_json.proofs.note.push_unknown.Goals as goal

pub loop-place-preserved : goal.loop-place-preserved
loop-place-preserved c =
    let pushed =
    c.in_ok-push_names.ensures.pushed
    ∙ ap (λ names. map string_bytes c.loop-place.notes.items ++ names_notes c.loop-place.place names) c.counted_names.ensures.names in
    more_notes c.args.context.now _ _ c.index-entries-place.result _ _ c.loop-place-test.true c.index-entries-place.is pushed
    ∙ c.loop-place.invariant
