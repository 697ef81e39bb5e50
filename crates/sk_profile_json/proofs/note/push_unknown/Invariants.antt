use Rattle.std.proofs.Common.{◌≡◌, ◌++◌, drop, map, string_bytes}
use Rattle.json.specs.Value.{value_view}
use Rattle.sk_profile_json.specs.Notes.{notes_from}
use Rattle.sk_profile_json.proofs.note.push_unknown.Given as goal

abbrev pub invariant-loop-place : goal.invariant-loop-place
invariant-loop-place l =
    map string_bytes l.notes.items ++ notes_from l.context l.place (drop l.place (map value_view l.entries))
    ≡ map string_bytes l.fn.notes.items ++ notes_from l.context 0 (map value_view l.entries)
