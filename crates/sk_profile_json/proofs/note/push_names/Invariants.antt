use Rattle.std.proofs.Common.{◌≡◌, ◌++◌, drop, map, string_bytes}
use Rattle.json.specs.Value.{value_view}
use Rattle.sk_profile_json.specs.Notes.{names_notes}
use Rattle.sk_profile_json.proofs.note.push_names.Given as goal

abbrev pub invariant-loop-name : goal.invariant-loop-name
invariant-loop-name l =
    map string_bytes l.notes.items ++ names_notes l.entry (drop l.name-index (map value_view l.names))
    ≡ map string_bytes l.fn.notes.items ++ names_notes l.entry (map value_view l.names)
