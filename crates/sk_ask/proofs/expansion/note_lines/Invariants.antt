use Rattle.std.proofs.Common.{◌≡◌, map, string_bytes, take}
use Rattle.sk_ask.specs.Expanding.{note_lines}
use Rattle.sk_ask.proofs.expansion.note_lines.Given as goal

abbrev pub invariant-loop-note : goal.invariant-loop-note
invariant-loop-note l = l.lines.items ≡ note_lines l.name (map string_bytes (take l.note-index l.notes))
