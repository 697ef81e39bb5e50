use Rattle.std.proofs.Common.{◌≡◌, take, flat_map, string_bytes}
use Rattle.sk_when.specs.WhenText.{row_text}
use Rattle.sk_when.proofs.when_lines.when_text.Given as goal

abbrev pub invariant-loop-row : goal.invariant-loop-row
invariant-loop-row l = string_bytes l.text ≡ flat_map (row_text l.names) (take l.row-index l.rows)
