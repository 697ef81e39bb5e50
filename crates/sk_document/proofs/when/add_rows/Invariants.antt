use Rattle.std.proofs.Common.{◌≡◌, ◌++◌, take, flat_map}
use Rattle.sk_document.specs.WhenDocument.{when_row}
use Rattle.sk_document.proofs.when.add_rows.Given as goal

abbrev pub invariant-loop-row : goal.invariant-loop-row
invariant-loop-row l = l.to ≡ l.initial.to ++ flat_map (when_row l.names) (take l.row-index l.rows)
