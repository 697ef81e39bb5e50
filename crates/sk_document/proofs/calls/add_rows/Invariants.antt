use Rattle.std.proofs.Common.{◌≡◌, ◌++◌, take, flat_map}
use Rattle.sk_document.specs.CallsDocument.{calls_row}
use Rattle.sk_document.proofs.calls.add_rows.Given as goal

abbrev pub invariant-loop-line : goal.invariant-loop-line
invariant-loop-line l = l.to ≡ l.initial.to ++ flat_map (calls_row l.names) (take l.line-index l.lines)
