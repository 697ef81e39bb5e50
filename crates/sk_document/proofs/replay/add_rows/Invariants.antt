use Rattle.std.proofs.Common.{◌≡◌, ◌++◌, take, flat_map}
use Rattle.sk_document.specs.ReplayDocument.{replay_row}
use Rattle.sk_document.proofs.replay.add_rows.Given as goal

abbrev pub invariant-loop-row : goal.invariant-loop-row
invariant-loop-row l = l.to ≡ l.initial.to ++ flat_map (replay_row l.architecture) (take l.row-index l.rows)
