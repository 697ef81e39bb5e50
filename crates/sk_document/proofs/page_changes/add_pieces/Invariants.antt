use Rattle.std.proofs.Common.{◌≡◌, ◌++◌, take, flat_map}
use Rattle.sk_document.specs.PageChanges.{piece_changes}
use Rattle.sk_document.proofs.page_changes.add_pieces.Given as goal

abbrev pub invariant-loop-piece : goal.invariant-loop-piece
invariant-loop-piece l = l.to ≡ l.initial.to ++ flat_map (piece_changes l.names l.kind) (take l.piece-index l.pieces)
