use Rattle.std.proofs.Common.{◌≡◌, ◌++◌, take, flat_map}
use Rattle.sk_document.specs.ComparisonDocument.{comparison_piece}
use Rattle.sk_document.proofs.comparison.add_pieces.Given as goal

abbrev pub invariant-loop-piece : goal.invariant-loop-piece
invariant-loop-piece l = l.to ≡ l.initial.to ++ flat_map (comparison_piece l.relation l.names) (take l.piece-index l.pieces)
