use Rattle.std.proofs.Common.{◌≡◌, ◌++◌, take, flat_map}
use Rattle.sk_document.specs.PageLint.{piece_of_concern}
use Rattle.sk_document.proofs.page_lint.add_pieces.Given as goal

abbrev pub invariant-loop-piece : goal.invariant-loop-piece
invariant-loop-piece g l = l.to ≡ l.initial.to ++ flat_map (piece_of_concern l.naming (g.R.Remarks.remark l.remarks) l.concern) (take l.piece-index l.pieces)
