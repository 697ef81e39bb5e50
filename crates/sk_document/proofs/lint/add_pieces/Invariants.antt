use Rattle.std.proofs.Common.{◌≡◌, ◌++◌, take, flat_map}
use Rattle.sk_document.specs.LintDocument.{lint_piece}
use Rattle.sk_document.proofs.lint.add_pieces.Given as goal

abbrev pub invariant-loop-piece : goal.invariant-loop-piece
invariant-loop-piece g l = l.to ≡ l.initial.to ++ flat_map (lint_piece l.naming (g.R.Remarks.remark l.remarks)) (take l.piece-index l.pieces)
