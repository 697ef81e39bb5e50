use Rattle.std.proofs.Common.{◌≡◌, ◌++◌, string_bytes, flat_map, take}
use Rattle.sk_when.specs.LintText.{lint_piece_text}
use Rattle.sk_when.proofs.lint_lines.push_pieces.Given as goal

abbrev pub invariant-loop-piece : goal.invariant-loop-piece
invariant-loop-piece g l =
    string_bytes l.text ≡ string_bytes l.initial.text ++ flat_map (lint_piece_text l.naming (g.R.Remarks.remark l.remarks) l.concern) (take l.piece-index l.pieces)
