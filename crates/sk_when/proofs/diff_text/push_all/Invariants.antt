use Rattle.std.proofs.Common.{◌≡◌, ◌++◌, string_bytes, flat_map, take}
use Rattle.sk_when.specs.DiffText.{piece_text}
use Rattle.sk_when.proofs.diff_text.push_all.Given as goal

abbrev pub invariant-loop-piece : goal.invariant-loop-piece
invariant-loop-piece l = string_bytes l.text ≡ string_bytes l.initial.text ++ flat_map (piece_text l.relation l.names l.kind) (take l.piece-index l.pieces)
