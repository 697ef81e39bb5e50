use Rattle.std.proofs.Common.{◌≡◌, ◌++◌, take, string_bytes}
use Rattle.sk_replay.specs.Replaying.{part_text}
use Rattle.sk_replay.proofs.text.push_part.Given as goal

abbrev pub invariant-loop-row : goal.invariant-loop-row
invariant-loop-row l = string_bytes l.text ≡ string_bytes l.initial.text ++ part_text l.architecture l.performed (take l.row-index l.rows)
