use Rattle.std.proofs.Common.{◌≡◌, ◌-◌, ◌^◌, min, take}
use Rattle.sk_when.specs.LintText.{counted}
use Rattle.sk_when.proofs.lint_lines.count_of.Given as goal

abbrev pub invariant-loop-piece : goal.invariant-loop-piece
invariant-loop-piece l = l.count ≡ min (counted l.concern (take l.piece-index l.pieces)) (2 ^ 64 - 1)
