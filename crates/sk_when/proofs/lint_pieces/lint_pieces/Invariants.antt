use Rattle.std.proofs.Common.{◌≡◌, ◌^◌, false, map, take}
use Rattle.std.specs.List.{All, filter}
use Rattle.sk_conditions.specs.Followed.{AreFollowed}
use Rattle.sk_conditions.specs.Steps.{NeverPart}
use Rattle.sk_when.specs.Lint.{IsLinted, is_asked, number_of}
use Rattle.sk_when.specs.LintPieces.{IsKept}
use Rattle.sk_when.specs.Pieces.{AreDecided}
use Rattle.sk_when.proofs.lint_pieces.lint_pieces.Given as goal

-- the pieces that are there are those of the numbers before this one
abbrev pub invariant-loop-nr : goal.invariant-loop-nr
invariant-loop-nr l = record {
  kept : All (IsKept l.chain) l.kept.items;
  numbers : map number_of l.pieces.items ≡ filter (is_asked l.chain) (take l.nr-index l.numbers);
  holds : All (IsLinted l.chain) l.pieces.items;
  decided : All AreFollowed l.chain → l.budgets.is_spent ≡ false → All AreDecided l.pieces.items;
  one_way : NeverPart 0 (2 ^ 32) l.chain → l.initial.budgets.is_spent ≡ false → l.budgets.is_spent ≡ false;
}
