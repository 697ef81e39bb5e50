use Rattle.std.proofs.Common.{ℕ, ◌≡◌, ◌≤◌, ◌<◌, false, IsTrue, get_or}
use Rattle.std.specs.List.{All}
use Rattle.sk_conditions.specs.Followed.{AreFollowed}
use Rattle.sk_conditions.specs.Steps.{NeverPart}
use Rattle.sk_when.specs.Pieces.{AreCompared, NamedAreAloneIn, AreDecided}
use Rattle.sk_when.proofs.pieces.push_pieces.Given as goal

abbrev pub invariant-loop-beginning : goal.invariant-loop-beginning
invariant-loop-beginning l = record {
  compared : AreCompared l.chains.relation l.chains.old.now l.chains.new.now 0 l.first l.pieces.items;
  fits : l.first ≤ 4294967295;
  passed : (k : ℕ) → k < l.beginning-index → get_or l.beginnings k 0 ≤ l.first;
  alone : All (NamedAreAloneIn l.architecture) l.pieces.items;
  decided : All AreFollowed l.chains.old.now → All AreFollowed l.chains.new.now → l.budgets.is_spent ≡ false → All AreDecided l.pieces.items;
  one_way : NeverPart 0 4294967296 l.chains.old.now → NeverPart 0 4294967296 l.chains.new.now → l.initial.budgets.is_spent ≡ false → l.budgets.is_spent ≡ false;
  same : IsTrue l.are_same → All AreDecided l.pieces.items;
}
