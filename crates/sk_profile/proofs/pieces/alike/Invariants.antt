use Rattle.std.specs.Prelude.{All}
use Rattle.std.proofs.Common.{take, ◌≤◌}
use Rattle.sk_profile.specs.Code.{high}
use Rattle.sk_profile.specs.CodeViews.{Asks}
use Rattle.sk_profile.proofs.pieces.alike.Given as goal

abbrev pub invariant-loop-at : goal.invariant-loop-at
invariant-loop-at l = record {
  few : l.at ≤ 200;
  like : All (Asks l.first.index l.first.value (high l.first.number)) (take l.at l.arms);
}
