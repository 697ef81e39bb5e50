use Rattle.std.proofs.Common.{◌≡◌, ◌++◌, ◌≤◌, map, length}
use Rattle.sk_profile.specs.Code.{lows_code}
use Rattle.sk_profile.specs.CodeViews.{asked_for}
use Rattle.sk_profile.proofs.pieces.push_lows.Given as goal

abbrev pub invariant-loop-arm : goal.invariant-loop-arm
invariant-loop-arm l = record {
  few : length l.left ≤ 200;
  code : l.code.items ++ lows_code (map asked_for l.left) ≡ l.initial.code.items ++ lows_code (map asked_for l.others);
}

abbrev pub decreases-loop-arm : goal.decreases-loop-arm
decreases-loop-arm l = length l.left
