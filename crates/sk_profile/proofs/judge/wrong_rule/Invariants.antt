use Rattle.std.proofs.Common.{◌≡◌, ◌+◌, length, drop}
use Rattle.std.specs.Prelude.{All}
use Rattle.sk_profile.specs.Rows.{AreGood}
use Rattle.sk_profile.proofs.judge.wrong_rule.Given as goal

abbrev pub invariant-loop-first : goal.invariant-loop-first
invariant-loop-first l = record {
  left : l.left ≡ drop l.part l.profile.parts.items;
  place : l.part + length l.left ≡ length l.profile.parts.items;
  good : All AreGood l.left → All AreGood l.profile.parts.items;
}

abbrev pub decreases-loop-first : goal.decreases-loop-first
decreases-loop-first l = length l.left
