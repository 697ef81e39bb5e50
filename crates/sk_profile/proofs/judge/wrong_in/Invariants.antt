use Rattle.std.proofs.Common.{◌≡◌, ◌+◌, length, drop}
use Rattle.std.specs.Prelude.{All}
use Rattle.sk_profile.specs.Rows.{IsGood}
use Rattle.sk_profile.proofs.judge.wrong_in.Given as goal

abbrev pub invariant-loop-rule : goal.invariant-loop-rule
invariant-loop-rule l = record {
  left : l.left ≡ drop l.place l.part.rules.items;
  place : l.place + length l.left ≡ length l.part.rules.items;
  good : All IsGood l.left → All IsGood l.part.rules.items;
}

abbrev pub decreases-loop-rule : goal.decreases-loop-rule
decreases-loop-rule l = length l.left
