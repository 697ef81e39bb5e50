use Rattle.std.proofs.Common.{◌≡◌, length}
use Rattle.sk_profile.specs.Sayings.{are_apart}
use Rattle.sk_profile.proofs.judge.are_apart.Given as goal

abbrev pub invariant-loop-condition : goal.invariant-loop-condition
invariant-loop-condition l = are_apart l.left ≡ are_apart l.conditions

abbrev pub decreases-loop-condition : goal.decreases-loop-condition
decreases-loop-condition l = length l.left
