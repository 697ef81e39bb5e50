use Rattle.std.proofs.Common.{length, drop, ◌-◌, ◌+◌, ◌≡◌, ◌≤◌}
use Rattle.sk_when.specs.Filling.{until_operator}
use Rattle.sk_when.proofs.filling.until_operator.Given as goal

abbrev pub invariant-loop-at : goal.invariant-loop-at
invariant-loop-at l =
    (l.at ≤ length l.text) × (l.depth ≤ 1 + l.at)
    × (until_operator l.any l.initial.depth-2 l.text ≡ l.at + until_operator l.any l.depth (drop l.at l.text))

abbrev pub decreases-loop-at : goal.decreases-loop-at
decreases-loop-at l = length l.text - l.at
