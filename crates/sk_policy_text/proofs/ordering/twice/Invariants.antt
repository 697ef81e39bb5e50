use Rattle.std.proofs.Common.{length, map, ◌∷◌}
use Rattle.sk_policy_text.specs.PolicyRanges.{part_of, PartsApart, Rise}
use Rattle.sk_policy_text.proofs.Ranging.{Passed}
use Rattle.sk_policy_text.proofs.ordering.twice.Given as goal

abbrev pub invariant-loop-next : goal.invariant-loop-next
invariant-loop-next l = record {
  passed : Passed (map part_of l.spans) (part_of l.last) (map part_of l.left);
  rise : Rise (part_of l.last ∷ map part_of l.left);
  apart : PartsApart (part_of l.last ∷ map part_of l.left) → PartsApart (map part_of l.spans);
}

abbrev pub decreases-loop-next : goal.decreases-loop-next
decreases-loop-next l = length l.left
