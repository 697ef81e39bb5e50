use Rattle.std.proofs.Common.{length, map, ◌≤◌, ◌^◌}
use Rattle.sk_policy_text.specs.PolicyRanges.{part_of}
use Rattle.sk_policy_text.proofs.Ranging.{Named}
use Rattle.sk_policy_text.proofs.ordering.unnamed.Given as goal

abbrev pub invariant-loop-span : goal.invariant-loop-span
invariant-loop-span l = record {
  named : Named l.architecture (map part_of l.spans) l.next (map part_of l.left);
  inside : l.next ≤ 2 ^ 32;
}

abbrev pub decreases-loop-span : goal.decreases-loop-span
decreases-loop-span l = length l.left
