use Rattle.std.proofs.Common.{◌≡◌, ◌≤◌, ◌+◌, length, map}
use Rattle.sk_policy_text.specs.PolicyRows.{cases_in}
use Rattle.sk_policy_text.specs.PolicyRanges.{part_of}
use Rattle.sk_policy_text.proofs.ordering.are_few.Given as goal

abbrev pub invariant-loop-span : goal.invariant-loop-span
invariant-loop-span l = record {
  count : l.count + cases_in (map part_of l.left) ≡ cases_in (map part_of l.spans);
  few : l.count ≤ 4096;
}

abbrev pub decreases-loop-span : goal.decreases-loop-span
decreases-loop-span l = length l.left
