use Rattle.std.proofs.Common.{length, map, ◌+◌, ◌≤◌, ◌^◌}
use Rattle.sk_policy.specs.Sizes.{rules_most}
use Rattle.sk_policy_text.specs.PolicyRanges.{part_of}
use Rattle.sk_policy_text.specs.PolicySizes.{parts_bound}
use Rattle.sk_policy_text.proofs.Ruling.{Ruled}
use Rattle.sk_policy_text.proofs.rules.rules_of.Given as goal

abbrev pub invariant-loop-span : goal.invariant-loop-span
invariant-loop-span l = record {
  ruled : Ruled l.architecture l.others (map part_of l.spans) l.rules.items l.next (map part_of l.left);
  inside : l.next ≤ 2 ^ 32;
  room : 2 ^ 20 + parts_bound (map part_of l.left) ≤ l.room + parts_bound (map part_of l.spans);
  size : rules_most l.rules.items + parts_bound (map part_of l.left) ≤ parts_bound (map part_of l.spans);
}

abbrev pub decreases-loop-span : goal.decreases-loop-span
decreases-loop-span l = length l.left
