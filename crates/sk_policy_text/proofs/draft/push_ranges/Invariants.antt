use Rattle.std.proofs.Common.{◌≡◌, ◌++◌, length, map}
use Rattle.sk_policy_text.specs.PolicyRows.{parts_in}
use Rattle.sk_policy_text.specs.PolicyRanges.{part_of}
use Rattle.sk_policy_text.proofs.draft.push_ranges.Given as goal

abbrev pub invariant-loop-range : goal.invariant-loop-range
invariant-loop-range l = map part_of l.spans.items ++ parts_in l.left l.line l.verdict l.behind
    ≡ map part_of l.initial.spans.items ++ parts_in l.ranges l.line l.verdict l.behind

abbrev pub decreases-loop-range : goal.decreases-loop-range
decreases-loop-range l = length l.left
