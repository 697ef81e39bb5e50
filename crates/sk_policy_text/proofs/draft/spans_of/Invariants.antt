use Rattle.std.proofs.Common.{◌≡◌, ◌++◌, length, map}
use Rattle.sk_policy_text.specs.PolicyRows.{parts_of}
use Rattle.sk_policy_text.specs.PolicyRanges.{part_of}
use Rattle.sk_policy_text.proofs.draft.spans_of.Given as goal

abbrev pub invariant-loop-first : goal.invariant-loop-first
invariant-loop-first l = map part_of l.spans.items ++ parts_of l.left ≡ parts_of l.text

abbrev pub decreases-loop-first : goal.decreases-loop-first
decreases-loop-first l = length l.left
