use Rattle.std.proofs.Common.{◌+◌, ◌≤◌, length}
use Rattle.sk_profile.proofs.section.values_of.Given as goal

abbrev pub invariant-loop-row : goal.invariant-loop-row
invariant-loop-row l = length l.values.items ≤ 1 + l.row-index
