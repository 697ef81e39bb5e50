use Rattle.std.proofs.Common.{◌≡◌, ◌++◌}
use Rattle.sk_replay.proofs.seen.listed.Given as goal

-- the numbers that are listed, and those that are left, are all
abbrev pub invariant-loop-number : goal.invariant-loop-number
invariant-loop-number l = l.list.items ++ l.number-iterator ≡ l.numbers.keys
