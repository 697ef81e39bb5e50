use Rattle.std.proofs.Common.{take}
use Rattle.sk_policy_when.specs.Narrowing.{AreAllowedRows, allowed_rows}
use Rattle.sk_policy_when.proofs.narrowing.allowed_rows.Given as goal

-- the rows that are there are those of the numbers that are done
abbrev pub invariant-loop-number : goal.invariant-loop-number
invariant-loop-number l = AreAllowedRows (allowed_rows (take l.number-index l.numbers) l.narrowed l.calls) l.rows.items
