use Rattle.std.proofs.Common.{take}
use Rattle.sk_table.proofs.Common.{IsNext, is_sought_pid}
use Rattle.sk_table.proofs.scan.least_after.Given as goal

abbrev pub invariant-loop-row : goal.invariant-loop-row
invariant-loop-row l = IsNext (is_sought_pid l.sought (take l.row-index l.rows)) l.after l.least
