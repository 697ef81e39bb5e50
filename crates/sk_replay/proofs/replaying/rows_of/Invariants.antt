use Rattle.std.proofs.Common.{◌≡◌, ◌++◌, map}
use Rattle.sk_replay.specs.Replaying.{row_of}
use Rattle.sk_replay.proofs.replaying.rows_of.Given as goal

-- the rows that are there, and those of the entries that are left, are those of all entries
abbrev pub invariant-loop-call : goal.invariant-loop-call
invariant-loop-call l = l.rows.items ++ map (row_of l.architecture l.chain) l.call-iterator ≡ map (row_of l.architecture l.chain) l.calls.entries
