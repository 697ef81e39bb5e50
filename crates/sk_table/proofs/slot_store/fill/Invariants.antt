use Rattle.std.proofs.Common.{◌≡◌, ℕ, ◌+◌, ◌-◌, ◌≤◌, vec_len, vec_capacity}
use Rattle.sk_table.proofs.Common.{LAST_PID, slot}
use Rattle.sk_table.proofs.slot_store.fill.Given as goal

abbrev pub invariant-loop-table : goal.invariant-loop-table
invariant-loop-table l = record {
  slots : (q : ℕ) → slot l.table.items q ≡ slot l.initial.table.items q;
  room : vec_capacity l.table ≡ vec_capacity l.initial.table;
  narrow : vec_len l.table ≤ LAST_PID + 1;
}

abbrev pub decreases-loop-table : goal.decreases-loop-table
decreases-loop-table l = (l.place + 1) - vec_len l.table
