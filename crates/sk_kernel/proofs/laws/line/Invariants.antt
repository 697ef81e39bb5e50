use Rattle.std.proofs.Common.{◌≡◌, ◌≤◌, length, reverse, take}
use Rattle.sk_kernel.proofs.Common.{lineage_of, with_calls, history_of}
use Rattle.sk_kernel.proofs.laws.line.Given as goal

abbrev pub invariant-loop-left : goal.invariant-loop-left
invariant-loop-left l = record {
  within : l.left ≤ length l.events;
  lineage : with_calls (reverse l.calls.items) (lineage_of (history_of (take l.left l.events) (take l.left l.answers)) l.root) ≡ lineage_of (history_of l.events l.answers) l.pid;
}

abbrev pub decreases-loop-left : goal.decreases-loop-left
decreases-loop-left l = l.left
