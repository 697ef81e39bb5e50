use Rattle.std.proofs.Common.{◌≡◌, ◌-◌, ◌≤◌, ℕ, false}
use Rattle.sk_machine.specs.Orphans.{is_tie}
use Rattle.sk_machine.proofs.orphans.orphaned.Given as goal

abbrev pub invariant-loop-pid : goal.invariant-loop-pid
invariant-loop-pid g l = (q : ℕ) → q ≤ l.after → is_tie (g.S.ProcStore.contents l.store) l.group q ≡ false

abbrev pub decreases-loop-pid : goal.decreases-loop-pid
decreases-loop-pid g l = 32767 - l.after
