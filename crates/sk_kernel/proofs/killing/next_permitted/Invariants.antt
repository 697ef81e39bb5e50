use Rattle.std.proofs.Common.{◌≡◌, ◌-◌, ◌<◌, ◌≤◌, ℕ, false}
use Rattle.sk_kernel.proofs.Common.{is_reached}
use Rattle.sk_kernel.proofs.killing.next_permitted.Given as goal

abbrev pub invariant-loop-pid : goal.invariant-loop-pid
invariant-loop-pid g l = record {
  begun : l.after ≤ l.from;
  passed : (q : ℕ) → l.after < q → q ≤ l.from → is_reached (g.S.ProcStore.contents l.store) l.caller l.creds l.who l.signal q ≡ false;
}

abbrev pub decreases-loop-pid : goal.decreases-loop-pid
decreases-loop-pid g l = 32767 - l.from
