use Rattle.std.proofs.Common.{◌≡◌, ◌-◌, ◌<◌, ◌≤◌, ℕ, false}
use Rattle.sk_kernel.proofs.Common.{is_runnable}
use Rattle.sk_kernel.proofs.asking.first_runnable.Given as goal

abbrev pub invariant-loop-pid : goal.invariant-loop-pid
invariant-loop-pid g l = record {
  above : l.fn.after ≤ l.passed;
  none : (q : ℕ) → l.fn.after < q → q ≤ l.passed → is_runnable (g.S.ProcStore.contents l.store) q ≡ false;
}

abbrev pub decreases-loop-pid : goal.decreases-loop-pid
decreases-loop-pid g l = 4294967296 - l.passed
