use Rattle.std.proofs.Common.{◌-◌, ◌≤◌, ℕ, IsTrue, IsFalse}
use Rattle.sk_kernel.proofs.Common.{at, is_match, is_ready}
use Rattle.sk_kernel.proofs.blocked.is_still_asking.Given as goal

abbrev pub invariant-loop-child : goal.invariant-loop-child
invariant-loop-child g l = record {
  unready : (q : ℕ) → q ≤ l.after → IsFalse (is_ready (g.S.ProcStore.contents l.store) l.pid l.request q);
  matched : IsTrue l.is_matched → (q : ℕ) × IsTrue (is_match l.pid l.request q (at (g.S.ProcStore.contents l.store) q));
}

abbrev pub decreases-loop-child : goal.decreases-loop-child
decreases-loop-child g l = 4294967296 - l.after
