use Rattle.std.proofs.Common.{◌≡◌, ◌-◌, ◌≤◌, ℕ, true, false, IsTrue}
use Rattle.sk_world.specs.Common.{at, is_match, is_ready}
use Rattle.sk_world.proofs.waiting.ready.Given as goal

abbrev pub invariant-loop-child : goal.invariant-loop-child
invariant-loop-child g l = record {
  unready : (q : ℕ) → q ≤ l.after → is_ready (g.S.ProcStore.contents l.store) l.caller l.request q ≡ false;
  matched : l.is_matched ≡ true → (q : ℕ) × IsTrue (is_match l.caller l.request q (at (g.S.ProcStore.contents l.store) q));
  unmatched : l.is_matched ≡ false → (q : ℕ) → q ≤ l.after → is_match l.caller l.request q (at (g.S.ProcStore.contents l.store) q) ≡ false;
}

abbrev pub decreases-loop-child : goal.decreases-loop-child
decreases-loop-child g l = 32767 - l.after
