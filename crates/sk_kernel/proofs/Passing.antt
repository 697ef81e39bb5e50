-- Who is passed over on the way to the next candidate, and who is found.
use Rattle.std.proofs.Common.{◌≡◌, ◌≢◌, ◌∙◌, ◌<◌, ◌≤◌, ⊎_elim, ℕ, zero, suc, arith, ap, sym, refl, subst, Bool, true, false, not, ◌&&◌, ◌||◌, IsTrue, IsFalse, List, Option, None, Some, nat_lt, is_some, option_and_then, find, lt-ltb, le-ltb}
use Rattle.sk_kernel.proofs.Common.{option_or, false≢true, cases_lt, false_from_ne_true, contains, LAST_PID, INIT, Life, Running, Stopped, Zombie, Proc, pids, World, at, has_ended, is_zombie, is_halted, is_alive, is_stopped, IsWorld, first_here, none_first, end_status, halted_of, goes_on, is_runnable, next_of, nobody_at_0, signal_due, has_change_for, OthersBlocked, NoOtherPasses, PassesOver}
use Rattle.sk_kernel.proofs.Idle.{cannot_run}

and_none : (b : Bool) → (b && false) ≡ false
and_none true = refl
and_none false = refl

-- nobody cannot run
pub nobody_runs : (w : World) (q : ℕ) → at w q ≡ None → is_runnable w q ≡ false
nobody_runs w q is =
    ap (λ b. (not (is_halted w) && b) && others) (ap is_alive is) ∙ ap (λ b. b && others) (and_none (not (is_halted w)))
  where
    others : Bool
    others = is_some (signal_due (at w q)) || (not (is_stopped (at w q)) && goes_on w q (at w q))

-- the test of the walk above a pid
abbrev pub runs_above : World → ℕ → ℕ → Bool
runs_above w after q = nat_lt after q && is_runnable w q

absent : (o : Option Proc) → is_some o ≡ false → o ≡ None
absent None is = refl
absent (Some p) is = absurd (false≢true (sym is))

there : (w : World) (pid : ℕ) → IsTrue (is_runnable w pid) → IsTrue (is_some (at w pid))
there w pid runs = elim (at w pid) as (λ o. at w pid ≡ o → IsTrue (is_some o)) [
  | None ↦ λ is. absurd (false≢true (sym (nobody_runs w pid is) ∙ runs))
  | Some p ↦ λ _. refl
] refl

module _ (w : World) (rules : IsWorld w) (noted : List ℕ) (touched : ℕ) (others : OthersBlocked w noted touched) where
  -- who is not noted, and has no status change to wait for
  pub still : (q : ℕ) → IsFalse (contains noted q) → IsFalse (has_change_for q (at w touched)) → is_runnable w q ≡ false
  still q out none = ⊎_elim
      (λ beyond. nobody_runs w q (absent (at w q) (false_from_ne_true (is_some (at w q)) (λ is. too_far q beyond (rules.pids q is).1))))
      (λ within. cannot_run w q (others q within out none))
      (cases_lt LAST_PID q)
    where
      too_far : (q : ℕ) → LAST_PID < q → q ≤ LAST_PID → ⊥
      too_far q beyond within = omega (arith, beyond, within)

  -- nobody has a status change to wait for but this one
  module _ (waiter : Option ℕ) (is_waiter : (q : ℕ) → IsTrue (has_change_for q (at w touched)) → waiter ≡ Some q) where
    not_waiting : (q : ℕ) → waiter ≢ Some q → IsFalse (has_change_for q (at w touched))
    not_waiting q other = false_from_ne_true (has_change_for q (at w touched)) (λ change. other (is_waiter q change))

    pub passed_over : NoOtherPasses (is_runnable w) noted waiter
    passed_over q out other = still q out (not_waiting q other)

-- ---- the walk from candidate to candidate

not_above : (w : World) (after q : ℕ) → (after < q → is_runnable w q ≡ false) → runs_above w after q ≡ false
not_above w after q none = ⊎_elim
    (λ lt. ap (λ b. nat_lt after q && b) (none lt) ∙ and_none (nat_lt after q))
    (λ ge. ap (λ b. b && is_runnable w q) (le-ltb after q ge))
    (cases_lt after q)

-- the least one above that can run is found
pub found : (w : World) (after passed pid : ℕ) → after ≤ passed → ((q : ℕ) → after < q → q ≤ passed → is_runnable w q ≡ false)
    → PassesOver (is_runnable w) passed (Some pid) → IsTrue (is_runnable w pid) → Some pid ≡ find (runs_above w after) (pids w.procs)
found w after passed pid le none next runs =
    sym (first_here (runs_above w after) pid w.procs.entries w.procs.rising (there w pid runs) ((λ i. lt-ltb after pid (omega (arith, le, next.0)) i && runs i)) before)
  where
    before : (q : ℕ) → q < pid → runs_above w after q ≡ false
    before q lt = not_above w after q (λ above. ⊎_elim (λ behind. next.1 q behind lt) (λ until. none q above until) (cases_lt passed q))

-- or none is there
pub not_found : (w : World) (after passed : ℕ) → ((q : ℕ) → after < q → q ≤ passed → is_runnable w q ≡ false)
    → PassesOver (is_runnable w) passed None → None ≡ find (runs_above w after) (pids w.procs)
not_found w after passed none next = sym (none_first (runs_above w after) (pids w.procs) all)
  where
    all : (q : ℕ) → runs_above w after q ≡ false
    all q = not_above w after q (λ above. ⊎_elim (λ behind. next q behind) (λ until. none q above until) (cases_lt passed q))

-- who is not passed yet is passed with the next one that cannot run
pub passed_by : (w : World) (after passed pid : ℕ) → ((q : ℕ) → after < q → q ≤ passed → is_runnable w q ≡ false)
    → PassesOver (is_runnable w) passed (Some pid) → is_runnable w pid ≡ false → (q : ℕ) → after < q → q ≤ pid → is_runnable w q ≡ false
passed_by w after passed pid none next stays q above until = ⊎_elim
    (λ lt. ⊎_elim (λ behind. next.1 q behind lt) (λ before. none q above before) (cases_lt passed q))
    (λ ge. last ge)
    (cases_lt q pid)
  where
    last : pid ≤ q → is_runnable w q ≡ false
    last ge = subst (λ k. is_runnable w k ≡ false) same stays
      where
        same : pid ≡ q
        same = omega (arith, ge, until)

-- every process is above 0
pub above_0 : (w : World) → IsWorld w → find (runs_above w 0) (pids w.procs) ≡ find (is_runnable w) (pids w.procs)
above_0 w rules = (λ i. find (λ q. same q i) (pids w.procs))
  where
    same : (q : ℕ) → runs_above w 0 q ≡ is_runnable w q
    same zero = sym (nobody_runs w 0 (nobody_at_0 w rules))
    same (suc q) = ap (λ b. b && is_runnable w (suc q)) (lt-ltb 0 (suc q) (omega arith))

is_over : (o : Option Proc) → IsTrue (is_some (option_and_then (λ p. end_status p.body.life) o)) → is_zombie o ≡ true
is_over None over = absurd (false≢true over)
is_over (Some p) over = by_life p.body.life over
  where
    by_life : (l : Life) → IsTrue (is_some (end_status l)) → has_ended l ≡ true
    by_life (Zombie status) over = refl
    by_life Stopped over = absurd (false≢true over)
    by_life Running over = absurd (false≢true over)

-- nobody runs in a system that has halted
module _ (w : World) (halted : IsTrue (is_some (halted_of w))) where
  none_runs : (q : ℕ) → is_runnable w q ≡ false
  none_runs q = ap (λ b. not b && is_alive (at w q) && others) (is_over (at w INIT) halted)
    where
      others : Bool
      others = is_some (signal_due (at w q)) || (not (is_stopped (at w q)) && goes_on w q (at w q))

  pub none_is_next : (last : ℕ) → None ≡ next_of w last
  none_is_next last =
      sym (λ i. option_or (none_first (runs_above w last) (pids w.procs) (λ q. not_above w last q (λ _. none_runs q)) i) (none_first (is_runnable w) (pids w.procs) none_runs i))
