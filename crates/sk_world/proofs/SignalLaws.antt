-- Laws of signals on one process, over the definitions alone.
use Rattle.std.proofs.Common.{◌≡◌, ◌∙◌, ◌≤◌, ◌==◌, ◌&&◌, ap, sym, refl, ℕ, zero, suc, arith, Bool, true, false, cond, not, [], ◌∷◌, Option, Some, None}
use Rattle.std.specs.Prelude.{IsTrue, IsFalse}
use Rattle.std.specs.List.{find}
use Rattle.sk_world.specs.Common.{option_or, SIGKILL, SIGCHLD, SIGCONT, Signals, IsSignal, signals_to, lowest, is_stop, is_handler, is_ignored, SignalState, disposition_of, without_stops, generated, ready, deliverable, pushed, popped}
use Rattle.sk_world.specs.Sets as set
use Rattle.sk_world.proofs.Common.{find-append, nat_tests}
use Rattle.sk_world.proofs.SetLaws.{sets, same_members, insert_twice, remove_twice}
use Rattle.sk_world.proofs.SignalsReady.{ready_is}

-- ---- a signal that is pending already stays once
left : Bool → Bool → Signals → Signals
left is_cont stops p = cond is_cont (without_stops p) (cond stops (set.remove p SIGCONT) p)

left_twice : (is_cont stops : Bool) (p : Signals) → left is_cont stops (left is_cont stops p) ≡ left is_cont stops p
unfolding left
left_twice true stops p = same_members _ _ (λ q. grind (arith, nat_tests, sets))
left_twice false true p = remove_twice p SIGCONT
left_twice false false p = refl

left-insert : (is_cont stops : Bool) (n : ℕ) (p : Signals) → set.insert (left is_cont stops (set.insert (left is_cont stops p) n)) n ≡ set.insert (left is_cont stops p) n
unfolding left
left-insert true stops n p = same_members _ _ (λ q. grind (arith, nat_tests, sets))
left-insert false true n p = same_members _ _ (λ q. grind (arith, nat_tests, sets))
left-insert false false n p = insert_twice p n

-- `generated` by the tests that it makes: the signal is spared process 1, or is dropped
by_tests : Bool → Bool → Bool → Bool → ℕ → SignalState → SignalState
by_tests spared dropped is_cont stops n s =
    cond spared s (cond dropped (record s { pending = left is_cont stops s.pending }) (record s { pending = set.insert (left is_cont stops s.pending) n }))

by_tests_twice : (spared dropped is_cont stops : Bool) (n : ℕ) (s : SignalState) → by_tests spared dropped is_cont stops n (by_tests spared dropped is_cont stops n s) ≡ by_tests spared dropped is_cont stops n s
unfolding by_tests
by_tests_twice true dropped is_cont stops n s = refl
by_tests_twice false true is_cont stops n s = ap (λ p. record s { pending = p }) (left_twice is_cont stops s.pending)
by_tests_twice false false is_cont stops n s = ap (λ p. record s { pending = p }) (left-insert is_cont stops n s.pending)

is_spared : ℕ → Bool → SignalState → Bool
is_spared n init s = init && not (is_handler (disposition_of s n))

is_dropped : ℕ → Bool → SignalState → Bool
is_dropped n init s = is_ignored n init (disposition_of s n) && not (set.contains s.mask n)

-- the tests look at the mask and the dispositions alone, which `by_tests` leaves
same_tests : (spared dropped is_cont stops : Bool) (n : ℕ) (init : Bool) (s : SignalState) → generated n init (by_tests spared dropped is_cont stops n s) ≡ by_tests (is_spared n init s) (is_dropped n init s) (n == SIGCONT) (is_stop n) n (by_tests spared dropped is_cont stops n s)
unfolding by_tests left is_spared is_dropped
same_tests true dropped is_cont stops n init s = refl
same_tests false true is_cont stops n init s = refl
same_tests false false is_cont stops n init s = refl

-- signals are not queued: signal(7)
pub generated_twice : (n : ℕ) (init : Bool) (s : SignalState) → generated n init (generated n init s) ≡ generated n init s
unfolding by_tests left is_spared is_dropped
generated_twice n init s =
    same_tests (is_spared n init s) (is_dropped n init s) (n == SIGCONT) (is_stop n) n init s
    ∙ by_tests_twice (is_spared n init s) (is_dropped n init s) (n == SIGCONT) (is_stop n) n s

-- ---- SIGCHLD leaves nothing for SIGCONT to do
with_chld : SignalState → SignalState
with_chld s = record s { pending = set.insert s.pending SIGCHLD }

-- where SIGCONT changes nothing, it changes nothing with SIGCHLD pending besides
settled_with_chld : (spared dropped : Bool) (s : SignalState) → by_tests spared dropped true false SIGCONT s ≡ s → by_tests spared dropped true false SIGCONT (with_chld s) ≡ with_chld s
unfolding by_tests left with_chld
settled_with_chld true dropped s is = refl
settled_with_chld false true s is = ap (λ p. record s { pending = p }) (same_members _ _ (λ q.
    let here = ap (λ (x : SignalState). set.contains x.pending q) is in grind (arith, nat_tests, sets, here)))
settled_with_chld false false s is = ap (λ p. record s { pending = p }) (same_members _ _ (λ q.
    let here = ap (λ (x : SignalState). set.contains x.pending q) is in grind (arith, nat_tests, sets, here)))

by_chld : (spared dropped : Bool) (s : SignalState) (P : SignalState → Type 0) → P s → P (with_chld s) → P (by_tests spared dropped false false SIGCHLD s)
unfolding by_tests left with_chld
by_chld true dropped s P same more = same
by_chld false true s P same more = same
by_chld false false s P same more = more

pub settled_by_chld : (init : Bool) (s : SignalState) → generated SIGCONT init s ≡ s → generated SIGCONT init (generated SIGCHLD init s) ≡ generated SIGCHLD init s
unfolding by_tests left is_spared is_dropped with_chld
settled_by_chld init s is =
    by_chld (is_spared SIGCHLD init s) (is_dropped SIGCHLD init s) s (λ t. generated SIGCONT init t ≡ t) is
    (settled_with_chld (is_spared SIGCONT init s) (is_dropped SIGCONT init s) s is)

-- ---- what is delivered
found : (p : ℕ → Bool) (k t : ℕ) → find p (signals_to k) ≡ Some t → (1 ≤ t) × (t ≤ k) × (p t ≡ true)
unfolding signals_to
found p zero t e = cc
found p (suc k) t e =
    last (found p k t) (find p (signals_to k)) refl (p (suc k)) refl (sym (find-append p (signals_to k) (suc k ∷ [])) ∙ e)
  where
    last : (find p (signals_to k) ≡ Some t → (1 ≤ t) × (t ≤ k) × (p t ≡ true)) → (o : Option ℕ) → find p (signals_to k) ≡ o → (b : Bool) → p (suc k) ≡ b → option_or o (cond b (Some (suc k)) None) ≡ Some t → (1 ≤ t) × (t ≤ suc k) × (p t ≡ true)
    last before (Some u) f b g e = let h = before (f ∙ e) in (h.0, omega arith, h.2)
    last before None f true g e = let same : suc k ≡ t = cc in (omega arith, omega arith, ap p (sym same) ∙ g)
    last before None f false g e = cc
