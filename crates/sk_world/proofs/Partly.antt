-- Children that are handed on one by one.
use Rattle.std.proofs.Common.{◌≡◌, ◌≢◌, ◌∙◌, ◌<◌, ◌≤◌, ◌==◌, ⊎_elim, ◌||◌, List, [], ◌∷◌, ℕ, arith, ap, sym, refl, subst, Bool, true, false, cond, not, ◌&&◌, IsTrue, Option, None, Some}
use Rattle.std.specs.Prelude.{nat_lt}
use Rattle.sk_world.specs.Common.{is_some, option_and_then, list_any, Proc, pids, World, at, stored, has_ended, is_zombie, is_child_of, IsNext, IsWorld, new_parent, handed_on, ignores_children, has_zombie_child, with_children_handed_on}
use Rattle.sk_world.proofs.Common.{false≢true, false_from_ne_true, cases_lt, lt-ltb, ltb-true, eqb-true, eqb-false}
use Rattle.sk_world.proofs.Maps.{same_map, get_store}
use Rattle.sk_world.proofs.Ancestors.{zero_is_nobody}
use Rattle.sk_world.proofs.KeptEnd.{handed_at}
use Rattle.sk_world.proofs.Telling.{none_passes}

-- what a pid leads to once the children are handed on
pub handed : World → ℕ → ℕ → Bool → ℕ → Option Proc
handed w pid parent removes q = option_and_then (handed_on pid parent removes) (at w q)

-- the children up to a pid are handed on, and all else is as it was
pub record IsPartly (w v : World) (pid parent : ℕ) (removes : Bool) (after : ℕ) : Type 0 where
  pub processes : (q : ℕ) → at v q ≡ cond (nat_lt after q) (at w q) (handed w pid parent removes q)
  pub last : v.last ≡ w.last

-- who is no child stays
no_child : (pid parent : ℕ) (removes : Bool) (o : Option Proc) → is_child_of pid o ≡ false → option_and_then (handed_on pid parent removes) o ≡ o
no_child pid parent removes None h = refl
no_child pid parent removes (Some p) h = ap (λ b. cond (not b) (Some p) (cond (removes && has_ended p.body.life) None (Some (record p { links = record p.links { parent = parent } })))) h

-- a process above those that are handed on is as it was
pub not_yet : (w v : World) (pid parent : ℕ) (removes : Bool) (after q : ℕ) → IsPartly w v pid parent removes after → after < q → at v q ≡ at w q
not_yet w v pid parent removes after q partly lt = partly.processes q ∙ ap (λ b. cond b (at w q) (handed w pid parent removes q)) (lt-ltb after q lt)

-- process 0 is nobody's child, as there is none
zero_at : (w : World) (pid : ℕ) → IsWorld w → is_child_of pid (at w 0) ≡ false
zero_at w pid rules = ap (is_child_of pid) (zero_is_nobody w rules)

-- up to 0 nobody is handed on
pub begins : (w : World) (pid parent : ℕ) (removes : Bool) → IsWorld w → IsPartly w w pid parent removes 0
unfolding handed
begins w pid parent removes rules = record { processes = at_start; last = refl }
  where
    zero_is : (q : ℕ) → nat_lt 0 q ≡ false → 0 ≡ q
    zero_is q is = ⊎_elim (λ lt. absurd (false≢true (sym is ∙ lt-ltb 0 q lt))) (λ ge. omega arith) (cases_lt 0 q)

    zero_here : at w 0 ≡ handed w pid parent removes 0
    zero_here = sym (no_child pid parent removes (at w 0) (zero_at w pid rules))

    at_start : (q : ℕ) → at w q ≡ cond (nat_lt 0 q) (at w q) (handed w pid parent removes q)
    at_start q = elim (nat_lt 0 q) as (λ b. nat_lt 0 q ≡ b → at w q ≡ cond b (at w q) (handed w pid parent removes q)) [
      | true ↦ λ _. refl
      | false ↦ λ is. subst (λ k. at w k ≡ handed w pid parent removes k) (zero_is q is) zero_here
    ] refl

-- the next child is handed on
pub goes_on : (w v now : World) (pid parent : ℕ) (removes : Bool) (after child : ℕ) → IsPartly w v pid parent removes after → IsNext (λ q. is_child_of pid (at v q)) after (Some child)
    → now ≡ stored v child (option_and_then (handed_on pid parent removes) (at v child)) → IsPartly w now pid parent removes child
unfolding handed
goes_on w v now pid parent removes after child partly next is = record { processes = each; last = ap (λ x. x.last) is ∙ partly.last }
  where
    strictly : (a b : ℕ) → a ≢ b → a ≤ b → a < b
    strictly a b ne le = ⊎_elim (λ lt. lt) (λ ge. absurd (ne (omega arith))) (cases_lt a b)

    given_is : handed v pid parent removes child ≡ handed w pid parent removes child
    given_is = ap (option_and_then (handed_on pid parent removes)) (not_yet w v pid parent removes after child partly next.0)

    below : (q : ℕ) → q ≢ child → (q < child) → at v q ≡ handed w pid parent removes q
    below q ne lt = ⊎_elim
        (λ above. not_yet w v pid parent removes after q partly above ∙ sym (no_child pid parent removes (at w q) (ap (is_child_of pid) (sym (not_yet w v pid parent removes after q partly above)) ∙ next.2 q above lt)))
        (λ le. partly.processes q ∙ ap (λ b. cond b (at w q) (handed w pid parent removes q)) (false_from_ne_true (nat_lt after q) (λ h. let h = ltb-true after q h in absurd (omega arith))))
        (cases_lt after q)

    other : (q : ℕ) → q ≢ child → at v q ≡ cond (nat_lt child q) (at w q) (handed w pid parent removes q)
    other q ne = ⊎_elim
        (λ above. let far : after < q = (let n = next.0 in omega arith) in not_yet w v pid parent removes after q partly far ∙ ap (λ b. cond b (at w q) (handed w pid parent removes q)) (sym (lt-ltb child q above)))
        (λ le. below q ne (strictly q child ne le) ∙ ap (λ b. cond b (at w q) (handed w pid parent removes q)) (sym (false_from_ne_true (nat_lt child q) (λ h. let h = ltb-true child q h in absurd (omega arith)))))
        (cases_lt child q)

    each : (q : ℕ) → at now q ≡ cond (nat_lt child q) (at w q) (handed w pid parent removes q)
    each q = ap (λ x. at x q) is ∙ get_store v.procs child (handed v pid parent removes child) q ∙ elim (q == child) as (λ b. (q == child) ≡ b → cond b (handed v pid parent removes child) (at v q) ≡ cond (nat_lt child q) (at w q) (handed w pid parent removes q)) [
      | true ↦ λ e. given_is ∙ subst (λ k. handed w pid parent removes child ≡ cond (nat_lt child k) (at w k) (handed w pid parent removes k)) (sym (eqb-true q child e))
          (ap (λ b. cond b (at w child) (handed w pid parent removes child)) (sym (false_from_ne_true (nat_lt child child) (λ h. let h = ltb-true child child h in absurd (omega arith)))))
      | false ↦ λ e. other q (eqb-false q child e)
    ] refl

-- where there is no next child, all are handed on
pub is_done : (w v : World) (pid parent : ℕ) (removes : Bool) (after : ℕ) → parent ≡ new_parent w pid → removes ≡ ignores_children (at w parent) → IsPartly w v pid parent removes after
    → IsNext (λ q. is_child_of pid (at v q)) after None → v ≡ with_children_handed_on w pid
unfolding handed
is_done w v pid parent removes after new known partly next =
    λ i. record { procs = same i; last = partly.last i }
  where
    all : (q : ℕ) → at v q ≡ handed w pid parent removes q
    all q = ⊎_elim
        (λ above. not_yet w v pid parent removes after q partly above ∙ sym (no_child pid parent removes (at w q) (ap (is_child_of pid) (sym (not_yet w v pid parent removes after q partly above)) ∙ next q above)))
        (λ le. partly.processes q ∙ ap (λ b. cond b (at w q) (handed w pid parent removes q)) (false_from_ne_true (nat_lt after q) (λ h. let h = ltb-true after q h in absurd (omega arith))))
        (cases_lt after q)

    same : v.procs ≡ (with_children_handed_on w pid).procs
    same = same_map _ _ (λ q.
        all q
        ∙ ap (λ b. option_and_then (handed_on pid parent b) (at w q)) known
        ∙ ap (λ k. option_and_then (handed_on pid k (ignores_children (at w k))) (at w q)) new
        ∙ sym (handed_at w pid q))

-- what the walk has found out of the children up to a pid: whether a zombie is among them
pub record IsKnown (w : World) (pid : ℕ) (has : Bool) (after : ℕ) : Type 0 where
  pub found : has ≡ true → (q : ℕ) × IsTrue (is_child_of pid (at w q) && is_zombie (at w q))
  pub none : has ≡ false → (q : ℕ) → q ≤ after → (is_child_of pid (at w q) && is_zombie (at w q)) ≡ false

-- up to 0 there is none
pub none_known : (w : World) (pid : ℕ) → IsWorld w → IsKnown w pid false 0
none_known w pid rules = record {
  found = λ h. absurd (false≢true h);
  none = λ _ q le. ap (λ b. b && is_zombie (at w q)) (subst (λ k. is_child_of pid (at w k) ≡ false) (zero q le) (zero_at w pid rules));
}
  where
    zero : (q : ℕ) → q ≤ 0 → 0 ≡ q
    zero q le = omega arith

-- the next child is a zombie
pub one_known : (w v : World) (pid parent : ℕ) (removes has b : Bool) (after child : ℕ) → IsPartly w v pid parent removes after → IsNext (λ q. is_child_of pid (at v q)) after (Some child)
    → b ≡ is_zombie (at v child) → b ≡ true → IsKnown w pid true child
one_known w v pid parent removes has b after child partly next is does =
    let same = not_yet w v pid parent removes after child partly next.0 in
    record {
      found = λ _. (child, subst (λ o. IsTrue (is_child_of pid o && is_zombie o)) same (λ i. next.1 i && (sym is ∙ does) i));
      none = λ h. absurd (false≢true (sym h));
    }

-- the next child is none
pub no_more_known : (w v : World) (pid parent : ℕ) (removes has b : Bool) (after child : ℕ) → IsPartly w v pid parent removes after → IsNext (λ q. is_child_of pid (at v q)) after (Some child)
    → b ≡ is_zombie (at v child) → b ≡ false → IsKnown w pid has after → IsKnown w pid has child
no_more_known w v pid parent removes has b after child partly next is no_zombie known = record { found = known.found; none = none }
  where
    and_false : (a : Bool) → (a && false) ≡ false
    and_false true = refl
    and_false false = refl

    here : (q : ℕ) → q ≡ child → (is_child_of pid (at w q) && is_zombie (at w q)) ≡ false
    here q same = subst (λ k. (is_child_of pid (at w k) && is_zombie (at w k)) ≡ false) (sym same)
        (ap (λ b. is_child_of pid (at w child) && b) (ap is_zombie (sym (not_yet w v pid parent removes after child partly next.0)) ∙ sym is ∙ no_zombie) ∙ and_false (is_child_of pid (at w child)))

    between : (q : ℕ) → after < q → q < child → (is_child_of pid (at w q) && is_zombie (at w q)) ≡ false
    between q above below = ap (λ b. b && is_zombie (at w q)) (ap (is_child_of pid) (sym (not_yet w v pid parent removes after q partly above)) ∙ next.2 q above below)

    none : has ≡ false → (q : ℕ) → q ≤ child → (is_child_of pid (at w q) && is_zombie (at w q)) ≡ false
    none h q le = ⊎_elim (λ above. ⊎_elim (λ below. between q above below) (λ ge. here q (omega arith)) (cases_lt q child)) (λ ge. known.none h q ge) (cases_lt after q)

-- some process passes the test, if it stands at a pid
some_by : (w : World) (t : ℕ → Bool) (q : ℕ) → IsTrue (is_some (at w q)) → t q ≡ true → list_any t (pids w.procs) ≡ true
some_by w t q there passes =
    elim (list_any t (pids w.procs)) as (λ b. list_any t (pids w.procs) ≡ b → b ≡ true) [
      | true ↦ λ _. refl
      | false ↦ λ none. absurd (false≢true (sym (none_passes t w.procs.entries none q there) ∙ passes))
    ] refl

-- no process passes a test that none passes
none_of : (t : ℕ → Bool) (xs : List ℕ) → ((q : ℕ) → t q ≡ false) → list_any t xs ≡ false
none_of t [] none = refl
none_of t (x ∷ xs) none = (λ i. none x i || none_of t xs none i)

-- a child that is a zombie is there
child_there : (pid : ℕ) (o : Option Proc) → IsTrue (is_child_of pid o && is_zombie o) → IsTrue (is_some o)
child_there pid None h = absurd (false≢true h)
child_there pid (Some p) h = refl

-- where there is no next child, it is known of all
pub known_is : (w v : World) (pid parent : ℕ) (removes has : Bool) (after : ℕ) → IsPartly w v pid parent removes after → IsNext (λ q. is_child_of pid (at v q)) after None → IsKnown w pid has after → has ≡ has_zombie_child w pid
known_is w v pid parent removes has after partly next known = elim has as (λ b. has ≡ b → b ≡ has_zombie_child w pid) [
  | true ↦ λ h. let one = known.found h in sym (some_by w (λ k. is_child_of pid (at w k) && is_zombie (at w k)) one.0 (child_there pid (at w one.0) one.1) one.1)
  | false ↦ λ h. sym (none_of (λ k. is_child_of pid (at w k) && is_zombie (at w k)) (pids w.procs) (λ q. ⊎_elim
      (λ above. ap (λ b. b && is_zombie (at w q)) (ap (is_child_of pid) (sym (not_yet w v pid parent removes after q partly above)) ∙ next q above))
      (λ ge. known.none h q ge) (cases_lt after q)))
] refl
