-- The laws of sets of signals, by membership.
use Rattle.std.proofs.Common.{◌≡◌, ◌∙◌, ◌≤◌, ◌<◌, ◌==◌, ◌||◌, ◌&&◌, ℕ, zero, suc, arith, ap, refl, Bool, true, false, cond, not, [], ◌∷◌, inl, inr, Some, None}
use Rattle.std.specs.List.{find}
use Rattle.sk_world.specs.Common.{option_or, same_set, contains-empty, contains-insert, contains-remove, contains-union, contains-difference, Signals, IsSignal, IsLeast, signals_to, lowest}
use Rattle.sk_world.proofs.Common.{find-append, nat_tests, leb_tells}
use Rattle.sk_world.specs.Sets as set

-- ---- membership
pub none_in_empty : (q : ℕ) → set.contains set.empty q ≡ false
none_in_empty q = contains-empty q

pub in_insert : (s : Signals) (n q : ℕ) → set.contains (set.insert s n) q ≡ ((q == n) || set.contains s q)
in_insert s n q = contains-insert s n q

pub in_remove : (s : Signals) (n q : ℕ) → set.contains (set.remove s n) q ≡ (not (q == n) && set.contains s q)
in_remove s n q = contains-remove s n q

pub in_union : (s t : Signals) (q : ℕ) → set.contains (set.union s t) q ≡ (set.contains s q || set.contains t q)
in_union s t q = contains-union s t q

pub in_difference : (s t : Signals) (q : ℕ) → set.contains (set.difference s t) q ≡ (set.contains s q && not (set.contains t q))
in_difference s t q = contains-difference s t q

-- what the membership tests of the operations compute, for `grind`
pub ruleset sets = (none_in_empty, in_insert, in_remove, in_union, in_difference)

-- sets with the same members are equal
pub same_members : (s t : Signals) → ((q : ℕ) → set.contains s q ≡ set.contains t q) → s ≡ t
same_members s t each = same_set s t each

-- ---- one member
pub insert_twice : (s : Signals) (n : ℕ) → set.insert (set.insert s n) n ≡ set.insert s n
insert_twice s n = same_members _ _ (λ q. grind (arith, nat_tests, sets))

pub remove_twice : (s : Signals) (n : ℕ) → set.remove (set.remove s n) n ≡ set.remove s n
remove_twice s n = same_members _ _ (λ q. grind (arith, nat_tests, sets))

-- ---- two sets

pub union-one : (s : Signals) (n : ℕ) → set.union s (set.insert set.empty n) ≡ set.insert s n
union-one s n = same_members _ _ (λ q. grind (arith, nat_tests, sets))

pub difference-one : (s : Signals) (n : ℕ) → set.difference s (set.insert set.empty n) ≡ set.remove s n
difference-one s n = same_members _ _ (λ q. grind (arith, nat_tests, sets))

-- ---- the lowest member
none_found : (p : ℕ → Bool) (k : ℕ) → ((q : ℕ) → 1 ≤ q → q ≤ k → p q ≡ false) → find p (signals_to k) ≡ None
unfolding signals_to
none_found p zero none = refl
none_found p (suc k) none =
    find-append p (signals_to k) (suc k ∷ [])
    ∙ ap (λ o. option_or o (find p (suc k ∷ []))) (none_found p k (λ q l u. none q l (omega arith)))
    ∙ ap (λ b. cond b (Some (suc k)) None) (none (suc k) (omega arith) (omega arith))

first_found : (p : ℕ → Bool) (k t : ℕ) → 1 ≤ t → t ≤ k → p t ≡ true → ((q : ℕ) → 1 ≤ q → q < t → p q ≡ false) → find p (signals_to k) ≡ Some t
unfolding signals_to
first_found p zero t l u here before = absurd (omega arith)
first_found p (suc k) t l u here before =
    find-append p (signals_to k) (suc k ∷ [])
    ∙ elim (leb_tells t k) [
      | inl h ↦ ap (λ o. option_or o (find p (suc k ∷ []))) (first_found p k t l h.1 here before)
      | inr h ↦ let last : suc k ≡ t = omega (arith, h.1) in
          ap (λ o. option_or o (find p (suc k ∷ []))) (none_found p k (λ q l u. before q l (omega arith)))
          ∙ ap (λ n. cond (p n) (Some n) None) last
          ∙ ap (λ b. cond b (Some t) None) here
    ]

pub lowest_is : (s : Signals) (t : ℕ) → IsLeast s t → lowest s ≡ Some t
unfolding lowest
lowest_is s t is =
    first_found (λ n. set.contains s n) 31 t is.signal.0 is.signal.1 is.member
    (λ q l below. not_true _ (λ here. absurd (omega (arith, is.least q here))))
  where
    not_true : (b : Bool) → (b ≡ true → ⊥) → b ≡ false
    not_true true never = absurd (never refl)
    not_true false never = refl

pub lowest_none : (s : Signals) → ((q : ℕ) → IsSignal q → set.contains s q ≡ false) → lowest s ≡ None
unfolding lowest
lowest_none s none = none_found (λ n. set.contains s n) 31 (λ q l u. none q (l, u))
