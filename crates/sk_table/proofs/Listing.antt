-- A row lists what the world has.
use Rattle.std.proofs.Common.{◌≡◌, ◌∙◌, ◌==◌, ◌||◌, ◌&&◌, ℕ, arith, ap, sym, refl, Bool, true, false, cond, List, [], ◌∷◌, map, filter, Option, None, Some, T, is_some, nat_cmp, is_lt, eqb-true}
use Rattle.sk_world.specs.Common.{get}
use Rattle.sk_table.proofs.Common.{and_from, nat_tests, Proc, Processes, pids, same_number, below, below_all, is_rising, has_pair, IsRow}
use Rattle.sk_world.proofs.Rows.{Pair}
use Rattle.sk_world.proofs.Same.{same_rows, rising-filter, has_pair-filter}
use Rattle.sk_table.proofs.Indexing.{numbered}
use Rattle.std.specs.FinMap.Entries as es

nothing_of : (v : Bool) → false ≡ (v && false)
nothing_of true = refl
nothing_of false = refl

-- ---- the pids that pass a test, each beside a number

module _ (a : ℕ) (t : ℕ → Bool) where
  abbrev listed : List (ℕ × Proc) → List Pair
  listed entries = map (λ k. (a, k)) (filter t (map (λ e. e.0) entries))

  abbrev one_listed : ℕ × Proc → List (ℕ × Proc) → Bool → List Pair
  one_listed e entries v = map (λ k. (a, k)) (cond v (e.0 ∷ filter t (map (λ e. e.0) entries)) (filter t (map (λ e. e.0) entries)))

  first_below : (x k : ℕ) (m : Bool) → T (is_lt (nat_cmp x k) && m) → (below (a, x) (a, k) ≡ true) × T m
  first_below x k m h = (low x k m h, rest (is_lt (nat_cmp x k)) m h)
    where
      rest : (b m : Bool) → T (b && m) → T m
      rest true m h = h
      rest false m h = absurd h

      truth : (b m : Bool) → T (b && m) → b ≡ true
      truth true m h = refl
      truth false m h = absurd h

      low : (x k : ℕ) (m : Bool) → T (is_lt (nat_cmp x k) && m) → below (a, x) (a, k) ≡ true
      low x k m h = let e : is_lt (nat_cmp x k) ≡ true = truth (is_lt (nat_cmp x k)) m h in grind (arith, nat_tests, e)

  below_listed : (x : ℕ) (entries : List (ℕ × Proc)) → T (es.below_all nat_cmp x entries) → below_all (a, x) (listed entries) ≡ true
  below_listed x [] h = refl
  below_listed x (e ∷ entries) h =
      let parts = first_below x e.0 (es.below_all nat_cmp x entries) h in
      elim (t e.0) as (λ v. below_all (a, x) (one_listed e entries v) ≡ true) [
        | true ↦ and_from (below (a, x) (a, e.0)) (below_all (a, x) (listed entries)) parts.0 (below_listed x entries parts.1)
        | false ↦ below_listed x entries parts.1
      ]

  rising_listed : (entries : List (ℕ × Proc)) → T (es.is_sorted nat_cmp entries) → is_rising (listed entries) ≡ true
  rising_listed [] h = refl
  rising_listed (e ∷ entries) h =
      let parts = both_of (es.below_all nat_cmp e.0 entries) (es.is_sorted nat_cmp entries) h in
      elim (t e.0) as (λ v. is_rising (one_listed e entries v) ≡ true) [
        | true ↦ and_from (below_all (a, e.0) (listed entries)) (is_rising (listed entries)) (below_listed e.0 entries parts.0) (rising_listed entries parts.1)
        | false ↦ rising_listed entries parts.1
      ]
    where
      both_of : (b m : Bool) → T (b && m) → T b × T m
      both_of true m h = (tt, h)
      both_of false m h = absurd h

  here_listed : (k c d : ℕ) (m : Bool) → (d == k) ≡ true → (((a == c) && (k == d)) || ((c == a) && m)) ≡ (c == a)
  here_listed k c d m e = grind (arith, nat_tests, e)

  other_listed : (k c d : ℕ) (m : Bool) → (d == k) ≡ false → (((a == c) && (k == d)) || m) ≡ m
  other_listed k c d m e = grind (arith, nat_tests, e)

  with_true : (b v : Bool) → v ≡ true → b ≡ (b && (v && true))
  with_true true true e = refl
  with_true true false e = sym e
  with_true false v e = refl

  with_false : (b v m : Bool) → v ≡ false → (b && (v && m)) ≡ false
  with_false true true m e = cc
  with_false true false m e = refl
  with_false false v m e = refl

  has_pair-listed : (entries : List (ℕ × Proc)) (c d : ℕ) → has_pair (listed entries) c d ≡ ((c == a) && (t d && is_some (es.find nat_cmp d entries)))
  has_pair-listed [] c d = nothing_of (c == a) ∙ ap (λ m. (c == a) && m) (nothing_of (t d))
  has_pair-listed (e ∷ entries) c d =
      split (has_pair-listed entries c d) (t e.0) refl (d == e.0) refl
      ∙ ap (λ b. (c == a) && (t d && is_some (cond b (Some e.1) (es.find nat_cmp d entries)))) (sym (same_number d e.0))
    where
      split : has_pair (listed entries) c d ≡ ((c == a) && (t d && is_some (es.find nat_cmp d entries))) → (v : Bool) → t e.0 ≡ v → (b : Bool) → (d == e.0) ≡ b → has_pair (one_listed e entries v) c d ≡ ((c == a) && (t d && is_some (cond b (Some e.1) (es.find nat_cmp d entries))))
      split later true passes true same =
          ap (λ m. ((a == c) && (e.0 == d)) || m) (later)
          ∙ here_listed e.0 c d _ same
          ∙ with_true (c == a) (t d) (ap t (eqb-true d e.0 same) ∙ passes)
      split later true passes false other = other_listed e.0 c d _ other ∙ later
      split later false fails true same =
          later
          ∙ with_false (c == a) (t d) _ (ap t (eqb-true d e.0 same) ∙ fails)
          ∙ sym (with_false (c == a) (t d) true (ap t (eqb-true d e.0 same) ∙ fails))
      split later false fails false other = later

-- ---- the row and the processes

numbered_some : (number : Proc → ℕ) (a : ℕ) (o : Option Proc) → numbered number a o ≡ (numbered number a o && is_some o)
numbered_some number a None = refl
numbered_some number a (Some p) = elim (number p == a) as (λ v. v ≡ (v && true)) [ true ↦ refl | false ↦ refl ]

on_same : (number : Proc → ℕ) (a c : ℕ) (o : Option Proc) → ((c == a) && numbered number c o) ≡ ((c == a) && numbered number a o)
on_same number a c o =
    elim (c == a) as (λ v. (c == a) ≡ v → (v && numbered number c o) ≡ (v && numbered number a o)) [
      | true ↦ λ e. ap (λ n. numbered number n o) (eqb-true c a e)
      | false ↦ λ _. refl
    ] refl

pub row_lists : (number : Proc → ℕ) (m : Processes) (row : List Pair) (a : ℕ) → is_rising row ≡ true → IsRow number m row
    → filter (λ y. y.0 == a) row ≡ map (λ k. (a, k)) (filter (λ k. numbered number a (get m k)) (pids m))
row_lists number m row a rises is =
    same_rows _ _ (rising-filter (λ y. y.0 == a) row rises) (rising_listed a (λ k. numbered number a (get m k)) m.entries m.rising)
    (λ c d. has_pair-filter a row c d
    ∙ ap (λ v. (c == a) && v) (is.pairs c d)
    ∙ on_same number a c (get m d)
    ∙ ap (λ v. (c == a) && v) (numbered_some number a (get m d))
    ∙ sym (has_pair-listed a (λ k. numbered number a (get m k)) m.entries c d))
