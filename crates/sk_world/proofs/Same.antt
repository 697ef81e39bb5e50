-- Rising rows with the same pairs are the same, and what a row has of one first number.
use Rattle.std.proofs.Common.{◌≡◌, ◌∙◌, ◌==◌, ◌||◌, ◌&&◌, ℕ, arith, ap, sym, subst, refl, Bool, true, false, cond, List, [], ◌∷◌, filter}
use Rattle.sk_world.proofs.Common.{and_parts, and_from, eqb-true, nat_tests}
use Rattle.sk_world.specs.Common.{below, below_all, is_rising, has_pair}
use Rattle.sk_world.proofs.Rows.{Pair, below_member, absent_later}

-- ---- rising rows with the same pairs are the same

same_pair : (x y : Pair) → ((y.0 == x.0) && (y.1 == x.1)) ≡ true → x ≡ y
same_pair x y e =
    let parts = and_parts (y.0 == x.0) (y.1 == x.1) e in
    λ i. (sym (eqb-true y.0 x.0 parts.0) i, sym (eqb-true y.1 x.1 parts.1) i)

not_both : (x y : Pair) → below x y ≡ true → below y x ≡ true → true ≡ false
not_both x y h k = grind (arith, nat_tests, h, k)

first_same : (x y : Pair) (xs ys : List Pair) → below_all x xs ≡ true → below_all y ys ≡ true → has_pair (y ∷ ys) x.0 x.1 ≡ true → has_pair (x ∷ xs) y.0 y.1 ≡ true → x ≡ y
first_same x y xs ys up up' there there' =
    elim ((y.0 == x.0) && (y.1 == x.1)) as (λ v. ((y.0 == x.0) && (y.1 == x.1)) ≡ v → (v || has_pair ys x.0 x.1) ≡ true → x ≡ y) [
      | true ↦ λ e _. same_pair x y e
      | false ↦ λ _ later.
          elim ((x.0 == y.0) && (x.1 == y.1)) as (λ v. ((x.0 == y.0) && (x.1 == y.1)) ≡ v → (v || has_pair xs y.0 y.1) ≡ true → x ≡ y) [
            | true ↦ λ e _. sym (same_pair y x e)
            | false ↦ λ _ later'. let no : true ≡ false = not_both x y (below_member x xs y.0 y.1 up later') (below_member y ys x.0 x.1 up' later) in cc
          ] refl there'
    ] refl there

own_pair : (x : Pair) (m : Bool) → (((x.0 == x.0) && (x.1 == x.1)) || m) ≡ true
own_pair x m = grind (arith, nat_tests)

itself : (x : Pair) → ((x.0 == x.0) && (x.1 == x.1)) ≡ true
itself x = grind (arith, nat_tests)

same_rest : (x : Pair) (xs ys : List Pair) → below_all x xs ≡ true → below_all x ys ≡ true → ((a b : ℕ) → has_pair (x ∷ xs) a b ≡ has_pair (x ∷ ys) a b) → (a b : ℕ) → has_pair xs a b ≡ has_pair ys a b
same_rest x xs ys up up' same a b =
    elim ((x.0 == a) && (x.1 == b)) as (λ v. ((x.0 == a) && (x.1 == b)) ≡ v → (v || has_pair xs a b) ≡ (v || has_pair ys a b) → has_pair xs a b ≡ has_pair ys a b) [
      | true ↦ λ e _. absent_later x x xs a b (itself x) up e ∙ sym (absent_later x x ys a b (itself x) up' e)
      | false ↦ λ _ e. e
    ] refl (same a b)

pub same_rows : (xs ys : List Pair) → is_rising xs ≡ true → is_rising ys ≡ true → ((a b : ℕ) → has_pair xs a b ≡ has_pair ys a b) → xs ≡ ys
same_rows [] [] h k same = refl
same_rows [] (y ∷ ys) h k same = let no : false ≡ true = same y.0 y.1 ∙ own_pair y (has_pair ys y.0 y.1) in cc
same_rows (x ∷ xs) [] h k same = let no : true ≡ false = sym (own_pair x (has_pair xs x.0 x.1)) ∙ same x.0 x.1 in cc
same_rows (x ∷ xs) (y ∷ ys) h k same =
    let up = and_parts (below_all x xs) (is_rising xs) h in
    let up' = and_parts (below_all y ys) (is_rising ys) k in
    let e : x ≡ y = first_same x y xs ys up.0 up'.0 (sym (same x.0 x.1) ∙ own_pair x (has_pair xs x.0 x.1)) (same y.0 y.1 ∙ own_pair y (has_pair ys y.0 y.1)) in
    let rest = same_rest x xs ys up.0 (subst (λ z. below_all z ys ≡ true) (sym e) up'.0) (λ a b. same a b ∙ ap (λ (z : Pair). has_pair (z ∷ ys) a b) (sym e)) in
    (λ i. e i ∷ same_rows xs ys up.1 up'.1 rest i)

-- ---- the pairs of a row that pass a test

below_all-filter : (p : Pair → Bool) (x : Pair) (xs : List Pair) → below_all x xs ≡ true → below_all x (filter p xs) ≡ true
below_all-filter p x [] h = refl
below_all-filter p x (y ∷ ys) h =
    let parts = and_parts (below x y) (below_all x ys) h in
    elim (p y) as (λ v. below_all x (cond v (y ∷ filter p ys) (filter p ys)) ≡ true) [
      | true ↦ and_from (below x y) (below_all x (filter p ys)) parts.0 (below_all-filter p x ys parts.1)
      | false ↦ below_all-filter p x ys parts.1
    ]

pub rising-filter : (p : Pair → Bool) (xs : List Pair) → is_rising xs ≡ true → is_rising (filter p xs) ≡ true
rising-filter p [] h = refl
rising-filter p (x ∷ xs) h =
    let parts = and_parts (below_all x xs) (is_rising xs) h in
    elim (p x) as (λ v. is_rising (cond v (x ∷ filter p xs) (filter p xs)) ≡ true) [
      | true ↦ and_from (below_all x (filter p xs)) (is_rising (filter p xs)) (below_all-filter p x xs parts.0) (rising-filter p xs parts.1)
      | false ↦ rising-filter p xs parts.1
    ]

nothing_of : (v : Bool) → false ≡ (v && false)
nothing_of true = refl
nothing_of false = refl

passing : (x : Pair) (a c d : ℕ) (m : Bool) → (x.0 == a) ≡ true → (((x.0 == c) && (x.1 == d)) || ((c == a) && m)) ≡ ((c == a) && (((x.0 == c) && (x.1 == d)) || m))
passing x a c d m e = grind (arith, nat_tests, e)

failing : (x : Pair) (a c d : ℕ) (m : Bool) → (x.0 == a) ≡ false → ((c == a) && m) ≡ ((c == a) && (((x.0 == c) && (x.1 == d)) || m))
failing x a c d m e = grind (arith, nat_tests, e)

pub has_pair-filter : (a : ℕ) (xs : List Pair) (c d : ℕ) → has_pair (filter (λ y. y.0 == a) xs) c d ≡ ((c == a) && has_pair xs c d)
has_pair-filter a [] c d = nothing_of (c == a)
has_pair-filter a (x ∷ xs) c d =
    elim (x.0 == a) as (λ v. (x.0 == a) ≡ v → has_pair (cond v (x ∷ filter (λ y. y.0 == a) xs) (filter (λ y. y.0 == a) xs)) c d ≡ ((c == a) && (((x.0 == c) && (x.1 == d)) || has_pair xs c d))) [
      | true ↦ λ e. ap (λ m. ((x.0 == c) && (x.1 == d)) || m) (has_pair-filter a xs c d) ∙ passing x a c d (has_pair xs c d) e
      | false ↦ λ e. has_pair-filter a xs c d ∙ failing x a c d (has_pair xs c d) e
    ] refl
