-- Rising rows of pairs: where a pair stands, and what a row has after one was put in or taken out.
use Rattle.std.proofs.Common.{◌≡◌, ◌≢◌, ◌∙◌, ◌+◌, ◌-◌, ◌<◌, ◌≤◌, ◌==◌, ◌||◌, ◌&&◌, ℕ, zero, suc, arith, ap, sym, subst, refl, Bool, true, false, cond, not, List, [], ◌∷◌, length, get_or, take, drop, filter, Option, None, Some, inl, inr}
use Rattle.std.specs.Prelude.{nat_lt, nat_le}
use Rattle.sk_world.specs.Common.{slice_range, IsLeastAbove, below, below_all, is_rising, has_pair}
use Rattle.std.specs.List.{insert, remove}
use Rattle.std.specs.List.Sorted.{IsPartitionPoint, IsPartitionedBy}
use Rattle.sk_world.proofs.Common.{and_parts, and_from, cases_lt, eq-eqb, ne_eqb, nat_tests}

abbrev pub Pair : Type 0
Pair = ℕ × ℕ

-- the row's first pairs pass the test, as many as this, and no other does
pub record Parted (p : Pair → Bool) (xs : List Pair) (at : ℕ) : Type 0 where
  pub within : at ≤ length xs
  pub before : (k : ℕ) → k < at → p (get_or xs k (0, 0)) ≡ true
  pub after : (k : ℕ) → at ≤ k → k < length xs → p (get_or xs k (0, 0)) ≡ false

-- ---- the order of pairs

below_trans : (x y z : Pair) → below x y ≡ true → below y z ≡ true → below x z ≡ true
below_trans x y z h k = grind (arith, nat_tests, h, k)

below_at : (x : Pair) (xs : List Pair) (j : ℕ) (d : Pair) → below_all x xs ≡ true → j < length xs → below x (get_or xs j d) ≡ true
below_at x [] j d h l = absurd (omega arith)
below_at x (y ∷ ys) zero d h l = (and_parts (below x y) (below_all x ys) h).0
below_at x (y ∷ ys) (suc j) d h l = below_at x ys j d (and_parts (below x y) (below_all x ys) h).1 (omega arith)

below_later : (x y : Pair) (xs : List Pair) → below x y ≡ true → below_all y xs ≡ true → below_all x xs ≡ true
below_later x y [] b h = refl
below_later x y (z ∷ zs) b h =
    let parts = and_parts (below y z) (below_all y zs) h in
    and_from (below x z) (below_all x zs) (below_trans x y z b parts.0) (below_later x y zs b parts.1)

same_below : (x : Pair) (a b : ℕ) (y : Pair) → ((y.0 == a) && (y.1 == b)) ≡ true → below x y ≡ true → below x (a, b) ≡ true
same_below x a b y e h = grind (arith, nat_tests, e, h)

-- a pair of the row is above one that is below all
pub below_member : (x : Pair) (xs : List Pair) (a b : ℕ) → below_all x xs ≡ true → has_pair xs a b ≡ true → below x (a, b) ≡ true
below_member x [] a b h m = cc
below_member x (y ∷ ys) a b h m =
    let parts = and_parts (below x y) (below_all x ys) h in
    elim ((y.0 == a) && (y.1 == b)) as (λ v. ((y.0 == a) && (y.1 == b)) ≡ v → (v || has_pair ys a b) ≡ true → below x (a, b) ≡ true) [
      | true ↦ λ e _. same_below x a b y e parts.0
      | false ↦ λ e later. below_member x ys a b parts.1 later
    ] refl m

-- a test that passes what is below what passes
abbrev pub Falls : (Pair → Bool) → Type 0
Falls p = (x y : Pair) → below x y ≡ true → p y ≡ true → p x ≡ true

pub rising_parted : (p : Pair → Bool) → Falls p → (xs : List Pair) → is_rising xs ≡ true → IsPartitionedBy p xs
rising_parted p falls [] h i j d le l e = absurd (omega arith)
rising_parted p falls (x ∷ xs) h zero zero d le l e = e
rising_parted p falls (x ∷ xs) h zero (suc j) d le l e =
    falls x (get_or xs j d) (below_at x xs j d (and_parts (below_all x xs) (is_rising xs) h).0 (omega arith)) e
rising_parted p falls (x ∷ xs) h (suc i) zero d le l e = absurd (omega arith)
rising_parted p falls (x ∷ xs) h (suc i) (suc j) d le l e =
    rising_parted p falls xs (and_parts (below_all x xs) (is_rising xs) h).1 i j d (omega arith) (omega arith) e

pub parted_from : (p : Pair → Bool) (xs : List Pair) (at : ℕ) → at ≤ length xs → IsPartitionPoint (λ y. p y ≡ true) (λ y. p y ≡ false) xs at → Parted p xs at
parted_from p xs at within point = record {
  within = within;
  before = λ k l. point.0 k (0, 0) (omega arith) l;
  after = λ k l m. point.1 k (0, 0) l m;
}

tail_parted : (p : Pair → Bool) (x : Pair) (xs : List Pair) (at : ℕ) → Parted p (x ∷ xs) (suc at) → Parted p xs at
tail_parted p x xs at h = record {
  within = omega (arith, h.within);
  before = λ k l. h.before (suc k) (omega arith);
  after = λ k l m. h.after (suc k) (omega arith) (omega arith);
}

none_before : (p : Pair → Bool) (x : Pair) (xs : List Pair) → Parted p (x ∷ xs) 0 → Parted p xs 0
none_before p x xs h = record {
  within = omega arith;
  before = λ k l. absurd (omega arith);
  after = λ k l m. h.after (suc k) (omega arith) (omega arith);
}

pub falls_below : (x : Pair) → Falls (λ y. below y x)
falls_below x y z h k = below_trans y z x h k

pub falls_lt : (a : ℕ) → Falls (λ y. nat_lt y.0 a)
falls_lt a x y h k = grind (arith, nat_tests, h, k)

pub falls_le : (a : ℕ) → Falls (λ y. nat_le y.0 a)
falls_le a x y h k = grind (arith, nat_tests, h, k)

pub falls_upto : (a b : ℕ) → Falls (λ y. nat_lt y.0 a || ((y.0 == a) && nat_le y.1 b))
falls_upto a b x y h k = grind (arith, nat_tests, h, k)

-- ---- a pair is put in

or_later : (a b c : Bool) → (a || (b || c)) ≡ (b || (a || c))
or_later true true c = refl
or_later true false c = refl
or_later false true c = refl
or_later false false c = refl

pub has_pair-insert : (xs : List Pair) (at : ℕ) (x : Pair) (a b : ℕ) → has_pair (insert xs at x) a b ≡ (((x.0 == a) && (x.1 == b)) || has_pair xs a b)
has_pair-insert [] zero x a b = refl
has_pair-insert [] (suc at) x a b = refl
has_pair-insert (y ∷ ys) zero x a b = refl
has_pair-insert (y ∷ ys) (suc at) x a b =
    ap (λ v. ((y.0 == a) && (y.1 == b)) || v) (has_pair-insert ys at x a b)
    ∙ or_later ((y.0 == a) && (y.1 == b)) ((x.0 == a) && (x.1 == b)) (has_pair ys a b)

below_all-insert : (z : Pair) (xs : List Pair) (at : ℕ) (x : Pair) → below_all z xs ≡ true → below z x ≡ true → below_all z (insert xs at x) ≡ true
below_all-insert z [] zero x h b = and_from (below z x) true b refl
below_all-insert z [] (suc at) x h b = and_from (below z x) true b refl
below_all-insert z (y ∷ ys) zero x h b = and_from (below z x) (below_all z (y ∷ ys)) b h
below_all-insert z (y ∷ ys) (suc at) x h b =
    let parts = and_parts (below z y) (below_all z ys) h in
    and_from (below z y) (below_all z (insert ys at x)) parts.0 (below_all-insert z ys at x parts.1 b)

other_pair : (x y : Pair) (m : Bool) → (((y.0 == x.0) && (y.1 == x.1)) || m) ≡ false → (((y.0 == x.0) && (y.1 == x.1)) ≡ false) × (m ≡ false)
other_pair x y m h = (grind (arith, h), grind (arith, h))

above_other : (x y : Pair) → ((y.0 == x.0) && (y.1 == x.1)) ≡ false → below y x ≡ false → below x y ≡ true
above_other x y d h = grind (arith, nat_tests, d, h)

pub rising-insert : (xs : List Pair) (at : ℕ) (x : Pair) → Parted (λ y. below y x) xs at → has_pair xs x.0 x.1 ≡ false → is_rising xs ≡ true → is_rising (insert xs at x) ≡ true
rising-insert [] zero x parted free h = refl
rising-insert [] (suc at) x parted free h = refl
rising-insert (y ∷ ys) zero x parted free h =
    let parts = and_parts (below_all y ys) (is_rising ys) h in
    let up = above_other x y (other_pair x y (has_pair ys x.0 x.1) free).0 (parted.after 0 (omega arith) (omega arith)) in
    and_from (below_all x (y ∷ ys)) (is_rising (y ∷ ys)) (and_from (below x y) (below_all x ys) up (below_later x y ys up parts.0)) h
rising-insert (y ∷ ys) (suc at) x parted free h =
    let parts = and_parts (below_all y ys) (is_rising ys) h in
    and_from (below_all y (insert ys at x)) (is_rising (insert ys at x))
    (below_all-insert y ys at x parts.0 (parted.before 0 (omega arith)))
    (rising-insert ys at x (tail_parted _ y ys at parted) (other_pair x y (has_pair ys x.0 x.1) free).1 parts.1)

-- ---- a pair is taken out

below_all-remove : (z : Pair) (xs : List Pair) (at : ℕ) → below_all z xs ≡ true → below_all z (remove xs at) ≡ true
below_all-remove z [] zero h = refl
below_all-remove z [] (suc at) h = refl
below_all-remove z (y ∷ ys) zero h = (and_parts (below z y) (below_all z ys) h).1
below_all-remove z (y ∷ ys) (suc at) h =
    let parts = and_parts (below z y) (below_all z ys) h in
    and_from (below z y) (below_all z (remove ys at)) parts.0 (below_all-remove z ys at parts.1)

pub rising-remove : (xs : List Pair) (at : ℕ) → is_rising xs ≡ true → is_rising (remove xs at) ≡ true
rising-remove [] zero h = refl
rising-remove [] (suc at) h = refl
rising-remove (y ∷ ys) zero h = (and_parts (below_all y ys) (is_rising ys) h).1
rising-remove (y ∷ ys) (suc at) h =
    let parts = and_parts (below_all y ys) (is_rising ys) h in
    and_from (below_all y (remove ys at)) (is_rising (remove ys at)) (below_all-remove y ys at parts.0) (rising-remove ys at parts.1)

-- the pair that is sought stands at the place, if the row has it
first_is : (x y : Pair) (ys : List Pair) → below y x ≡ false → below_all y ys ≡ true → (((y.0 == x.0) && (y.1 == x.1)) || has_pair ys x.0 x.1) ≡ true → ((y.0 == x.0) && (y.1 == x.1)) ≡ true
first_is x y ys h up there =
    elim (has_pair ys x.0 x.1) as (λ v. has_pair ys x.0 x.1 ≡ v → (((y.0 == x.0) && (y.1 == x.1)) || v) ≡ true → ((y.0 == x.0) && (y.1 == x.1)) ≡ true) [
      | true ↦ λ later _. let over : below y x ≡ true = below_member y ys x.0 x.1 up later in let no : true ≡ false = sym over ∙ h in cc
      | false ↦ λ _ e. grind (arith, e)
    ] refl there

gone_first : (x y : Pair) (a b : ℕ) (m : Bool) → ((y.0 == x.0) && (y.1 == x.1)) ≡ true → (((x.0 == a) && (x.1 == b)) ≡ true → m ≡ false) → m ≡ (not ((x.0 == a) && (x.1 == b)) && (((y.0 == a) && (y.1 == b)) || m))
gone_first x y a b m e out =
    elim ((x.0 == a) && (x.1 == b)) as (λ v. ((x.0 == a) && (x.1 == b)) ≡ v → m ≡ (not v && (((y.0 == a) && (y.1 == b)) || m))) [
      | true ↦ λ is. out is
      | false ↦ λ is. grind (arith, nat_tests, e, is)
    ] refl

later_gone : (x y : Pair) (a b : ℕ) (m n : Bool) → below y x ≡ true → m ≡ (not ((x.0 == a) && (x.1 == b)) && n) → (((y.0 == a) && (y.1 == b)) || m) ≡ (not ((x.0 == a) && (x.1 == b)) && (((y.0 == a) && (y.1 == b)) || n))
later_gone x y a b m n h e =
    elim ((y.0 == a) && (y.1 == b)) as (λ v. ((y.0 == a) && (y.1 == b)) ≡ v → (v || m) ≡ (not ((x.0 == a) && (x.1 == b)) && (v || n))) [
      | true ↦ λ is. grind (arith, nat_tests, h, is)
      | false ↦ λ is. e
    ] refl

below_other : (x y : Pair) (m : Bool) → below y x ≡ true → (((y.0 == x.0) && (y.1 == x.1)) || m) ≡ true → m ≡ true
below_other x y m h there = grind (arith, nat_tests, h, there)

pub absent_later : (x y : Pair) (ys : List Pair) (a b : ℕ) → ((y.0 == x.0) && (y.1 == x.1)) ≡ true → below_all y ys ≡ true → ((x.0 == a) && (x.1 == b)) ≡ true → has_pair ys a b ≡ false
absent_later x y ys a b e up is =
    elim (has_pair ys a b) as (λ v. has_pair ys a b ≡ v → v ≡ false) [
      | true ↦ λ m. let over : below y (a, b) ≡ true = below_member y ys a b up m in grind (arith, nat_tests, over, e, is)
      | false ↦ λ _. refl
    ] refl

pub place_within : (xs : List Pair) (at : ℕ) (x : Pair) → Parted (λ y. below y x) xs at → has_pair xs x.0 x.1 ≡ true → at < length xs
place_within [] at x parted there = cc
place_within (y ∷ ys) zero x parted there = omega arith
place_within (y ∷ ys) (suc at) x parted there =
    omega (arith, place_within ys at x (tail_parted _ y ys at parted) (below_other x y (has_pair ys x.0 x.1) (parted.before 0 (omega arith)) there))

pub has_pair-remove : (xs : List Pair) (at : ℕ) (x : Pair) → Parted (λ y. below y x) xs at → is_rising xs ≡ true → has_pair xs x.0 x.1 ≡ true
    → (a b : ℕ) → has_pair (remove xs at) a b ≡ (not ((x.0 == a) && (x.1 == b)) && has_pair xs a b)
has_pair-remove [] at x parted h there a b = cc
has_pair-remove (y ∷ ys) zero x parted h there a b =
    let up = (and_parts (below_all y ys) (is_rising ys) h).0 in
    let here = first_is x y ys (parted.after 0 (omega arith) (omega arith)) up there in
    gone_first x y a b (has_pair ys a b) here (absent_later x y ys a b here up)
has_pair-remove (y ∷ ys) (suc at) x parted h there a b =
    let low = parted.before 0 (omega arith) in
    later_gone x y a b (has_pair (remove ys at) a b) (has_pair ys a b) low
    (has_pair-remove ys at x (tail_parted _ y ys at parted) (and_parts (below_all y ys) (is_rising ys) h).1 (below_other x y (has_pair ys x.0 x.1) low there) a b)

-- ---- the pairs with one first number

all_out : (p : Pair → Bool) (xs : List Pair) → ((k : ℕ) → k < length xs → p (get_or xs k (0, 0)) ≡ false) → filter p xs ≡ []
all_out p [] out = refl
all_out p (x ∷ xs) out = ap (λ b. cond b (x ∷ filter p xs) (filter p xs)) (out 0 (omega arith)) ∙ all_out p xs (λ k l. out (suc k) (omega arith))

in_part : (p : Pair → Bool) (xs : List Pair) (n : ℕ) → n ≤ length xs → ((k : ℕ) → k < n → p (get_or xs k (0, 0)) ≡ true) → ((k : ℕ) → n ≤ k → k < length xs → p (get_or xs k (0, 0)) ≡ false) → filter p xs ≡ take n xs
in_part p [] zero l here out = refl
in_part p [] (suc n) l here out = absurd (omega arith)
in_part p (x ∷ xs) zero l here out = all_out p (x ∷ xs) (λ k. out k (omega arith))
in_part p (x ∷ xs) (suc n) l here out =
    ap (λ b. cond b (x ∷ filter p xs) (filter p xs)) (here 0 (omega arith))
    ∙ ap (λ ys. x ∷ ys) (in_part p xs n (omega arith) (λ k m. here (suc k) (omega arith)) (λ k m o. out (suc k) (omega arith) (omega arith)))

in_range : (p : Pair → Bool) (xs : List Pair) (low n : ℕ) → low + n ≤ length xs → ((k : ℕ) → k < low → p (get_or xs k (0, 0)) ≡ false)
    → ((k : ℕ) → low ≤ k → k < low + n → p (get_or xs k (0, 0)) ≡ true) → ((k : ℕ) → low + n ≤ k → k < length xs → p (get_or xs k (0, 0)) ≡ false)
    → filter p xs ≡ take n (drop low xs)
in_range p xs zero n l early here late = in_part p xs n (omega arith) (λ k m. here k (omega arith) (omega arith)) (λ k m o. late k (omega arith) o)
in_range p [] (suc low) n l early here late = absurd (omega arith)
in_range p (x ∷ xs) (suc low) n l early here late =
    ap (λ b. cond b (x ∷ filter p xs) (filter p xs)) (early 0 (omega arith))
    ∙ in_range p xs low n (omega arith) (λ k m. early (suc k) (omega arith)) (λ k m o. here (suc k) (omega arith) (omega arith)) (λ k m o. late (suc k) (omega arith) (omega arith))

lower : (x a : ℕ) → nat_lt x a ≡ true → (x == a) ≡ false
lower x a h = grind (arith, nat_tests, h)

between_them : (x a : ℕ) → nat_lt x a ≡ false → nat_le x a ≡ true → (x == a) ≡ true
between_them x a h k = grind (arith, nat_tests, h, k)

upper : (x a : ℕ) → nat_le x a ≡ false → (x == a) ≡ false
upper x a h = grind (arith, nat_tests, h)

both_ways : (x a : ℕ) → nat_lt x a ≡ true → nat_le x a ≡ false → true ≡ false
both_ways x a h k = grind (arith, nat_tests, h, k)

module _ (xs : List Pair) (a low high : ℕ) (starts : Parted (λ y. nat_lt y.0 a) xs low) (ends : Parted (λ y. nat_le y.0 a) xs high) where
  pub in_order : low ≤ high
  in_order =
      elim (cases_lt high low) [
        | inl h ↦ let no : true ≡ false = both_ways (get_or xs high (0, 0)).0 a (starts.before high h) (ends.after high (omega arith) (omega (arith, starts.within))) in cc
        | inr h ↦ h
      ]

  pub slice_is : filter (λ y. y.0 == a) xs ≡ slice_range xs low high
  slice_is =
      let le = in_order in
      in_range (λ y. y.0 == a) xs low (high - low) (omega (arith, ends.within, le))
      (λ k l. lower (get_or xs k (0, 0)).0 a (starts.before k l))
      (λ k l m. between_them (get_or xs k (0, 0)).0 a (starts.after k l (omega (arith, ends.within, le))) (ends.before k (omega (arith, le))))
      (λ k l m. upper (get_or xs k (0, 0)).0 a (ends.after k (omega (arith, le)) m))

-- ---- the least second number above another one

-- what the place says: the pair there, if it has the first number
abbrev pub found_at : List Pair → ℕ → ℕ → Option ℕ
found_at [] at a = None
found_at (x ∷ xs) zero a = cond (x.0 == a) (Some x.1) None
found_at (x ∷ xs) (suc at) a = found_at xs at a

passed : (a b q : ℕ) (x : Pair) (m : Bool) → (nat_lt x.0 a || ((x.0 == a) && nat_le x.1 b)) ≡ true → b < q → (((x.0 == a) && (x.1 == q)) || m) ≡ m
passed a b q x m h l = grind (arith, nat_tests, h, l)

pub later_next : (t u : ℕ → Bool) (after : ℕ) (next : Option ℕ) → ((q : ℕ) → after < q → u q ≡ t q) → IsLeastAbove t after next → IsLeastAbove u after next
later_next t u after None same h = λ q l. same q l ∙ h q l
later_next t u after (Some next) same h = (h.0, same next h.0 ∙ h.1, λ q l m. same q l ∙ h.2 q l m)

here_is : (x : Pair) (m : Bool) (a : ℕ) → (x.0 == a) ≡ true → (((x.0 == a) && (x.1 == x.1)) || m) ≡ true
here_is x m a e = grind (arith, nat_tests, e)

above_it : (a b : ℕ) (x : Pair) → (nat_lt x.0 a || ((x.0 == a) && nat_le x.1 b)) ≡ false → (x.0 == a) ≡ true → b < x.1
above_it a b x h e = grind (arith, nat_tests, h, e)

-- no pair before the first one
none_lower : (x : Pair) (xs : List Pair) (a q : ℕ) → below_all x xs ≡ true → below (a, q) x ≡ true → (((x.0 == a) && (x.1 == q)) || has_pair xs a q) ≡ false
none_lower x xs a q up low =
    elim (has_pair xs a q) as (λ v. has_pair xs a q ≡ v → (((x.0 == a) && (x.1 == q)) || v) ≡ false) [
      | true ↦ λ m. let over : below x (a, q) ≡ true = below_member x xs a q up m in grind (arith, nat_tests, over, low)
      | false ↦ λ _. grind (arith, nat_tests, low)
    ] refl

lower_pair : (a q : ℕ) (x : Pair) → (x.0 == a) ≡ true → q < x.1 → below (a, q) x ≡ true
lower_pair a q x e l = grind (arith, nat_tests, e, l)

other_first : (a b q : ℕ) (x : Pair) → (nat_lt x.0 a || ((x.0 == a) && nat_le x.1 b)) ≡ false → (x.0 == a) ≡ false → below (a, q) x ≡ true
other_first a b q x h d = grind (arith, nat_tests, h, d)

pub next_found : (xs : List Pair) (at a after : ℕ) → Parted (λ y. nat_lt y.0 a || ((y.0 == a) && nat_le y.1 after)) xs at → is_rising xs ≡ true → IsLeastAbove (has_pair xs a) after (found_at xs at a)
next_found [] at a after parted h = λ q l. refl
next_found (x ∷ xs) zero a after parted h =
    let up = (and_parts (below_all x xs) (is_rising xs) h).0 in
    let over = parted.after 0 (omega arith) (omega arith) in
    elim (x.0 == a) as (λ v. (x.0 == a) ≡ v → IsLeastAbove (has_pair (x ∷ xs) a) after (cond v (Some x.1) None)) [
      | true ↦ λ e. (above_it a after x over e, here_is x (has_pair xs a x.1) a e, λ q l m. none_lower x xs a q up (lower_pair a q x e m))
      | false ↦ λ e. λ q l. none_lower x xs a q up (other_first a after q x over e)
    ] refl
next_found (x ∷ xs) (suc at) a after parted h =
    later_next (has_pair xs a) (has_pair (x ∷ xs) a) after (found_at xs at a)
    (λ q l. passed a after q x (has_pair xs a q) (parted.before 0 (omega arith)) l)
    (next_found xs at a after (tail_parted _ x xs at parted) (and_parts (below_all x xs) (is_rising xs) h).1)

pub found_none : (xs : List Pair) (at a : ℕ) → length xs ≤ at → found_at xs at a ≡ None
found_none [] at a l = refl
found_none (x ∷ xs) zero a l = absurd (omega arith)
found_none (x ∷ xs) (suc at) a l = found_none xs at a (omega arith)

pub found_here : (xs : List Pair) (at a : ℕ) (d : Pair) → at < length xs → found_at xs at a ≡ cond ((get_or xs at d).0 == a) (Some (get_or xs at d).1) None
found_here [] at a d l = absurd (omega arith)
found_here (y ∷ ys) zero a d l = refl
found_here (y ∷ ys) (suc at) a d l = found_here ys at a d (omega arith)

module _ (rows seen pairs : List Pair) (at a after : ℕ) (same : seen ≡ rows) (told : rows ≡ pairs) (parted : Parted (λ y. nat_lt y.0 a || ((y.0 == a) && nat_le y.1 after)) rows at) (h : is_rising rows ≡ true) where
  result_is : (o : Option ℕ) → found_at seen at a ≡ o → IsLeastAbove (has_pair pairs a) after o
  result_is o e =
      subst (λ xs. IsLeastAbove (has_pair xs a) after o) told
      (subst (IsLeastAbove (has_pair rows a) after) (ap (λ xs. found_at xs at a) (sym same) ∙ e) (next_found rows at a after parted h))

  pub next_past : at ≡ length seen → IsLeastAbove (has_pair pairs a) after None
  next_past e = result_is None (found_none seen at a (omega (arith, e)))

  pub next_some : at < length seen → (get_or seen at (0, 0)).0 ≡ a → IsLeastAbove (has_pair pairs a) after (Some (get_or seen at (0, 0)).1)
  next_some l e = result_is _ (found_here seen at a (0, 0) l ∙ ap (λ v. cond v (Some (get_or seen at (0, 0)).1) None) (eq-eqb _ _ e))

  pub next_other : at < length seen → (get_or seen at (0, 0)).0 ≢ a → IsLeastAbove (has_pair pairs a) after None
  next_other l e = result_is None (found_here seen at a (0, 0) l ∙ ap (λ v. cond v (Some (get_or seen at (0, 0)).1) None) (ne_eqb _ _ e))

-- ---- what a search of the row answers

pub point_in : (p : Pair → Bool) → Falls p → (rows seen : List Pair) (at : ℕ) → seen ≡ rows → is_rising rows ≡ true → at ≤ length seen
    → (IsPartitionedBy p seen → IsPartitionPoint (λ y. p y ≡ true) (λ y. p y ≡ false) seen at) → Parted p rows at
point_in p falls rows seen at same rises within point =
    subst (λ xs. Parted p xs at) same (parted_from p seen at within (point (rising_parted p falls seen (ap is_rising same ∙ rises))))

pub placed : (rows seen : List Pair) (at : ℕ) (x : Pair) → seen ≡ rows → at ≤ length seen → ((k : ℕ) → k < at → below (get_or seen k (0, 0)) x ≡ true)
    → ((k : ℕ) → at ≤ k → k < length seen → below (get_or seen k (0, 0)) x ≡ false) → Parted (λ y. below y x) rows at
placed rows seen at x same within before after =
    subst (λ xs. Parted (λ y. below y x) xs at) same (record { within = within; before = before; after = after })

pub put_in : (rows rows' : List Pair) (at a b : ℕ) (ok : Bool) → rows' ≡ cond ok (insert rows at (a, b)) rows → ok ≡ true → rows' ≡ insert rows at (a, b)
put_in rows rows' at a b ok e is = e ∙ ap (λ v. cond v (insert rows at (a, b)) rows) is
