-- Halves of arguments that are not read, one argument after the other, and the numbers of calls with such.
use Rattle.std.proofs.Common.{◌≡◌, ℕ, zero, suc, ◌+◌, ◌*◌, ◌-◌, ◌^◌, ◌<◌, ◌≤◌, ◌++◌, ◌⊎◌, ◌↔◌, List, [], ◌∷◌, flat_map, Bool, true, false, cond, nat_lt, IsTrue, Some, None, slice_get, length, inl, inr, arith, refl, sym, ap, subst, ◌∙◌, append_assoc, append-nil}
use Rattle.std.specs.List.{Contains, range_with_len}
use Rattle.std.specs.Option.{option_and_then}
use Rattle.std.proofs.lemmas.Bool.{cases_lt, lt-ltb, le-ltb, leb-true}
use Rattle.std.proofs.lemmas.Option.{slice_get_past}
use Rattle.std.proofs.lemmas.List.Elements.{Contains-append_left, Contains-append_right, Contains-append_cases}
use Rattle.sk_arguments.specs.declared.tables.calls.TheConstants.{KINDS}
use Rattle.sk_arguments.specs.Reading.{place_of, kind_by, kind_of, reads_upper, unread_at, is_narrow, narrow_from, narrow_numbers}

-- ---- the halves of one argument more

pub one_unread : (nr i : ℕ) (places next total : List ℕ) → i < 6 → next ≡ places ++ unread_at nr i
    → places ++ flat_map (unread_at nr) (range_with_len i (6 - i)) ≡ total → next ++ flat_map (unread_at nr) (range_with_len (i + 1) (6 - (i + 1))) ≡ total
one_unread nr i places next total less is so_far =
    let e : 6 - i ≡ suc (6 - (i + 1)) = omega arith in
    let rest = flat_map (unread_at nr) (range_with_len (i + 1) (6 - (i + 1))) in
    ap (λ xs. xs ++ rest) is
    ∙ append_assoc places (unread_at nr i) rest
    ∙ ap (λ n. places ++ flat_map (unread_at nr) (range_with_len i n)) (sym e)
    ∙ so_far

-- ---- one number more

next_narrow : (n nr : ℕ) → narrow_from (suc n) nr ≡ cond (is_narrow nr) (nr ∷ narrow_from n (nr + 1)) (narrow_from n (nr + 1))
unfolding narrow_from
next_narrow n nr = refl

none_narrow : (nr : ℕ) → narrow_from 0 nr ≡ []
unfolding narrow_from
none_narrow nr = refl

by_test : (b : Bool) (numbers rest : List ℕ) (nr : ℕ) → cond b (numbers ++ nr ∷ []) numbers ++ rest ≡ numbers ++ cond b (nr ∷ rest) rest
by_test true numbers rest nr = append_assoc numbers (nr ∷ []) rest
by_test false numbers rest nr = refl

pub one_narrow : (end nr : ℕ) (numbers next total : List ℕ) → nr < end → next ≡ cond (is_narrow nr) (numbers ++ nr ∷ []) numbers
    → numbers ++ narrow_from (end - nr) nr ≡ total → next ++ narrow_from (end - (nr + 1)) (nr + 1) ≡ total
one_narrow end nr numbers next total less is so_far =
    let e : end - nr ≡ suc (end - (nr + 1)) = omega arith in
    ap (λ xs. xs ++ narrow_from (end - (nr + 1)) (nr + 1)) is
    ∙ by_test (is_narrow nr) numbers (narrow_from (end - (nr + 1)) (nr + 1)) nr
    ∙ ap (λ xs. numbers ++ xs) (sym (next_narrow (end - (nr + 1)) nr))
    ∙ ap (λ n. numbers ++ narrow_from n nr) (sym e)
    ∙ so_far

pub all_narrow : (end nr : ℕ) (numbers total : List ℕ) → end ≤ nr → numbers ++ narrow_from (end - nr) nr ≡ total → numbers ≡ total
all_narrow end nr numbers total past so_far =
    let e : end - nr ≡ 0 = omega arith in
    sym (append-nil numbers) ∙ ap (λ xs. numbers ++ xs) (sym (none_narrow nr)) ∙ ap (λ n. numbers ++ narrow_from n nr) (sym e) ∙ so_far

-- ---- a number that the table does not know

table_is_low : length KINDS.now ≤ 6 * 512
table_is_low = leb-true (length KINDS.now) (6 * 512) refl

place : (nr i n : ℕ) → i < 6 → cond (nat_lt nr (2 ^ 30)) nr (nr - 2 ^ 30) ≡ n → place_of nr i ≡ Some (6 * n + i)
place nr i n small is = rw (lt-ltb i 6 small, is) refl

unknown : (nr i n : ℕ) → i < 6 → cond (nat_lt nr (2 ^ 30)) nr (nr - 2 ^ 30) ≡ n → 512 ≤ n → reads_upper (kind_of nr i) ≡ true
unfolding kind_of kind_by
unknown nr i n small is high =
    let low = table_is_low in
    let past : slice_get KINDS.now (6 * n + i) ≡ None = slice_get_past KINDS.now (6 * n + i) (omega arith) in
    ap (λ p. reads_upper (kind_by (option_and_then (slice_get KINDS.now) p))) (place nr i n small is) ∙ ap (λ o. reads_upper (kind_by o)) past

not_narrow : (nr n : ℕ) → cond (nat_lt nr (2 ^ 30)) nr (nr - 2 ^ 30) ≡ n → 512 ≤ n → is_narrow nr ≡ false
unfolding is_narrow
not_narrow nr n is high =
    let reads = λ (i : ℕ) (small : i < 6). unknown nr i n small is high in
    rw (reads 0 (omega arith), reads 1 (omega arith), reads 2 (omega arith), reads 3 (omega arith), reads 4 (omega arith), reads 5 (omega arith)) refl

-- a narrow number is below 512, or is one of x32
is_low : (nr : ℕ) → IsTrue (is_narrow nr) → (nr < 512) ⊎ ((2 ^ 30 ≤ nr) × (nr < 2 ^ 30 + 512))
is_low nr narrow =
    elim (cases_lt nr (2 ^ 30)) [
      | inl native ↦ elim (cases_lt nr 512) [
        | inl low ↦ inl low
        | inr high ↦ let wide = not_narrow nr nr (rw (lt-ltb nr (2 ^ 30) native) refl) high in cc
      ]
      | inr with_bit ↦ elim (cases_lt nr (2 ^ 30 + 512)) [
        | inl low ↦ inr (with_bit, low)
        | inr high ↦ let wide = not_narrow nr (nr - 2 ^ 30) (rw (le-ltb nr (2 ^ 30) with_bit) refl) (omega arith) in cc
      ]
    ]

-- ---- the numbers are these

has_later : (b : Bool) (nr : ℕ) (numbers : List ℕ) (other : ℕ) → Contains numbers other → Contains (cond b (nr ∷ numbers) numbers) other
has_later true nr numbers other has = let below = has.1 in (suc has.0, omega arith, has.2)
has_later false nr numbers other has = has

is_among : (count from nr : ℕ) → from ≤ nr → nr < from + count → IsTrue (is_narrow nr) → Contains (narrow_from count from) nr
unfolding narrow_from
is_among zero from nr low high narrow = absurd (omega arith)
is_among (suc count) from nr low high narrow =
    elim (cases_lt from nr) [
      | inl more ↦ has_later (is_narrow from) from (narrow_from count (from + 1)) nr (is_among count (from + 1) nr (omega arith) (omega arith) narrow)
      | inr same ↦
          let is : nr ≡ from = omega arith in
          let narrow' : is_narrow from ≡ true = subst (λ n. is_narrow n ≡ true) is narrow in
          rw narrow' (0, omega arith, sym is)
    ]

among_is : (count from nr : ℕ) → Contains (narrow_from count from) nr → IsTrue (is_narrow nr)
unfolding narrow_from
among_is zero from nr has = let below = has.1 in absurd (omega (arith, below))
among_is (suc count) from nr has = by_first (is_narrow from) from (narrow_from count (from + 1)) nr refl (among_is count (from + 1) nr) has
  where
    here : (from nr : ℕ) → from ≡ nr → is_narrow from ≡ true → is_narrow nr ≡ true
    here from nr same narrow = subst (λ n. is_narrow n ≡ true) same narrow

    only : (from nr : ℕ) → is_narrow from ≡ true → Contains (from ∷ []) nr → IsTrue (is_narrow nr)
    only from nr is (zero, less, same) = here from nr same is
    only from nr is (suc k, less, same) = absurd (omega (arith, less))

    by_first : (b : Bool) (from : ℕ) (numbers : List ℕ) (nr : ℕ) → is_narrow from ≡ b → (Contains numbers nr → IsTrue (is_narrow nr))
        → Contains (cond b (from ∷ numbers) numbers) nr → IsTrue (is_narrow nr)
    by_first false from numbers nr is later has = later has
    by_first true from numbers nr is later has =
        elim (Contains-append_cases (from ∷ []) numbers nr has) [
          | inl first ↦ only from nr is first
          | inr rest ↦ later rest
        ]

pub numbers_are_narrow : (nr : ℕ) → Contains narrow_numbers nr ↔ IsTrue (is_narrow nr)
numbers_are_narrow nr = (there, back)
  where
    there : Contains narrow_numbers nr → IsTrue (is_narrow nr)
    there has =
        elim (Contains-append_cases (narrow_from 512 0) (narrow_from 512 (2 ^ 30)) nr has) [
          | inl native ↦ among_is 512 0 nr native
          | inr with_bit ↦ among_is 512 (2 ^ 30) nr with_bit
        ]

    back : IsTrue (is_narrow nr) → Contains narrow_numbers nr
    back narrow =
        elim (is_low nr narrow) [
          | inl low ↦ Contains-append_left (narrow_from 512 0) (narrow_from 512 (2 ^ 30)) nr (is_among 512 0 nr (omega arith) low narrow)
          | inr high ↦ Contains-append_right (narrow_from 512 0) (narrow_from 512 (2 ^ 30)) nr (is_among 512 (2 ^ 30) nr high.0 high.1 narrow)
        ]
