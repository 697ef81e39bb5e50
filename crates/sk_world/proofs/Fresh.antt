-- The next free number is free, and a pid.
use Rattle.std.proofs.Common.{◌≡◌, ◌≢◌, ◌∙◌, ◌+◌, ◌-◌, ◌*◌, ◌<◌, ◌≤◌, ◌==◌, ℕ, zero, suc, arith, ap, sym, refl, Bool, true, false, cond, ◌||◌, List, [], ◌∷◌, length, ⊎_elim, None, Some}
use Rattle.std.specs.Prelude.{nat_le}
use Rattle.sk_world.specs.Common.{list_any, nat_cmp, find, LAST_PID, PROCESSES, Proc, count, World, at, has_number, is_used, next_number, distance_from, IsNextFree, free_from, fresh_of}
use Rattle.sk_world.proofs.Common.{false≢true, eqb-true, cases_lt, nat_tests}
use Rattle.sk_world.proofs.Maps.{same_number}

-- ---- a short list leaves a number out

is_in : ℕ → List ℕ → Bool
is_in n [] = false
is_in n (x ∷ xs) = (x == n) || is_in n xs

without : ℕ → List ℕ → List ℕ
without n [] = []
without n (x ∷ xs) = cond (x == n) (without n xs) (x ∷ without n xs)

length-without_le : (n : ℕ) (xs : List ℕ) → length (without n xs) ≤ length xs
unfolding without
length-without_le n [] = omega arith
length-without_le n (x ∷ xs) =
    elim (x == n) as (λ b. length (cond b (without n xs) (x ∷ without n xs)) ≤ suc (length xs)) [
      | true ↦ omega (arith, length-without_le n xs)
      | false ↦ omega (arith, length-without_le n xs)
    ]

length-without : (n : ℕ) (xs : List ℕ) → is_in n xs ≡ true → length (without n xs) < length xs
unfolding without is_in
length-without n [] h = cc
length-without n (x ∷ xs) h =
    elim (x == n) as (λ b. (b || is_in n xs) ≡ true → length (cond b (without n xs) (x ∷ without n xs)) < suc (length xs)) [
      | true ↦ λ _. omega (arith, length-without_le n xs)
      | false ↦ λ is. omega (arith, length-without n xs is)
    ] h

other : (x j n : ℕ) → (x == n) ≡ true → (j == n) ≡ false → (x == j) ≡ false
other x j n e d = grind (arith, nat_tests, e, d)

is_in-without : (j n : ℕ) (xs : List ℕ) → (j == n) ≡ false → is_in j (without n xs) ≡ is_in j xs
unfolding without is_in
is_in-without j n [] d = refl
is_in-without j n (x ∷ xs) d =
    elim (x == n) as (λ b. (x == n) ≡ b → is_in j (cond b (without n xs) (x ∷ without n xs)) ≡ ((x == j) || is_in j xs)) [
      | true ↦ λ e. is_in-without j n xs d ∙ sym (ap (λ b. b || is_in j xs) (other x j n e d))
      | false ↦ λ e. ap (λ b. (x == j) || b) (is_in-without j n xs d)
    ] refl

apart : (j n : ℕ) → j < n → (j == n) ≡ false
apart j n h = grind (arith, nat_tests, h)

one_left : (n : ℕ) (xs : List ℕ) → length xs < n → (j : ℕ) × (2 ≤ j) × (j < n + 2) × (is_in j xs ≡ false)
one_left zero xs h = absurd (omega arith)
one_left (suc n) xs h =
    elim (is_in (n + 2) xs) as (λ b. is_in (n + 2) xs ≡ b → (j : ℕ) × (2 ≤ j) × (j < suc n + 2) × (is_in j xs ≡ false)) [
      | true ↦ λ is.
          let left = one_left n (without (n + 2) xs) (omega (arith, length-without (n + 2) xs is)) in
          (left.0, left.1, omega (arith, left.2), sym (is_in-without left.0 (n + 2) xs (apart left.0 (n + 2) left.2)) ∙ left.3)
      | false ↦ λ is. (n + 2, omega arith, omega arith, is)
    ] refl

-- ---- the numbers of all processes

numbers_of : List (ℕ × Proc) → List ℕ
numbers_of [] = []
numbers_of (e ∷ es) = e.0 ∷ e.1.links.group ∷ e.1.links.session ∷ numbers_of es

length-numbers_of : (es : List (ℕ × Proc)) → length (numbers_of es) ≡ 3 * length es
unfolding numbers_of
length-numbers_of [] = refl
length-numbers_of (e ∷ es) = omega (arith, length-numbers_of es)

regrouped : (a b c d : Bool) → (a || b || c || d) ≡ (a || (b || (c || d)))
regrouped true b c d = refl
regrouped false true c d = refl
regrouped false false c d = refl

used_numbers : (n : ℕ) (es : List (ℕ × Proc)) → list_any (has_number n) es ≡ is_in n (numbers_of es)
unfolding numbers_of is_in
used_numbers n [] = refl
used_numbers n (e ∷ es) =
    ap (λ b. has_number n e || b) (used_numbers n es)
    ∙ regrouped (e.0 == n) (e.1.links.group == n) (e.1.links.session == n) (is_in n (numbers_of es))

-- ---- the search comes to every number

-- how many steps of `next_number` lead from k to j
steps : ℕ → ℕ → ℕ
steps k j = cond (nat_le k j) (j - k) (j + (LAST_PID - 1) - k)

next_in_range : (k : ℕ) → 1 ≤ k → (2 ≤ next_number k) × (next_number k ≤ LAST_PID)
next_in_range k h = (grind (arith, nat_tests, h), grind (arith, nat_tests, h))

nearer : (k j n : ℕ) → k ≢ j → 2 ≤ k → k ≤ LAST_PID → 2 ≤ j → j ≤ LAST_PID → steps k j < suc n → steps (next_number k) j < n
unfolding steps
nearer k j n ne k2 kl j2 jl h = grind (arith, nat_tests, ne, k2, kl, j2, jl, h)

reached : (n : ℕ) (w : World) (k j : ℕ) → 2 ≤ k → k ≤ LAST_PID → 2 ≤ j → j ≤ LAST_PID → is_used w j ≡ false → steps k j < n → is_used w (free_from n w k) ≡ false
reached zero w k j k2 kl j2 jl free h = absurd (omega arith)
reached (suc n) w k j k2 kl j2 jl free h =
    elim (is_used w k) as (λ b. is_used w k ≡ b → is_used w (cond b (free_from n w (next_number k)) k) ≡ false) [
      | true ↦ λ is.
          let ne : k ≢ j = λ e. let both : true ≡ false = sym is ∙ ap (is_used w) e ∙ free in cc in
          let next = next_in_range k (omega arith) in
          reached n w (next_number k) j next.0 next.1 j2 jl free (nearer k j n ne k2 kl j2 jl h)
      | false ↦ λ is. is
    ] refl

within : (n : ℕ) (w : World) (k : ℕ) → 2 ≤ k → k ≤ LAST_PID → (2 ≤ free_from n w k) × (free_from n w k ≤ LAST_PID)
within zero w k k2 kl = (k2, kl)
within (suc n) w k k2 kl =
    let next = next_in_range k (omega arith) in
    elim (is_used w k) as (λ b. let m = cond b (free_from n w (next_number k)) k in (2 ≤ m) × (m ≤ LAST_PID)) [
      | true ↦ within n w (next_number k) next.0 next.1
      | false ↦ (k2, kl)
    ]

steps_within : (k j : ℕ) → 2 ≤ k → k ≤ LAST_PID → 2 ≤ j → j ≤ LAST_PID → steps k j < LAST_PID - 1
unfolding steps
steps_within k j k2 kl j2 jl = grind (arith, nat_tests, k2, kl, j2, jl)

-- ---- the search passes over no free number

closer :
    (k j f : ℕ) → (k == j) ≡ false → 2 ≤ k → k ≤ LAST_PID → 2 ≤ j → j ≤ LAST_PID → 2 ≤ f → f ≤ LAST_PID
    → steps k j < steps k f → steps (next_number k) j < steps (next_number k) f
unfolding steps
closer k j f ne k2 kl j2 jl f2 fl h = grind (arith, nat_tests, ne, k2, kl, j2, jl, f2, fl, h)

nothing_before : (k j : ℕ) → steps k j < steps k k → ⊥
unfolding steps
nothing_before k j h = grind (arith, nat_tests, h)

passed : (n : ℕ) (w : World) (k j : ℕ) → 2 ≤ k → k ≤ LAST_PID → 2 ≤ j → j ≤ LAST_PID → steps k j < steps k (free_from n w k) → is_used w j ≡ true
passed zero w k j k2 kl j2 jl h = absurd (nothing_before k j h)
passed (suc n) w k j k2 kl j2 jl h =
    let next = next_in_range k (omega arith) in
    let found = within n w (next_number k) next.0 next.1 in
    elim (is_used w k) as (λ b. is_used w k ≡ b → steps k j < steps k (cond b (free_from n w (next_number k)) k) → is_used w j ≡ true) [
      | true ↦ λ is h.
          elim (k == j) as (λ b. (k == j) ≡ b → is_used w j ≡ true) [
            | true ↦ λ same. ap (is_used w) (sym (eqb-true k j same)) ∙ is
            | false ↦ λ ne. passed n w (next_number k) j next.0 next.1 j2 jl (closer k j (free_from n w (next_number k)) ne k2 kl j2 jl found.0 found.1 h)
          ] refl
      | false ↦ λ _ h. absurd (nothing_before k j h)
    ] refl h

-- the search begins at the number after the last one given
from_next : (last n : ℕ) → 1 ≤ last → last ≤ LAST_PID → 2 ≤ n → n ≤ LAST_PID → distance_from last n ≡ suc (steps (next_number last) n)
unfolding steps
from_next last n l1 ll n2 nl = grind (arith, nat_tests, l1, ll, n2, nl)

-- ---- the next free number

-- it is a pid
pub fresh_in_range : (w : World) → 1 ≤ w.last → (2 ≤ fresh_of w) × (fresh_of w ≤ LAST_PID)
unfolding fresh_of
fresh_in_range w given =
    let next = next_in_range w.last given in
    within (LAST_PID - 1) w (next_number w.last) next.0 next.1

-- while there is room for a process more it is nobody's pid, group or session
pub fresh_unused : (w : World) → count w.procs < PROCESSES → 1 ≤ w.last → is_used w (fresh_of w) ≡ false
unfolding fresh_of
fresh_unused w room given =
    let next = next_in_range w.last given in
    let left = one_left (LAST_PID - 1) (numbers_of w.procs.entries) (omega (arith, length-numbers_of w.procs.entries)) in
    let below : left.0 ≤ LAST_PID = omega (arith, left.2) in
    reached (LAST_PID - 1) w (next_number w.last) left.0 next.0 next.1 left.1 below (used_numbers left.0 w.procs.entries ∙ left.3)
    (steps_within (next_number w.last) left.0 next.0 next.1 left.1 below)

not_first : (n k : ℕ) (b c d : Bool) → ((k == n) || b || c || d) ≡ false → ((n == k) ≡ false) × (d ≡ false)
not_first n k b c d h = (grind (arith, nat_tests, h), grind (arith, nat_tests, h))

find_unused : (n : ℕ) (es : List (ℕ × Proc)) → list_any (has_number n) es ≡ false → find nat_cmp n es ≡ None
find_unused n [] h = refl
find_unused n (e ∷ es) h =
    let parts = not_first n e.0 (e.1.links.group == n) (e.1.links.session == n) (list_any (has_number n) es) h in
    ap (λ b. cond b (Some e.1) (find nat_cmp n es)) (same_number n e.0 ∙ parts.0) ∙ find_unused n es parts.1

-- and no process has it as its pid
pub fresh_absent : (w : World) → count w.procs < PROCESSES → 1 ≤ w.last → at w (fresh_of w) ≡ None
fresh_absent w room given = find_unused (fresh_of w) w.procs.entries (fresh_unused w room given)

-- every number on the way to it is used
pub number_next : (w : World) (n : ℕ) → 1 ≤ w.last → w.last ≤ LAST_PID → 2 ≤ n → n ≤ LAST_PID → distance_from w.last n < distance_from w.last (fresh_of w)
    → is_used w n ≡ true
unfolding fresh_of
number_next w n l1 ll n2 nl before =
    let next = next_in_range w.last l1 in
    let fresh = fresh_in_range w l1 in
    passed (LAST_PID - 1) w (next_number w.last) n next.0 next.1 n2 nl
    (omega (arith, before, from_next w.last n l1 ll n2 nl, from_next w.last (fresh_of w) l1 ll fresh.0 fresh.1))

-- so it is the next free number
pub fresh_is_next : (w : World) → count w.procs < PROCESSES → 1 ≤ w.last → w.last ≤ LAST_PID → IsNextFree w (fresh_of w)
fresh_is_next w room given within = record {
  number = fresh_in_range w given;
  free = fresh_unused w room given;
  passed = λ n low high nearer. number_next w n given within low high nearer;
}

-- numbers as far on are the same
same_distance : (last m n : ℕ) → 1 ≤ last → last ≤ LAST_PID → 2 ≤ m → m ≤ LAST_PID → 2 ≤ n → n ≤ LAST_PID → distance_from last m ≡ distance_from last n → m ≡ n
same_distance last m n l1 ll m2 ml n2 nl is = grind (arith, nat_tests, l1, ll, m2, ml, n2, nl, is)

-- and no other number is
pub next_is_unique : (w : World) (m n : ℕ) → 1 ≤ w.last → w.last ≤ LAST_PID → IsNextFree w m → IsNextFree w n → m ≡ n
next_is_unique w m n l1 ll one other = ⊎_elim
    (λ nearer. absurd (false≢true (sym one.free ∙ other.passed m one.number.0 one.number.1 nearer)))
    (λ no_nearer. ⊎_elim
    (λ farther. absurd (false≢true (sym other.free ∙ one.passed n other.number.0 other.number.1 farther)))
    (λ no_farther. same_distance w.last m n l1 ll one.number.0 one.number.1 other.number.0 other.number.1 (omega arith))
    (cases_lt (distance_from w.last n) (distance_from w.last m)))
    (cases_lt (distance_from w.last m) (distance_from w.last n))
