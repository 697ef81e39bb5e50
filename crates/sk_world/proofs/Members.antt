-- What a change of the bits of a set does to its members.
use Rattle.std.proofs.Common.{◌≡◌, ◌≢◌, ◌∙◌, ◌+◌, ◌-◌, ◌*◌, ◌/◌, ◌%◌, ◌^◌, ◌<◌, ◌≤◌, ◌==◌, ◌||◌, ◌&&◌, ℕ, zero, suc, arith, ap, sym, refl, Bool, true, false, cond, not, List, [], ◌∷◌, ◌++◌, length, get_or, set, inl, inr, nat_eq, filter, bit_and, bit_or, w64, replicate, get_or-set_same, get_or-set_other}
use Rattle.std.specs.Prelude.{nat_lt}
use Rattle.sk_world.specs.Common.{list_any, bit_at, bit_not, trailing_zeros, numbers_below, contains, has_bit, members_of}
use Rattle.sk_world.proofs.Common.{cases_eq, cases_lt, nat_tests, list_any-append, shr-shr, shr_le, bit_at-zero, bit_at_above, bit_at-trailing_zeros, bit_at_set_same, bit_at_set_other, bit_at_clear_same, bit_at_clear_other, shr_and_one}
use Rattle.std.proofs.lemmas.List.Elements.{filter-append}

-- ---- the members, by the bits

any_of_one : (p : ℕ → Bool) (k q : ℕ) → list_any (λ y. nat_eq y q) (filter p (k ∷ [])) ≡ (p k && nat_eq k q)
any_of_one p k q =
    elim (p k) as (λ b. list_any (λ y. nat_eq y q) (cond b (k ∷ []) []) ≡ (b && nat_eq k q)) [
      | true ↦ elim (nat_eq k q) as (λ b. (b || false) ≡ b) [ true ↦ refl | false ↦ refl ]
      | false ↦ refl
    ]

more : (p : ℕ → Bool) (k q : ℕ) → ((nat_lt q k && p q) || (p k && nat_eq k q)) ≡ (nat_lt q (suc k) && p q)
more p k q = grind (arith, nat_tests)

none_below : (p : ℕ → Bool) (q : ℕ) → false ≡ (nat_lt q 0 && p q)
none_below p q = grind (arith, nat_tests)

any_passing : (p : ℕ → Bool) (k q : ℕ) → list_any (λ y. nat_eq y q) (filter p (numbers_below k)) ≡ (nat_lt q k && p q)
unfolding numbers_below
any_passing p zero q = none_below p q
any_passing p (suc k) q =
    ap (list_any (λ y. nat_eq y q)) (filter-append p (numbers_below k) (k ∷ []))
    ∙ list_any-append (λ y. nat_eq y q) (filter p (numbers_below k)) (filter p (k ∷ []))
    ∙ (λ i. any_passing p k q i || any_of_one p k q i)
    ∙ more p k q

-- a number below 32768 is a member where its bit is set
pub contains-members_of : (words : List ℕ) (q : ℕ) → contains (members_of words) q ≡ (nat_lt q 32768 && has_bit words q)
unfolding contains members_of
contains-members_of words q = any_passing (has_bit words) 32768 q

-- no word has a bit
bitless : (words : List ℕ) → ((i : ℕ) → get_or words i 0 ≡ 0) → (q : ℕ) → has_bit words q ≡ false
bitless words zeros q = ap (λ w. bit_at w (q % 64) == 1) (zeros (q / 64)) ∙ ap (λ x. x == 1) (bit_at-zero (q % 64))

none_pass : (p : ℕ → Bool) → ((q : ℕ) → p q ≡ false) → (k : ℕ) → filter p (numbers_below k) ≡ []
unfolding numbers_below
none_pass p none zero = refl
none_pass p none (suc k) =
    filter-append p (numbers_below k) (k ∷ [])
    ∙ (λ i. none_pass p none k i ++ cond (none k i) (k ∷ []) [])

-- ---- one word is written

module _ (words : List ℕ) (n word : ℕ) (within : n / 64 < length words) where
  pub has_bit-set_same : has_bit (set words (n / 64) word) n ≡ (bit_at word (n % 64) == 1)
  has_bit-set_same = ap (λ w. bit_at w (n % 64) == 1) (get_or-set_same words (n / 64) word 0 within)

  -- a word that keeps its other bits keeps the bit of each other number
  pub has_bit-set_other : ((i : ℕ) → i < 64 → i ≢ n % 64 → bit_at word i ≡ bit_at (get_or words (n / 64) 0) i) → (q : ℕ) → q ≢ n → has_bit (set words (n / 64) word) q ≡ has_bit words q
  has_bit-set_other kept q differs =
      elim (cases_eq (q / 64) (n / 64)) [
        | inl same ↦ ap (λ x. x == 1) (rw (same, get_or-set_same words (n / 64) word 0 within) (kept (q % 64) (omega arith) (λ index. differs (omega arith))))
        | inr apart ↦ ap (λ w. bit_at w (q % 64) == 1) (get_or-set_other words (n / 64) (q / 64) word 0 apart)
      ]

one_more : (q n : ℕ) (b c : Bool) → n < 32768 → (q ≡ n → b ≡ true) → (q ≢ n → b ≡ c) → (nat_lt q 32768 && b) ≡ ((q == n) || (nat_lt q 32768 && c))
one_more q n b c low here there = elim (cases_eq q n) [ inl e ↦ grind (arith, nat_tests, e, here e) | inr d ↦ grind (arith, nat_tests, d, there d) ]

one_less : (q n : ℕ) (b c : Bool) → (q ≡ n → b ≡ false) → (q ≢ n → b ≡ c) → (nat_lt q 32768 && b) ≡ (not (q == n) && (nat_lt q 32768 && c))
one_less q n b c here there = elim (cases_eq q n) [ inl e ↦ grind (arith, nat_tests, e, here e) | inr d ↦ grind (arith, nat_tests, d, there d) ]

module _ (words : List ℕ) (s : List ℕ) (n : ℕ) (is : members_of words ≡ s) (long : length words ≡ 512) (low : n < 32768) where
  within : n / 64 < length words
  within = omega (arith, long, low)

  -- the members before
  old : (q : ℕ) → contains s q ≡ (nat_lt q 32768 && has_bit words q)
  old q = ap (λ t. contains t q) (sym is) ∙ contains-members_of words q

  pub members-set : (q : ℕ) → contains (members_of (set words (n / 64) (bit_or (get_or words (n / 64) 0) (1 * 2 ^ (n % 64) % 2 ^ 64)))) q ≡ ((q == n) || contains s q)
  members-set q =
      let word = get_or words (n / 64) 0 in
      let written = bit_or word (1 * 2 ^ (n % 64) % 2 ^ 64) in
      contains-members_of (set words (n / 64) written) q
      ∙ one_more q n (has_bit (set words (n / 64) written) q) (has_bit words q) low
      (λ e. ap (has_bit (set words (n / 64) written)) e ∙ has_bit-set_same words n written within ∙ ap (λ x. x == 1) (bit_at_set_same w64 word (n % 64) (omega arith)))
      (has_bit-set_other words n written within (λ i _ differs. bit_at_set_other w64 word (n % 64) (omega arith) i differs) q)
      ∙ ap (λ b. (q == n) || b) (sym (old q))

  pub members-clear : (q : ℕ) → contains (members_of (set words (n / 64) (bit_and (get_or words (n / 64) 0) (bit_not w64 (1 * 2 ^ (n % 64) % 2 ^ 64))))) q ≡ (not (q == n) && contains s q)
  members-clear q =
      let word = get_or words (n / 64) 0 in
      let written = bit_and word (bit_not w64 (1 * 2 ^ (n % 64) % 2 ^ 64)) in
      contains-members_of (set words (n / 64) written) q
      ∙ one_less q n (has_bit (set words (n / 64) written) q) (has_bit words q)
      (λ e. ap (has_bit (set words (n / 64) written)) e ∙ has_bit-set_same words n written within ∙ ap (λ x. x == 1) (bit_at_clear_same w64 word (n % 64) (omega arith)))
      (has_bit-set_other words n written within (λ i below differs. bit_at_clear_other w64 word (n % 64) (omega arith) i below differs) q)
      ∙ ap (λ b. not (q == n) && b) (sym (old q))

-- the test of one bit
pub bit_test : (word i : ℕ) → (bit_and (word / 2 ^ i) 1 == 1) ≡ (bit_at word i == 1)
bit_test word i = ap (λ x. x == 1) (shr_and_one word i)

-- ---- the lowest bit from a place on

shifted_bit : (word first i : ℕ) → bit_at (word / 2 ^ first) i ≡ bit_at word (first + i)
shifted_bit word first i = ap (λ x. x % 2) (shr-shr word first i)

later_bit : (word first i : ℕ) → first ≤ i → bit_at word i ≡ bit_at (word / 2 ^ first) (i - first)
later_bit word first i from = let e : i ≡ first + (i - first) = omega arith in ap (bit_at word) e ∙ sym (shifted_bit word first (i - first))

pub no_bit_from : (word first : ℕ) → word / 2 ^ first ≡ 0 → (i : ℕ) → first ≤ i → bit_at word i ≡ 0
no_bit_from word first none i from = later_bit word first i from ∙ ap (λ w. bit_at w (i - first)) none ∙ bit_at-zero (i - first)

pub lowest_bit_from : (word first : ℕ) → first < 64 → word < 2 ^ 64 → 0 < word / 2 ^ first
    → let bit = first + trailing_zeros w64 (word / 2 ^ first) in
    (first ≤ bit) × (bit < 64) × (bit_at word bit ≡ 1) × ((i : ℕ) → first ≤ i → i < bit → bit_at word i ≡ 0)
lowest_bit_from word first low fits some =
    let least = bit_at-trailing_zeros w64 (word / 2 ^ first) some (omega (arith, shr_le word first)) in
    let t = trailing_zeros w64 (word / 2 ^ first) in
    let here : bit_at word (first + t) ≡ 1 = sym (shifted_bit word first t) ∙ least.1 in (
      omega arith,
      elim (cases_lt (first + t) 64) [
        | inl h ↦ h
        | inr h ↦ absurd (omega (arith, here, bit_at_above word 64 (first + t) fits h))
      ],
      here,
      λ i from below. later_bit word first i from ∙ least.2 (i - first) (omega arith),
    )

-- ---- what is asked of a set

zeros : (n i : ℕ) → ◌≡◌ {A = ℕ} (get_or (replicate n 0) i 0) 0
zeros zero i = refl
zeros (suc n) zero = refl
zeros (suc n) (suc i) = zeros n i

pub none_of_zeros : members_of (replicate 512 0) ≡ []
unfolding members_of
none_of_zeros = none_pass (has_bit (replicate 512 0)) (bitless (replicate 512 0) (zeros 512)) 32768

low_is : (n : ℕ) (b : Bool) → n < 32768 → (nat_lt n 32768 && b) ≡ b
low_is n b low = grind (arith, nat_tests, low)

high_is : (n : ℕ) (b : Bool) → 32768 ≤ n → (nat_lt n 32768 && b) ≡ false
high_is n b high = grind (arith, nat_tests, high)

module _ (words : List ℕ) (s : List ℕ) (is : members_of words ≡ s) where
  pub member_below : (n : ℕ) → n < 32768 → contains s n ≡ has_bit words n
  member_below n low = ap (λ t. contains t n) (sym is) ∙ contains-members_of words n ∙ low_is n (has_bit words n) low

  pub no_member_above : (n : ℕ) → 32768 ≤ n → contains s n ≡ false
  no_member_above n high = ap (λ t. contains t n) (sym is) ∙ contains-members_of words n ∙ high_is n (has_bit words n) high

  -- the bit `bit` of the word `index`
  pub member_at : (index bit : ℕ) → index < 512 → bit < 64 → contains s (index * 64 + bit) ≡ (bit_at (get_or words index 0) bit == 1)
  member_at index bit low fits =
      let i : (index * 64 + bit) / 64 ≡ index = omega arith in
      let j : (index * 64 + bit) % 64 ≡ bit = omega arith in
      member_below (index * 64 + bit) (omega arith) ∙ (λ k. bit_at (get_or words (i k) 0) (j k) == 1)

  -- a run of bits of one word that are not set
  pub none_between : (index first last : ℕ) → index < 512 → last ≤ 64 → ((i : ℕ) → first ≤ i → i < last → bit_at (get_or words index 0) i ≡ 0)
      → (n : ℕ) → index * 64 + first ≤ n → n < index * 64 + last → contains s n ≡ false
  none_between index first last low fits none n from below =
      let e : n ≡ index * 64 + (n - index * 64) = omega arith in
      ap (contains s) e ∙ member_at index (n - index * 64) low (omega arith) ∙ ap (λ x. x == 1) (none (n - index * 64) (omega arith) (omega arith))
