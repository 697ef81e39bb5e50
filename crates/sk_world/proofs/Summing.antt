-- The bits that say which words have a bit.
use Rattle.std.proofs.Common.{◌≡◌, ◌≢◌, ◌∙◌, ◌+◌, ◌-◌, ◌*◌, ◌/◌, ◌%◌, ◌^◌, ◌<◌, ◌≤◌, ◌==◌, ℕ, zero, suc, arith, ap, sym, refl, Bool, true, false, not, List, length, get_or, set, inl, inr, bit_and, bit_or, w64, replicate, get_or-set_same, get_or-set_other}
use Rattle.sk_world.specs.Common.{bit_at, bit_not, contains, has_bit, members_of}
use Rattle.std.specs.Int.Bits.{and_zero_l}
use Rattle.sk_world.proofs.Common.{cases_eq, cases_lt, nat_tests, get_or_past, length-set, bit_at-zero, bit_at_set_same, bit_at_set_other, bit_at_clear_same, bit_at_clear_other}
use Rattle.sk_world.specs.Summary.{IsSummed}
use Rattle.sk_world.proofs.Members.{has_bit-set_same, has_bit-set_other, member_below, none_between, no_member_above}

-- ---- bits of a list of words

pub bit_of_word : (words : List ℕ) (index bit : ℕ) → bit < 64 → has_bit words (index * 64 + bit) ≡ (bit_at (get_or words index 0) bit == 1)
bit_of_word words index bit fits =
    let i : (index * 64 + bit) / 64 ≡ index = omega arith in
    let j : (index * 64 + bit) % 64 ≡ bit = omega arith in
    λ k. bit_at (get_or words (i k) 0) (j k) == 1

pub no_bit_between : (words : List ℕ) (index first last : ℕ) → last ≤ 64 → ((i : ℕ) → first ≤ i → i < last → bit_at (get_or words index 0) i ≡ 0)
    → (n : ℕ) → index * 64 + first ≤ n → n < index * 64 + last → has_bit words n ≡ false
no_bit_between words index first last fits none n from below =
    let e : n ≡ index * 64 + (n - index * 64) = omega arith in
    ap (has_bit words) e ∙ bit_of_word words index (n - index * 64) (omega arith) ∙ ap (λ x. x == 1) (none (n - index * 64) (omega arith) (omega arith))

pub no_bit_past : (words : List ℕ) → length words ≡ 8 → (n : ℕ) → 512 ≤ n → has_bit words n ≡ false
no_bit_past words long n past = ap (λ w. bit_at w (n % 64) == 1) (get_or_past words (n / 64) 0 (omega (arith, long, past))) ∙ ap (λ x. x == 1) (bit_at-zero (n % 64))

-- ---- a word that is not inhabited

pub is_zero : (w : ℕ) (b : Bool) → b ≡ not (w == 0) → b ≡ false → w ≡ 0
is_zero w b is none = grind (arith, nat_tests, is, none)

pub is_some : (w : ℕ) (b : Bool) → b ≡ not (w == 0) → b ≡ true → w ≢ 0
is_some w b is some = grind (arith, nat_tests, is, some)

pub not_zero : (w : ℕ) → w ≢ 0 → not (w == 0) ≡ true
not_zero w some = grind (arith, nat_tests, some)

-- ---- bits that say which words are not 0

-- those below this number
abbrev Tells : (ℕ → Bool) → List ℕ → ℕ → Type 0
Tells has words size = (i : ℕ) → i < size → has i ≡ not (get_or words i 0 == 0)

-- where a word is written, its bit tells of it, and the others are as before
pub tells-written : (has after : ℕ → Bool) (words : List ℕ) (size i written : ℕ) → Tells has words size → i < length words → after i ≡ not (written == 0)
    → ((j : ℕ) → j < size → j ≢ i → after j ≡ has j) → Tells after (set words i written) size
tells-written has after words size i written tells there here others j below =
    elim (cases_eq j i) [
      | inl e ↦
          ap after e
          ∙ here
          ∙ ap (λ w. not (w == 0)) (sym (get_or-set_same words i written 0 there))
          ∙ ap (λ k. not (get_or (set words i written) k 0 == 0)) (sym e)
      | inr apart ↦ others j below apart ∙ tells j below ∙ ap (λ w. not (w == 0)) (sym (get_or-set_other words i j written 0 apart))
    ]

-- neither word was nor is 0
pub tells-kept : (has : ℕ → Bool) (words : List ℕ) (size i written : ℕ) → Tells has words size → i < length words → i < size → get_or words i 0 ≢ 0 → written ≢ 0
    → Tells has (set words i written) size
tells-kept has words size i written tells there low was some =
    tells-written has has words size i written tells there (tells i low ∙ not_zero (get_or words i 0) was ∙ sym (not_zero written some)) (λ j _ _. refl)

module _ (words inhabited : List ℕ) (summed : IsSummed words inhabited) where
  pub word_is_zero : (i : ℕ) → i < 512 → has_bit inhabited i ≡ false → get_or words i 0 ≡ 0
  word_is_zero i low none = is_zero (get_or words i 0) (has_bit inhabited i) (summed.sum i low) none

  pub word_is_some : (i : ℕ) → i < 512 → has_bit inhabited i ≡ true → get_or words i 0 ≢ 0
  word_is_some i low some = is_some (get_or words i 0) (has_bit inhabited i) (summed.sum i low) some

  pub no_member_in : (s : List ℕ) → members_of words ≡ s → (n : ℕ) → n < 32768 → has_bit inhabited (n / 64) ≡ false → contains s n ≡ false
  no_member_in s is n low none =
      member_below words s is n low
      ∙ ap (λ w. bit_at w (n % 64) == 1) (word_is_zero (n / 64) (omega (arith, low)) none)
      ∙ ap (λ x. x == 1) (bit_at-zero (n % 64))

  -- ---- one word is written

  module _ (i written : ℕ) (low : i < 512) where
    there : i < length words
    there = omega (arith, low, summed.long)

    long_still : length (set words i written) ≡ 512
    long_still = length-set words i written ∙ summed.long

    summed-written : (group : ℕ) → (bit_at group (i % 64) == 1) ≡ not (written == 0)
        → ((k : ℕ) → k < 64 → k ≢ i % 64 → bit_at group k ≡ bit_at (get_or inhabited (i / 64) 0) k) → IsSummed (set words i written) (set inhabited (i / 64) group)
    summed-written group here others =
        let within : i / 64 < length inhabited = omega (arith, low, summed.short) in
        record {
          long = long_still;
          short = length-set inhabited (i / 64) group ∙ summed.short;
          sum = tells-written (has_bit inhabited) (has_bit (set inhabited (i / 64) group)) words 512 i written summed.sum there
              (has_bit-set_same inhabited i group within ∙ here) (λ j _. has_bit-set_other inhabited i group within others j);
        }

    -- the bit of the word is set
    pub summed-insert : written ≢ 0 → IsSummed (set words i written) (set inhabited (i / 64) (bit_or (get_or inhabited (i / 64) 0) (1 * 2 ^ (i % 64) % 2 ^ 64)))
    summed-insert some =
        let group = get_or inhabited (i / 64) 0 in
        summed-written _ (ap (λ x. x == 1) (bit_at_set_same w64 group (i % 64) (omega arith)) ∙ sym (not_zero written some)) (λ k _. bit_at_set_other w64 group (i % 64) (omega arith) k)

    -- the bit of the word is cleared
    pub summed-clear : written ≡ 0 → IsSummed (set words i written) (set inhabited (i / 64) (bit_and (get_or inhabited (i / 64) 0) (bit_not w64 (1 * 2 ^ (i % 64) % 2 ^ 64))))
    summed-clear none =
        let group = get_or inhabited (i / 64) 0 in
        summed-written _ (ap (λ x. x == 1) (bit_at_clear_same w64 group (i % 64) (omega arith)) ∙ ap (λ w. not (w == 0)) (sym none)) (bit_at_clear_other w64 group (i % 64) (omega arith))

    -- neither word was nor is 0
    pub summed-kept : get_or words i 0 ≢ 0 → written ≢ 0 → IsSummed (set words i written) inhabited
    summed-kept was some = record {
      long = long_still;
      short = summed.short;
      sum = tells-kept (has_bit inhabited) words 512 i written summed.sum there low was some;
    }

-- a bit that was set leaves no word of zeros
pub set_is_some : (word bit : ℕ) → bit < 64 → bit_or word (1 * 2 ^ bit % 2 ^ 64) ≢ 0
set_is_some word bit fits none =
    absurd (omega (arith, sym (bit_at_set_same w64 word bit fits) ∙ ap (λ w. bit_at w bit) none ∙ bit_at-zero bit))

-- what is left of a word was there
pub left_was_some : (word mask : ℕ) → bit_and word mask ≢ 0 → word ≢ 0
left_was_some word mask some none = some (ap (λ w. bit_and w mask) none ∙ and_zero_l mask)

pub zeros : (n i : ℕ) → ◌≡◌ {A = ℕ} (get_or (replicate n 0) i 0) 0
zeros zero i = refl
zeros (suc n) zero = refl
zeros (suc n) (suc i) = zeros n i

pub summed-empty : IsSummed (replicate 512 0) (replicate 8 0)
summed-empty = record {
  long = refl;
  short = refl;
  sum = λ i low.
      ap (λ w. bit_at w (i % 64) == 1) (zeros 8 (i / 64))
      ∙ ap (λ x. x == 1) (bit_at-zero (i % 64))
      ∙ ap (λ w. not (w == 0)) (sym (zeros 512 i));
}

-- ---- the least member from a number on

module _ (words inhabited : List ℕ) (summed : IsSummed words inhabited) (s : List ℕ) (is : members_of words ≡ s) (start : ℕ) where
  -- no member stands from there to the end of its word
  none_in_word : start < 32768 → ((i : ℕ) → start % 64 ≤ i → bit_at (get_or words (start / 64) 0) i ≡ 0)
      → (n : ℕ) → start ≤ n → n < (start / 64 + 1) * 64 → contains s n ≡ false
  none_in_word low none n from below =
      none_between words s is (start / 64) (start % 64) 64 (omega (arith, low)) (omega arith) (λ i first _. none i first) n (omega (arith, from)) (omega (arith, below))

  -- nor in the words behind that are not inhabited
  none_behind : (last : ℕ) → last ≤ 512 → ((i : ℕ) → start / 64 + 1 ≤ i → i < last → has_bit inhabited i ≡ false)
      → (n : ℕ) → (start / 64 + 1) * 64 ≤ n → n < last * 64 → contains s n ≡ false
  none_behind last low none n from below =
      no_member_in words inhabited summed s is n (omega (arith, below, low)) (none (n / 64) (omega (arith, from)) (omega (arith, below)))

  pub none_above : start < 32768 → ((i : ℕ) → start % 64 ≤ i → bit_at (get_or words (start / 64) 0) i ≡ 0)
      → ((i : ℕ) → start / 64 + 1 ≤ i → has_bit inhabited i ≡ false) → (n : ℕ) → start ≤ n → contains s n ≡ false
  none_above low here behind n from =
      elim (cases_lt n ((start / 64 + 1) * 64)) [
        | inl early ↦ none_in_word low here n from early
        | inr late ↦ elim (cases_lt n 32768) [
          | inl within ↦ none_behind 512 (omega arith) (λ i first _. behind i first) n late (omega (arith, within))
          | inr high ↦ no_member_above words s is n high
        ]
      ]

  pub none_before : start < 32768 → ((i : ℕ) → start % 64 ≤ i → bit_at (get_or words (start / 64) 0) i ≡ 0)
      → (index bit : ℕ) → index < 512 → bit < 64 → ((i : ℕ) → start / 64 + 1 ≤ i → i < index → has_bit inhabited i ≡ false)
      → ((i : ℕ) → i < bit → bit_at (get_or words index 0) i ≡ 0)
      → (n : ℕ) → start ≤ n → n < index * 64 + bit → contains s n ≡ false
  none_before low here index bit within fits behind none n from below =
      elim (cases_lt n ((start / 64 + 1) * 64)) [
        | inl early ↦ none_in_word low here n from early
        | inr late ↦ elim (cases_lt n (index * 64)) [
          | inl between ↦ none_behind index (omega (arith, within)) behind n late between
          | inr last ↦ none_between words s is index 0 bit within (omega (arith, fits)) (λ i _ early. none i early) n (omega (arith, last)) below
        ]
      ]
