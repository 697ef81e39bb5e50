-- The bits of one word that say which words of a list have a bit.
use Rattle.std.proofs.Common.{◌≡◌, ◌≢◌, ◌∙◌, ◌+◌, ◌*◌, ◌/◌, ◌%◌, ◌^◌, ◌<◌, ◌≤◌, ◌==◌, ℕ, arith, ap, sym, false, not, List, length, get_or, set, inl, inr, bit_and, bit_or, w64, replicate}
use Rattle.sk_world.specs.Common.{bit_at, bit_not, has_bit}
use Rattle.sk_world.proofs.Common.{cases_lt, get_or_past, bit_at-zero, bit_at_set_same, bit_at_set_other, bit_at_clear_same, bit_at_clear_other}
use Rattle.sk_world.specs.Summary.{IsMarked}
use Rattle.sk_world.proofs.Summing.{is_zero, is_some, not_zero, zeros, no_bit_between, no_bit_past, tells-written, tells-kept}

pub marked-empty : IsMarked (replicate 8 0) 0
marked-empty i low =
    ap (λ x. x == 1) (bit_at-zero i)
    ∙ ap (λ w. not (w == 0)) (sym (zeros 8 i))

module _ (words : List ℕ) (marks : ℕ) (marked : IsMarked words marks) where
  pub word_is_zero : (i : ℕ) → i < 64 → bit_at marks i ≡ 0 → get_or words i 0 ≡ 0
  word_is_zero i low none = is_zero (get_or words i 0) (bit_at marks i == 1) (marked i low) (ap (λ x. x == 1) none)

  pub word_is_some : (i : ℕ) → i < 64 → bit_at marks i ≡ 1 → get_or words i 0 ≢ 0
  word_is_some i low some = is_some (get_or words i 0) (bit_at marks i == 1) (marked i low) (ap (λ x. x == 1) some)

  -- a word with a mark is there
  pub is_there : (i : ℕ) → i < 64 → bit_at marks i ≡ 1 → i < length words
  is_there i low some =
      elim (cases_lt i (length words)) [
        | inl there ↦ there
        | inr past ↦ absurd (word_is_some i low some (get_or_past words i 0 past))
      ]

  -- ---- one word is written

  module _ (i written : ℕ) (low : i < 64) (there : i < length words) where
    pub marked-insert : written ≢ 0 → IsMarked (set words i written) (bit_or marks (1 * 2 ^ i % 2 ^ 64))
    marked-insert some =
        tells-written (λ j. bit_at marks j == 1) (λ j. bit_at (bit_or marks (1 * 2 ^ i % 2 ^ 64)) j == 1) words 64 i written marked there
        (ap (λ x. x == 1) (bit_at_set_same w64 marks i low) ∙ sym (not_zero written some))
        (λ j _ apart. ap (λ x. x == 1) (bit_at_set_other w64 marks i low j apart))

    pub marked-clear : written ≡ 0 → IsMarked (set words i written) (bit_and marks (bit_not w64 (1 * 2 ^ i % 2 ^ 64)))
    marked-clear none =
        tells-written (λ j. bit_at marks j == 1) (λ j. bit_at (bit_and marks (bit_not w64 (1 * 2 ^ i % 2 ^ 64))) j == 1) words 64 i written marked there
        (ap (λ x. x == 1) (bit_at_clear_same w64 marks i low) ∙ ap (λ w. not (w == 0)) (sym none))
        (λ j below apart. ap (λ x. x == 1) (bit_at_clear_other w64 marks i low j below apart))

    -- neither word was nor is 0
    pub marked-kept : get_or words i 0 ≢ 0 → written ≢ 0 → IsMarked (set words i written) marks
    marked-kept = tells-kept (λ j. bit_at marks j == 1) words 64 i written marked there low

  -- ---- the least bit from a number on

  module _ (short : length words ≡ 8) (start : ℕ) (low : start < 512) (here : (i : ℕ) → start % 64 ≤ i → bit_at (get_or words (start / 64) 0) i ≡ 0) where
    -- none stands from there to the end of its word
    none_in_word : (n : ℕ) → start ≤ n → n < (start / 64 + 1) * 64 → has_bit words n ≡ false
    none_in_word n from below =
        no_bit_between words (start / 64) (start % 64) 64 (omega arith) (λ i first _. here i first) n (omega (arith, from)) (omega (arith, below))

    -- nor in the words behind that have no mark
    none_behind : (last : ℕ) → last ≤ 8 → ((i : ℕ) → start / 64 + 1 ≤ i → i < last → bit_at marks i ≡ 0)
        → (n : ℕ) → (start / 64 + 1) * 64 ≤ n → n < last * 64 → has_bit words n ≡ false
    none_behind last high none n from below =
        ap (λ w. bit_at w (n % 64) == 1) (word_is_zero (n / 64) (omega (arith, below, high)) (none (n / 64) (omega (arith, from)) (omega (arith, below))))
        ∙ ap (λ x. x == 1) (bit_at-zero (n % 64))

    pub none_from : ((i : ℕ) → start / 64 + 1 ≤ i → bit_at marks i ≡ 0) → (n : ℕ) → start ≤ n → has_bit words n ≡ false
    none_from behind n from =
        elim (cases_lt n ((start / 64 + 1) * 64)) [
          | inl early ↦ none_in_word n from early
          | inr late ↦ elim (cases_lt n 512) [
            | inl within ↦ none_behind 8 (omega arith) (λ i first _. behind i first) n late (omega (arith, within))
            | inr past ↦ no_bit_past words short n past
          ]
        ]

    pub none_until : (index bit : ℕ) → index < 8 → bit < 64 → ((i : ℕ) → start / 64 + 1 ≤ i → i < index → bit_at marks i ≡ 0)
        → ((i : ℕ) → i < bit → bit_at (get_or words index 0) i ≡ 0)
        → (n : ℕ) → start ≤ n → n < index * 64 + bit → has_bit words n ≡ false
    none_until index bit within fits behind none n from below =
        elim (cases_lt n ((start / 64 + 1) * 64)) [
          | inl early ↦ none_in_word n from early
          | inr late ↦ elim (cases_lt n (index * 64)) [
            | inl between ↦ none_behind index (omega (arith, within)) behind n late between
            | inr last ↦ no_bit_between words index 0 bit (omega (arith, fits)) (λ i _ early. none i early) n (omega (arith, last)) below
          ]
        ]
