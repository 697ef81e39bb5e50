-- The numbers of a listing are words, and are read as they were written.
use Rattle.std.proofs.Common.{◌≡◌, ◌<◌, ◌≤◌, ◌+◌, ◌-◌, ◌*◌, ◌/◌, ◌%◌, ◌^◌, ◌∙◌, ap, arith, refl, sym, ℕ, List, [], ◌∷◌, true, false, length, get_or, map, codes, Some, inl, inr}
use Rattle.std.proofs.lemmas.Bool.{and_from, and_left, and_right, cases_lt, le-leb, le-ltb, lt-ltb, ne_eqb}
use Rattle.std.proofs.lemmas.Fmt.{decimal_is_IsNumeral, length-decimal-le}
use Rattle.std.proofs.lemmas.List.{get_or-map}
use Rattle.std.proofs.lemmas.List.FromFn.{get_or-range_with_len}
use Rattle.std.proofs.lemmas.Nat.{from_be_bytes-to_be_bytes_2, from_be_bytes-to_be_bytes_4}
use Rattle.std.specs.Prelude.{nat_eq, nat_le, nat_lt, slice_index}
use Rattle.std.specs.Char.{digit_value}
use Rattle.std.specs.Fmt.{decimal}
use Rattle.std.specs.Int.{to_be_bytes, w16, w32}
use Rattle.std.specs.List.{AllByRecursion, list_all, range_with_len, starts_with}
use Rattle.std.specs.Slice.Scan.{big_endian}
use Rattle.std.specs.Str.Parse.{AllDigits, IsNumeral, digits_value, digits_value_after}
use Rattle.hex.specs.Hex.{encode_with, lower_digits}
use Rattle.hex.proofs.HexLemmas.{length-encode_with}
use Rattle.sk_text.specs.Hexadecimal.{hex_half, hex_word}
use Rattle.sk_text.specs.Numbers.{is_digit_in, number_in, number_of, up_to}
use Rattle.sk_text.proofs.Cuts.{bytes_some}
use Rattle.sk_text.proofs.Reading.{up_to-within}
use Rattle.sk_asm.specs.Grammar.{Further, u8_of, destination_of, u16_of, u32_of}
use Rattle.sk_asm.specs.Listing.{distance_word, half_digits, word_digits}
use Rattle.sk_asm.proofs.Words.{IsWord, is_visible}

-- ---- digits

digit-visible : (digit : ℕ) → digit_value digit < 36 → is_visible digit ≡ true
digit-visible digit h = elim (cases_lt digit 48) [
  | inl low ↦
      let t = lt-ltb digit 48 low in
      let none : digit_value digit ≡ 36 = rw t refl in
      absurd (omega (arith, none))
  | inr some ↦ elim (cases_lt digit 123) [
    | inl below ↦ and_from (nat_lt 32 digit) (nat_le digit 126) (lt-ltb 32 digit (omega arith)) (le-leb digit 126 (omega arith))
    | inr high ↦
        let a = le-ltb digit 48 some in
        let b = le-ltb digit 58 (omega arith) in
        let c = le-ltb digit 65 (omega arith) in
        let d = le-ltb digit 91 (omega arith) in
        let e = le-ltb digit 97 (omega arith) in
        let f = le-ltb digit 123 high in
        let none : digit_value digit ≡ 36 = rw (a, b, c, d, e, f) refl in
        absurd (omega (arith, none))
  ]
]

digits-visible : (radix : ℕ) (digits : List ℕ) → radix ≤ 36 → AllDigits radix digits → list_all is_visible digits ≡ true
digits-visible radix [] h all = refl
digits-visible radix (digit ∷ digits) h all =
    let small = all.0 in
    and_from (is_visible digit) (list_all is_visible digits) (digit-visible digit (omega arith)) (digits-visible radix digits h all.1)

digits-pass : (radix : ℕ) (digits : List ℕ) → AllDigits radix digits → list_all (is_digit_in radix) digits ≡ true
digits-pass radix [] all = refl
digits-pass radix (digit ∷ digits) all =
    and_from (is_digit_in radix digit) (list_all (is_digit_in radix) digits) (lt-ltb (digit_value digit) radix all.0) (digits-pass radix digits all.1)

number_in-numeral : (radix : ℕ) (digits : List ℕ) → IsNumeral radix digits → number_in radix digits ≡ Some (digits_value radix digits)
number_in-numeral radix digits h =
    let some = bytes_some digits h.0 in
    let pass = digits-pass radix digits h.1 in
    rw (some, pass) refl

-- ---- decimal numbers

no_prefix : (digits : List ℕ) → AllDigits 10 digits → starts_with nat_eq digits (codes "0x") ≡ false
no_prefix [] all = refl
no_prefix (first ∷ []) all = and_right (nat_eq 48 first) false refl
no_prefix (first ∷ (second ∷ digits)) all =
    let small = all.1.0 in
    let other : nat_eq 120 second ≡ false = ne_eqb 120 second (λ same. let large = rw (← same) at small in omega arith) in
    and_right _ _ (and_left _ _ other)

number_of-digits : (digits : List ℕ) → IsNumeral 10 digits → number_of digits ≡ Some (digits_value 10 digits)
unfolding number_of
number_of-digits digits h = let none = no_prefix digits h.1 in rw none (number_in-numeral 10 digits h)

pub number_of-decimal : (n : ℕ) → n < 2 ^ 32 → number_of (decimal n) ≡ Some n
number_of-decimal n h =
    let numeral = decimal_is_IsNumeral n (omega arith) in
    number_of-digits (decimal n) numeral.0 ∙ ap Some numeral.1

pub IsWord-decimal : (n : ℕ) → n < 2 ^ 32 → IsWord (decimal n)
IsWord-decimal n h =
    let numeral = decimal_is_IsNumeral n (omega arith) in
    let short = length-decimal-le 10 n (omega arith) (omega arith) (omega arith) in
    record { some = numeral.0.0; short = omega arith; visible = digits-visible 10 (decimal n) (omega arith) numeral.0.1 }

-- ---- hexadecimal numbers

-- the sixteen digits have their values
values : map digit_value lower_digits ≡ range_with_len 0 16
values = refl

lower_digit-value : (d : ℕ) → d < 16 → digit_value (slice_index lower_digits d) ≡ d
lower_digit-value d h =
    sym (get_or-map digit_value lower_digits d 0 0 h) ∙ ap (λ (l : List ℕ). get_or l d 0) values ∙ get_or-range_with_len 0 16 d 0 h ∙ omega arith

abbrev AreBytes : List ℕ → Type 0
AreBytes bytes = AllByRecursion (λ byte. byte < 256) bytes

encoded-digits : (bytes : List ℕ) → AreBytes bytes → AllDigits 16 (encode_with lower_digits bytes)
unfolding encode_with
encoded-digits [] h = tt
encoded-digits (byte ∷ bytes) h =
    let fits = h.0 in
    let high = lower_digit-value (byte / 16) (omega arith) in
    let low = lower_digit-value (byte % 16) (omega arith) in
    (omega arith, (omega arith, encoded-digits bytes h.1))

encoded-value : (value : ℕ) (bytes : List ℕ) → AreBytes bytes → digits_value_after 16 value (encode_with lower_digits bytes) ≡ big_endian value bytes
unfolding encode_with
encoded-value value [] h = refl
encoded-value value (byte ∷ bytes) h =
    let fits = h.0 in
    let high = lower_digit-value (byte / 16) (omega arith) in
    let low = lower_digit-value (byte % 16) (omega arith) in
    let two : (value * 16 + digit_value (slice_index lower_digits (byte / 16))) * 16 + digit_value (slice_index lower_digits (byte % 16)) ≡ value * 256 + byte = omega arith in
    ap (λ (v : ℕ). digits_value_after 16 v (encode_with lower_digits bytes)) two ∙ encoded-value (value * 256 + byte) bytes h.1

-- the digits behind `0x`
number_of-hex : (digits : List ℕ) → IsNumeral 16 digits → number_of (48 ∷ (120 ∷ digits)) ≡ Some (digits_value 16 digits)
unfolding number_of
number_of-hex digits h = number_in-numeral 16 digits h

IsWord-hex : (digits : List ℕ) → IsNumeral 16 digits → length digits ≤ 9 → IsWord (48 ∷ (120 ∷ digits))
IsWord-hex digits h short = record { some = omega arith; short = omega arith; visible = digits-visible 16 digits (omega arith) h.1 }

bytes_4 : (n : ℕ) → AreBytes (to_be_bytes w32 n)
bytes_4 n = (omega arith, (omega arith, (omega arith, (omega arith, tt))))

bytes_2 : (n : ℕ) → AreBytes (to_be_bytes w16 n)
bytes_2 n = (omega arith, (omega arith, tt))

hex_word-numeral : (n : ℕ) → IsNumeral 16 (hex_word n) × (length (hex_word n) ≡ 8)
unfolding hex_word
hex_word-numeral n =
    let len : length (hex_word n) ≡ 8 = length-encode_with lower_digits (to_be_bytes w32 n) in
    ((omega arith, encoded-digits (to_be_bytes w32 n) (bytes_4 n)), len)

hex_half-numeral : (n : ℕ) → IsNumeral 16 (hex_half n) × (length (hex_half n) ≡ 4)
unfolding hex_half
hex_half-numeral n =
    let len : length (hex_half n) ≡ 4 = length-encode_with lower_digits (to_be_bytes w16 n) in
    ((omega arith, encoded-digits (to_be_bytes w16 n) (bytes_2 n)), len)

hex_word-value : (n : ℕ) → n < 2 ^ 32 → digits_value 16 (hex_word n) ≡ n
unfolding hex_word
hex_word-value n h =
    let same = from_be_bytes-to_be_bytes_4 n h in
    encoded-value 0 (to_be_bytes w32 n) (bytes_4 n) ∙ omega (arith, same)

hex_half-value : (n : ℕ) → n < 2 ^ 16 → digits_value 16 (hex_half n) ≡ n
unfolding hex_half
hex_half-value n h =
    let same = from_be_bytes-to_be_bytes_2 n h in
    encoded-value 0 (to_be_bytes w16 n) (bytes_2 n) ∙ omega (arith, same)

pub IsWord-word_digits : (n : ℕ) → IsWord (word_digits n)
IsWord-word_digits n = let numeral = hex_word-numeral n in IsWord-hex (hex_word n) numeral.0 (omega arith)

pub IsWord-half_digits : (n : ℕ) → IsWord (half_digits n)
IsWord-half_digits n = let numeral = hex_half-numeral n in IsWord-hex (hex_half n) numeral.0 (omega arith)

-- ---- fields

pub u8_of-decimal : (n : ℕ) → n < 2 ^ 8 → u8_of (decimal n) ≡ Some n
u8_of-decimal n h = ap (up_to (2 ^ 8 - 1)) (number_of-decimal n (omega arith)) ∙ up_to-within (2 ^ 8 - 1) n (omega arith)

pub u32_of-decimal : (n : ℕ) → n < 2 ^ 32 → u32_of (decimal n) ≡ Some n
u32_of-decimal n h = ap (up_to (2 ^ 32 - 1)) (number_of-decimal n h) ∙ up_to-within (2 ^ 32 - 1) n (omega arith)

pub u32_of-digits : (n : ℕ) → n < 2 ^ 32 → u32_of (word_digits n) ≡ Some n
u32_of-digits n h =
    ap (up_to (2 ^ 32 - 1)) (number_of-hex (hex_word n) (hex_word-numeral n).0 ∙ ap Some (hex_word-value n h)) ∙ up_to-within (2 ^ 32 - 1) n (omega arith)

pub u16_of-digits : (n : ℕ) → n < 2 ^ 16 → u16_of (half_digits n) ≡ Some n
u16_of-digits n h =
    ap (up_to (2 ^ 16 - 1)) (number_of-hex (hex_half n) (hex_half-numeral n).0 ∙ ap Some (hex_half-value n h)) ∙ up_to-within (2 ^ 16 - 1) n (omega arith)

-- ---- distances

pub IsWord-distance : (n : ℕ) → n < 2 ^ 32 → IsWord (distance_word n)
IsWord-distance n h =
    let numeral = decimal_is_IsNumeral n (omega arith) in
    let short = length-decimal-le 10 n (omega arith) (omega arith) (omega arith) in
    record { some = omega arith; short = omega arith; visible = digits-visible 10 (decimal n) (omega arith) numeral.0.1 }

pub near-distance : (n : ℕ) → n < 2 ^ 8 → destination_of u8_of (distance_word n) ≡ Some (Further n)
unfolding destination_of
near-distance n h = let read = u8_of-decimal n h in rw read refl

pub far-distance : (n : ℕ) → n < 2 ^ 32 → destination_of u32_of (distance_word n) ≡ Some (Further n)
unfolding destination_of
far-distance n h = let read = u32_of-decimal n h in rw read refl
