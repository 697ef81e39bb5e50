-- Numbers are read as they were written.
use Rattle.std.proofs.Common.{◌≡◌, ◌<◌, ◌≤◌, ◌+◌, ◌-◌, ◌*◌, ◌/◌, ◌%◌, ◌^◌, ◌==◌, ◌&&◌, ◌∙◌, ap, arith, refl, sym, ℕ, zero, suc, List, [], ◌∷◌, Bool, true, false, not, length, get_or, map, codes, Some, inl, inr}
use Rattle.std.proofs.lemmas.Bool.{and_from, and_left, and_right, cases_Bool, cases_lt, false≢true, le-leb, le-ltb, lt-ltb, ne_eqb, not_from_true, or_left, or_right}
use Rattle.std.proofs.lemmas.Fmt.{decimal_is_IsNumeral, digits_is_IsNumeral, first_decimal}
use Rattle.std.proofs.lemmas.List.{get_or-map}
use Rattle.std.proofs.lemmas.List.FromFn.{get_or-range_with_len}
use Rattle.std.proofs.lemmas.List.Sums.{AllPass-from_list_all}
use Rattle.std.proofs.lemmas.Str.Parse.{digit_from_value}
use Rattle.std.proofs.lemmas.Nat.{from_be_bytes-to_be_bytes_4}
use Rattle.std.specs.Prelude.{nat_eq, nat_le, nat_lt, slice_index}
use Rattle.std.specs.Char.{digit_value}
use Rattle.std.specs.Fmt.{decimal, digits}
use Rattle.std.specs.Int.{to_be_bytes, w32}
use Rattle.std.specs.List.{AllByRecursion, list_all, range_with_len, starts_with}
use Rattle.std.specs.Slice.Scan.{big_endian}
use Rattle.std.specs.Str.Parse.{AllDigits, IsNumeral, digits_value, digits_value_after}
use Rattle.hex.specs.Hex.{encode_with, lower_digits}
use Rattle.hex.proofs.HexLemmas.{length-encode_with}
use Rattle.sk_text.specs.Hexadecimal.{hex_word}
use Rattle.sk_text.specs.Numbers.{is_digit_in, number_in, number_of}
use Rattle.sk_text.proofs.Cuts.{bytes_some}
use Rattle.sk_text.proofs.Reading.{up_to-within}
use Rattle.sk_forms.specs.declared.token.Token.TheVariants.{Decimal, Hexadecimal}
use Rattle.sk_forms.specs.Tokens.{decimal as decimal_token, hexadecimal, is_letter_behind, number_token, token_of, without_letter}
use Rattle.sk_forms.specs.Words.{is_word_byte}
use Rattle.sk_forms.proofs.Pieces.{not_same}

-- ---- digits

digit_byte : (digit : ℕ) → digit_value digit < 36 → is_word_byte digit ≡ true
unfolding is_word_byte
digit_byte digit h = elim (cases_lt digit 48) [
  | inl low ↦
      let t = lt-ltb digit 48 low in
      let none : digit_value digit ≡ 36 = rw t refl in
      absurd (omega (arith, none))
  | inr some ↦ elim (cases_lt digit 58) [
    | inl below ↦
        let a = le-leb 48 digit some in
        let b = le-leb digit 57 (omega arith) in
        or_left _ _ (or_right _ _ (and_from (nat_le 48 digit) (nat_le digit 57) a b))
    | inr past ↦ elim (cases_lt digit 65) [
      | inl below ↦
          let a = le-ltb digit 48 some in
          let b = le-ltb digit 58 past in
          let c = lt-ltb digit 65 below in
          let none : digit_value digit ≡ 36 = rw (a, b, c) refl in
          absurd (omega (arith, none))
      | inr capital ↦ elim (cases_lt digit 91) [
        | inl below ↦
            let a = le-leb 65 digit capital in
            let b = le-leb digit 90 (omega arith) in
            or_left _ _ (or_left _ _ (or_right _ _ (and_from (nat_le 65 digit) (nat_le digit 90) a b)))
        | inr behind ↦ elim (cases_lt digit 97) [
          | inl below ↦
              let a = le-ltb digit 48 some in
              let b = le-ltb digit 58 past in
              let c = le-ltb digit 65 capital in
              let d = le-ltb digit 91 behind in
              let e = lt-ltb digit 97 below in
              let none : digit_value digit ≡ 36 = rw (a, b, c, d, e) refl in
              absurd (omega (arith, none))
          | inr small ↦ elim (cases_lt digit 123) [
            | inl below ↦
                let a = le-leb 97 digit small in
                let b = le-leb digit 122 (omega arith) in
                or_left _ _ (or_left _ _ (or_left _ _ (and_from (nat_le 97 digit) (nat_le digit 122) a b)))
            | inr high ↦
                let a = le-ltb digit 48 some in
                let b = le-ltb digit 58 past in
                let c = le-ltb digit 65 capital in
                let d = le-ltb digit 91 behind in
                let e = le-ltb digit 97 small in
                let f = le-ltb digit 123 high in
                let none : digit_value digit ≡ 36 = rw (a, b, c, d, e, f) refl in
                absurd (omega (arith, none))
          ]
        ]
      ]
    ]
  ]
]

pub digits_bytes : (radix : ℕ) (digits : List ℕ) → radix ≤ 36 → AllDigits radix digits → list_all is_word_byte digits ≡ true
digits_bytes radix [] h all = refl
digits_bytes radix (digit ∷ digits) h all =
    let small = all.0 in
    and_from (is_word_byte digit) (list_all is_word_byte digits) (digit_byte digit (omega arith)) (digits_bytes radix digits h all.1)

digits_pass : (radix : ℕ) (digits : List ℕ) → AllDigits radix digits → list_all (is_digit_in radix) digits ≡ true
digits_pass radix [] all = refl
digits_pass radix (digit ∷ digits) all =
    and_from (is_digit_in radix digit) (list_all (is_digit_in radix) digits) (lt-ltb (digit_value digit) radix all.0) (digits_pass radix digits all.1)

numeral_read : (radix : ℕ) (digits : List ℕ) → IsNumeral radix digits → number_in radix digits ≡ Some (digits_value radix digits)
numeral_read radix digits h =
    let some = bytes_some digits h.0 in
    let pass = digits_pass radix digits h.1 in
    rw (some, pass) refl

-- ---- suffixes

-- no digit is a letter of a suffix of C
abbrev is_of_number : ℕ → Bool
is_of_number byte = not (is_letter_behind byte)

digit_of_number : (digit : ℕ) → digit_value digit < 16 → is_of_number digit ≡ true
unfolding is_letter_behind
digit_of_number digit h =
    let t = lt-ltb (digit_value digit) 16 h in
    let a = not_same (is_digit_in 16) digit 117 t refl in
    let b = not_same (is_digit_in 16) digit 85 t refl in
    let c = not_same (is_digit_in 16) digit 108 t refl in
    let d = not_same (is_digit_in 16) digit 76 t refl in
    rw (a, b, c, d) refl

digits_of_number : (radix : ℕ) (digits : List ℕ) → radix ≤ 16 → AllDigits radix digits → list_all is_of_number digits ≡ true
digits_of_number radix [] h all = refl
digits_of_number radix (digit ∷ digits) h all =
    let small = all.0 in
    and_from (is_of_number digit) (list_all is_of_number digits) (digit_of_number digit (omega arith)) (digits_of_number radix digits h all.1)

no_letter : (byte : ℕ) → is_of_number byte ≡ true → is_letter_behind byte ≡ false
no_letter byte t = elim (cases_Bool (is_letter_behind byte)) [
  | inl letter ↦ absurd (false≢true (sym (not_from_true (is_letter_behind byte) letter) ∙ t))
  | inr f ↦ f
]

no_suffix : (word : List ℕ) → 0 < length word → list_all is_of_number word ≡ true → without_letter word ≡ word
unfolding without_letter
no_suffix word some all =
    let none = no_letter _ (AllPass-from_list_all is_of_number word all (length word - 1) 0 (omega arith)) in
    rw none refl

-- ---- decimal numbers

no_prefix : (digits : List ℕ) → AllDigits 10 digits → starts_with nat_eq digits (codes "0x") ≡ false
no_prefix [] all = refl
no_prefix (first ∷ []) all = and_right (nat_eq 48 first) false refl
no_prefix (first ∷ (second ∷ digits)) all =
    let small = all.1.0 in
    let other : nat_eq 120 second ≡ false = ne_eqb 120 second (λ same. let large = rw (← same) at small in omega arith) in
    and_right _ _ (and_left _ _ other)

decimal_digits : (n : ℕ) → n < 2 ^ 32 → IsNumeral 10 (decimal n)
decimal_digits n h = (decimal_is_IsNumeral n (omega arith)).0

decimal_value : (n : ℕ) → n < 2 ^ 32 → number_of (decimal n) ≡ Some n
unfolding number_of
decimal_value n h =
    let numeral = decimal_is_IsNumeral n (omega arith) in
    let none = no_prefix (decimal n) numeral.0.1 in
    rw none (numeral_read 10 (decimal n) numeral.0 ∙ ap Some numeral.1)

-- no 0 stands before more digits
no_zero : (n : ℕ) → n < 2 ^ 32 → (nat_lt 1 (length (decimal n)) && slice_index (decimal n) 0 == 48) ≡ false
unfolding digits
no_zero zero h = refl
no_zero (suc n) h =
    let above = first_decimal (suc n) (omega arith) (omega arith) in
    and_right (nat_lt 1 (length (decimal (suc n)))) (slice_index (decimal (suc n)) 0 == 48) (ne_eqb (slice_index (decimal (suc n)) 0) 48 (λ same. omega arith))

decimal_number : (n : ℕ) → n < 2 ^ 32 → number_token (decimal n) ≡ Decimal n
unfolding number_token decimal_token
decimal_number n h =
    let numeral = decimal_digits n h in
    let same = no_suffix (decimal n) numeral.0 (digits_of_number 10 (decimal n) (omega arith) numeral.1) in
    let plain = no_prefix (decimal n) numeral.1 in
    let unpadded = no_zero n h in
    let value = decimal_value n h in
    let within = up_to-within 4294967295 n (omega arith) in
    rw (same, same, same, plain, unpadded, value, within) refl

-- a word that begins with a digit is a number
begins_number : (word : List ℕ) → 0 < length word → AllDigits 10 word → token_of word ≡ number_token word
unfolding token_of
begins_number [] some all = absurd (omega arith)
begins_number (first ∷ rest) some all =
    let digit = digit_from_value first all.0 in
    let low = le-leb 48 first (omega (arith, digit)) in
    let high = le-leb first 57 (omega (arith, digit)) in
    rw (low, high) refl

pub decimal_read : (n : ℕ) → n < 2 ^ 32 → token_of (decimal n) ≡ Decimal n
decimal_read n h = let numeral = decimal_digits n h in begins_number (decimal n) numeral.0 numeral.1 ∙ decimal_number n h

pub decimal_some : (n : ℕ) → n < 2 ^ 32 → 0 < length (decimal n)
decimal_some n h = (decimal_digits n h).0

pub decimal_word : (n : ℕ) → n < 2 ^ 32 → list_all is_word_byte (decimal n) ≡ true
decimal_word n h = digits_bytes 10 (decimal n) (omega arith) (decimal_digits n h).1

-- ---- hexadecimal numbers

hexadecimal_value : (digits : List ℕ) → IsNumeral 16 digits → number_of (48 ∷ 120 ∷ digits) ≡ Some (digits_value 16 digits)
unfolding number_of
hexadecimal_value digits h = numeral_read 16 digits h

pub hexadecimal_read : (digits : List ℕ) (n : ℕ) → IsNumeral 16 digits → digits_value 16 digits ≡ n → n < 2 ^ 32 → token_of (48 ∷ 120 ∷ digits) ≡ Hexadecimal n
unfolding token_of number_token hexadecimal is_letter_behind
hexadecimal_read digits n numeral is h =
    let same = no_suffix (48 ∷ 120 ∷ digits) (omega arith) (digits_of_number 16 digits (omega arith) numeral.1) in
    let value = hexadecimal_value digits numeral ∙ ap Some is in
    let within = up_to-within 4294967295 n (omega arith) in
    rw (same, same, same, value, within) refl

pub hexadecimal_word : (digits : List ℕ) → IsNumeral 16 digits → list_all is_word_byte (48 ∷ 120 ∷ digits) ≡ true
unfolding is_word_byte
hexadecimal_word digits numeral = digits_bytes 16 digits (omega arith) numeral.1

-- the digits of `{:x}`
pub short_digits : (n : ℕ) → n < 2 ^ 32 → IsNumeral 16 (digits 16 false n) × (digits_value 16 (digits 16 false n) ≡ n)
short_digits n h = digits_is_IsNumeral 16 false (omega arith) (omega arith) n (omega arith)

-- ---- eight digits

-- the sixteen digits have their values
values : map digit_value lower_digits ≡ range_with_len 0 16
values = refl

lower_digit-value : (d : ℕ) → d < 16 → digit_value (slice_index lower_digits d) ≡ d
lower_digit-value d h =
    sym (get_or-map digit_value lower_digits d 0 0 h) ∙ ap (λ (l : List ℕ). get_or l d 0) values ∙ get_or-range_with_len 0 16 d 0 h ∙ omega arith

abbrev AreBytes : List ℕ → Type 0
AreBytes bytes = AllByRecursion (λ byte. byte < 256) bytes

encoded-digits : (bytes : List ℕ) → AreBytes bytes → AllDigits 16 (encode_with lower_digits bytes)
unfolding encode_with
encoded-digits [] h = tt
encoded-digits (byte ∷ bytes) h =
    let fits = h.0 in
    let high = lower_digit-value (byte / 16) (omega arith) in
    let low = lower_digit-value (byte % 16) (omega arith) in
    (omega arith, (omega arith, encoded-digits bytes h.1))

encoded-value : (value : ℕ) (bytes : List ℕ) → AreBytes bytes → digits_value_after 16 value (encode_with lower_digits bytes) ≡ big_endian value bytes
unfolding encode_with
encoded-value value [] h = refl
encoded-value value (byte ∷ bytes) h =
    let fits = h.0 in
    let high = lower_digit-value (byte / 16) (omega arith) in
    let low = lower_digit-value (byte % 16) (omega arith) in
    let two : (value * 16 + digit_value (slice_index lower_digits (byte / 16))) * 16 + digit_value (slice_index lower_digits (byte % 16)) ≡ value * 256 + byte = omega arith in
    ap (λ (v : ℕ). digits_value_after 16 v (encode_with lower_digits bytes)) two ∙ encoded-value (value * 256 + byte) bytes h.1

four_bytes : (n : ℕ) → AreBytes (to_be_bytes w32 n)
four_bytes n = (omega arith, (omega arith, (omega arith, (omega arith, tt))))

pub long_digits : (n : ℕ) → n < 2 ^ 32 → IsNumeral 16 (hex_word n) × (digits_value 16 (hex_word n) ≡ n)
unfolding hex_word
long_digits n h =
    let len : length (hex_word n) ≡ 8 = length-encode_with lower_digits (to_be_bytes w32 n) in
    let same = from_be_bytes-to_be_bytes_4 n h in
    ((omega arith, encoded-digits (to_be_bytes w32 n) (four_bytes n)), encoded-value 0 (to_be_bytes w32 n) (four_bytes n) ∙ omega (arith, same))
