-- The letters of an image in base64.
use Rattle.std.proofs.Common.{◌≡◌, ◌<◌, ◌≤◌, ◌+◌, ◌-◌, ◌*◌, ◌/◌, ◌%◌, ◌&&◌, ◌||◌, ◌∙◌, ap, arith, refl, sym, inl, inr, ℕ, zero, suc, List, [], ◌∷◌, Bool, true, false, not, length, take, drop}
use Rattle.std.proofs.lemmas.Bool.{and_from, and_left, and_parts, and_right, cases_eq}
use Rattle.std.proofs.lemmas.List.{get_or-drop, get_or-take, length-drop}
use Rattle.std.proofs.lemmas.List.Folds.{list_all-append}
use Rattle.std.proofs.lemmas.List.Sums.{AllPass-from_list_all}
use Rattle.std.specs.Prelude.{nat_le, replicate, slice_index}
use Rattle.std.specs.List.{list_all}
use Rattle.base64.specs.Engines.{standard}
use Rattle.base64.specs.GeneralPurpose.{encode_of, engine_symbols}
use Rattle.base64.specs.Rfc4648.{encode_symbols, padding_len}
use Rattle.base64.proofs.RoundTrip.{encode_split}
use Rattle.sk_text.specs.Numbers.{is_digit_in}
use Rattle.sk_forms.proofs.Pieces.{all_joined}

-- the 64 letters
abbrev pub alphabet : List ℕ
alphabet = engine_symbols standard

-- ---- what all letters pass

indexed : (test : ℕ → Bool) (table : List ℕ) → list_all test table ≡ true → test 0 ≡ true → (i : ℕ) → test (slice_index table i) ≡ true
indexed test [] all none i = none
indexed test (first ∷ rest) all none zero = (and_parts (test first) (list_all test rest) all).0
indexed test (first ∷ rest) all none (suc i) = indexed test rest (and_parts (test first) (list_all test rest) all).1 none i

symbols_pass : (test : ℕ → Bool) (table bytes : List ℕ) → ((i : ℕ) → test (slice_index table i) ≡ true) → list_all test (encode_symbols table bytes) ≡ true
unfolding encode_symbols
symbols_pass test table [] each = refl
symbols_pass test table (a ∷ []) each = and_from _ _ (each _) (and_from _ _ (each _) refl)
symbols_pass test table (a ∷ b ∷ []) each = and_from _ _ (each _) (and_from _ _ (each _) (and_from _ _ (each _) refl))
symbols_pass test table (a ∷ b ∷ c ∷ rest) each =
    and_from _ _ (each _) (and_from _ _ (each _) (and_from _ _ (each _) (and_from _ _ (each _) (symbols_pass test table rest each))))

repeated : (test : ℕ → Bool) (n byte : ℕ) → test byte ≡ true → list_all test (replicate n byte) ≡ true
repeated test zero byte t = refl
repeated test (suc n) byte t = and_from (test byte) (list_all test (replicate n byte)) t (repeated test n byte t)

pub letters_pass : (test : ℕ → Bool) (image : List ℕ) → list_all test alphabet ≡ true → test 0 ≡ true → test 61 ≡ true → list_all test (encode_of standard image) ≡ true
letters_pass test image all none padding =
    all_joined test (encode_symbols alphabet image) (replicate (padding_len (length image)) 61)
    (symbols_pass test alphabet image (indexed test alphabet all none)) (repeated test (padding_len (length image)) 61 padding)

-- ---- the first letter

-- it begins a name: it is a letter, and no digit
abbrev pub begins_name : ℕ → Bool
begins_name byte = not (nat_le 48 byte && nat_le byte 57) && ((nat_le 97 byte && nat_le byte 122) || (nat_le 65 byte && nat_le byte 90))

low_symbol : (i : ℕ) → i < 52 → begins_name (slice_index alphabet i) ≡ true
low_symbol i h =
    ap begins_name (sym (get_or-take 52 alphabet i 0 h)) ∙ AllPass-from_list_all begins_name (take 52 alphabet) refl i 0 h

pub record BeginsName (text : List ℕ) : Type 0 where
  pub first : ℕ
  pub rest : List ℕ
  pub is : text ≡ first ∷ rest
  pub begins : begins_name first ≡ true

pub first_letter : (image : List ℕ) → 8 ≤ length image → slice_index image 0 < 208 → BeginsName (encode_of standard image)
unfolding encode_symbols
first_letter [] some low = absurd (omega arith)
first_letter (a ∷ []) some low = absurd (omega arith)
first_letter (a ∷ b ∷ []) some low = absurd (omega arith)
first_letter (a ∷ b ∷ c ∷ rest) some low =
    record { first = slice_index alphabet (a / 4); rest = _; is = refl; begins = low_symbol (a / 4) (omega arith) }

-- ---- one letter is no hexadecimal digit

padding_is_none : (n : ℕ) → 0 < n → list_all (is_digit_in 16) (replicate n 61) ≡ false
padding_is_none zero some = absurd (omega arith)
padding_is_none (suc n) some = refl

-- that of the first byte of a return's code, where the byte before it begins three
return_letter : (bytes : List ℕ) → 3 ≤ length bytes → slice_index bytes 1 % 16 ≡ 6 → slice_index bytes 2 ≡ 0
    → list_all (is_digit_in 16) (encode_symbols alphabet bytes) ≡ false
unfolding encode_symbols
return_letter [] long low high = absurd (omega arith)
return_letter (a ∷ []) long low high = absurd (omega arith)
return_letter (a ∷ b ∷ []) long low high = absurd (omega arith)
return_letter (a ∷ b ∷ c ∷ rest) long low high =
    let place : b % 16 * 4 + c / 64 ≡ 24 = omega arith in
    let letter : is_digit_in 16 (slice_index alphabet (b % 16 * 4 + c / 64)) ≡ false = ap (λ i. is_digit_in 16 (slice_index alphabet i)) place in
    and_right _ _ (and_right _ _ (and_left _ _ letter))

last_three : (image : List ℕ) → 9 ≤ length image → length image % 3 ≡ 0 → slice_index image (length image - 8) % 16 ≡ 6 → slice_index image (length image - 7) ≡ 0
    → list_all (is_digit_in 16) (encode_symbols alphabet image) ≡ false
last_three image long whole low high =
    let at = length image - 9 in
    let left : 3 ≤ length (drop at image) = let l = length-drop at image in omega (arith, l) in
    let second : slice_index (drop at image) 1 ≡ slice_index image (length image - 8) = get_or-drop at image 1 0 ∙ ap (slice_index image) (omega arith) in
    let third : slice_index (drop at image) 2 ≡ slice_index image (length image - 7) = get_or-drop at image 2 0 ∙ ap (slice_index image) (omega arith) in
    let letter = return_letter (drop at image) left (omega (arith, second, low)) (third ∙ high) in
    ap (list_all (is_digit_in 16)) (encode_split alphabet image at (omega arith) (omega arith))
    ∙ list_all-append (is_digit_in 16) (encode_symbols alphabet (take at image)) (encode_symbols alphabet (drop at image))
    ∙ and_right _ _ letter

pub no_digits : (image : List ℕ) → 8 ≤ length image → length image % 8 ≡ 0 → slice_index image (length image - 8) % 16 ≡ 6 → slice_index image (length image - 7) ≡ 0
    → list_all (is_digit_in 16) (encode_of standard image) ≡ false
no_digits image some whole low high =
    let front = list_all (is_digit_in 16) (encode_symbols alphabet image) in
    let back = list_all (is_digit_in 16) (replicate (padding_len (length image)) 61) in
    list_all-append (is_digit_in 16) (encode_symbols alphabet image) (replicate (padding_len (length image)) 61)
    ∙ elim (cases_eq (length image % 3) 0) [
      | inl threes ↦ and_left front back (last_three image (omega arith) threes low high)
      | inr others ↦ and_right front back (padding_is_none (padding_len (length image)) (omega arith))
    ]
