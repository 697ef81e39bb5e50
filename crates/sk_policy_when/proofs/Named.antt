-- Numbers, constants and registers are words, and are read as what they are.
use Rattle.std.proofs.Common.{◌≡◌, ◌<◌, ◌+◌, ◌-◌, ◌^◌, ◌==◌, ◌&&◌, ◌∙◌, ap, arith, sym, refl, inl, inr, ℕ, zero, suc, List, [], ◌∷◌, length, drop, codes, get_or, nat_le, not, cond, Bool, true, false, Option, Some, None, is_some, slice_get, position}
use Rattle.std.proofs.lemmas.Bool.{and_from, and_parts, cases_Bool, cases_lt, eqb-true, false≢true, le-leb, le-ltb, leb-true, lt-leb, lt-ltb}
use Rattle.std.proofs.lemmas.Fmt.{digits_is_IsNumeral}
use Rattle.std.proofs.lemmas.List.{get_or-drop, get_or-take, length-drop, length-take-le}
use Rattle.std.proofs.lemmas.List.Quantifiers.{position-Some}
use Rattle.std.proofs.lemmas.List.Folds.{list_all_at}
use Rattle.std.proofs.lemmas.Option.{get_or_from_slice_get, option_and_then_some, slice_get-get_or, slice_get_within}
use Rattle.std.specs.Char.{digit_value}
use Rattle.std.specs.Fmt.{digits}
use Rattle.std.specs.List.{list_all, slice_range}
use Rattle.std.specs.Str.Parse.{AllDigits, IsNumeral, digits_value}
use Rattle.sk_text.specs.Numbers.{is_digit_in, number_of}
use Rattle.sk_text.proofs.Cuts.{bytes_some}
use Rattle.sk_text.proofs.Reading.{up_to-within}
use Rattle.sk_arguments.specs.declared.constants.Set.{Set}
use Rattle.sk_arguments.specs.Constants.{all_names, all_numbers, name_in, number_of_constant, numbers_of, part}
use Rattle.sk_arguments.proofs.ReadsBack.{all_read}
use Rattle.sk_terms.specs.declared.constants.Part.{Part}
use Rattle.sk_terms.specs.declared.constants.Part.TheVariants as piece
use Rattle.sk_terms.specs.declared.term.Register.{Register}
use Rattle.sk_terms.specs.declared.term.Register.TheVariants.{Number, Pointer, Argument}
use Rattle.sk_terms.specs.Constants.{value}
use Rattle.sk_terms.specs.Text.{number_text, part_text, register_text}
use Rattle.sk_policy.specs.Policies.{IsThere}
use Rattle.sk_policy_text.specs.declared.token.Token.{Token}
use Rattle.sk_policy_text.specs.declared.token.Token.TheVariants as token
use Rattle.sk_policy_text.specs.Words.{is_letter_or_digit, is_word_byte}
use Rattle.sk_policy_text.specs.ConditionsTokens.{operator_named, register_named, relation_named, token_of}
use Rattle.sk_replay.specs.CallWords.{number_or_constant}
use Rattle.sk_replay.specs.WordCalls.{begins_with_zero, plain_number}
use Rattle.sk_policy_when.proofs.Cutting.{is_run}

-- a word that stands for something
pub record Stands (word : List ℕ) (for : Token) : Type 0 where
  pub run : is_run word ≡ true
  pub token : token_of word ≡ for

-- ---- digits

no_digit : (digit : ℕ) → digit_value digit ≡ 36 → digit_value digit < 16 → ⊥
no_digit digit e h = omega (arith, e, h)

digit_byte : (digit : ℕ) → digit_value digit < 16 → is_word_byte digit ≡ true
unfolding is_word_byte is_letter_or_digit
digit_byte digit h = elim (cases_lt digit 48) [
  | inl below ↦ let t = lt-ltb digit 48 below in let none : digit_value digit ≡ 36 = rw t refl in absurd (no_digit digit none h)
  | inr from ↦ let a = le-ltb digit 48 from in elim (cases_lt digit 58) [
    | inl to ↦
        let b = lt-leb 97 digit (omega arith) in
        let c = lt-leb 65 digit (omega arith) in
        let d = le-leb 48 digit from in
        let e = le-leb digit 57 (omega arith) in
        rw (b, c, d, e) refl
    | inr above ↦ let b = le-ltb digit 58 above in elim (cases_lt digit 65) [
      | inl below ↦ let c = lt-ltb digit 65 below in let none : digit_value digit ≡ 36 = rw (a, b, c) refl in absurd (no_digit digit none h)
      | inr upper ↦ let c = le-ltb digit 65 upper in elim (cases_lt digit 91) [
        | inl to ↦
            let d = lt-leb 97 digit (omega arith) in
            let e = le-leb 65 digit upper in
            let f = le-leb digit 90 (omega arith) in
            rw (d, e, f) refl
        | inr past ↦ let d = le-ltb digit 91 past in elim (cases_lt digit 97) [
          | inl below ↦ let e = lt-ltb digit 97 below in let none : digit_value digit ≡ 36 = rw (a, b, c, d, e) refl in absurd (no_digit digit none h)
          | inr lower ↦ let e = le-ltb digit 97 lower in elim (cases_lt digit 123) [
            | inl to ↦
                let f = le-leb 97 digit lower in
                let g = le-leb digit 122 (omega arith) in
                rw (f, g) refl
            | inr more ↦ let f = le-ltb digit 123 more in let none : digit_value digit ≡ 36 = rw (a, b, c, d, e, f) refl in absurd (no_digit digit none h)
          ]
        ]
      ]
    ]
  ]
]

digit_bytes : (digits : List ℕ) → AllDigits 16 digits → list_all is_word_byte digits ≡ true
digit_bytes [] all = refl
digit_bytes (digit ∷ digits) all =
    and_from (is_word_byte digit) (list_all is_word_byte digits) (digit_byte digit all.0) (digit_bytes digits all.1)

digits_pass : (digits : List ℕ) → AllDigits 16 digits → list_all (is_digit_in 16) digits ≡ true
digits_pass [] all = refl
digits_pass (digit ∷ digits) all =
    and_from (is_digit_in 16 digit) (list_all (is_digit_in 16) digits) (lt-ltb (digit_value digit) 16 all.0) (digits_pass digits all.1)

number_of_hexadecimal : (digits : List ℕ) → IsNumeral 16 digits → number_of (48 ∷ (120 ∷ digits)) ≡ Some (digits_value 16 digits)
unfolding number_of
number_of_hexadecimal digits h =
    let some = bytes_some digits h.0 in
    let pass = digits_pass digits h.1 in
    rw (some, pass) refl

-- ---- numbers

no_operator : (digits : List ℕ) → operator_named (48 ∷ (120 ∷ digits)) ≡ None
unfolding operator_named relation_named
no_operator digits = refl

no_register : (digits : List ℕ) → register_named (48 ∷ (120 ∷ digits)) ≡ None
unfolding register_named
no_register digits = refl

number_named : (word : List ℕ) (n : ℕ) → operator_named word ≡ None → register_named word ≡ None → number_or_constant word ≡ Some n → token_of word ≡ token.Number n
unfolding token_of
number_named word n o r v = rw (o, r, v) refl

value_of_number : (word : List ℕ) (n : ℕ) → begins_with_zero word ≡ false → number_of word ≡ Some n → n < 2 ^ 64 → number_or_constant word ≡ Some n
unfolding number_or_constant plain_number
value_of_number word n plain is small = let within = up_to-within (2 ^ 64 - 1) n (omega (arith, small)) in rw (plain, is, within) refl

zero_stands : Stands (codes "0") (token.Number 0)
unfolding is_word_byte is_letter_or_digit token_of operator_named relation_named register_named number_or_constant plain_number number_of
zero_stands = record { run = refl; token = refl }

pub one_stands : Stands (codes "1") (token.Number 1)
unfolding is_word_byte is_letter_or_digit token_of operator_named relation_named register_named number_or_constant plain_number number_of
one_stands = record { run = refl; token = refl }

pub lower_half_stands : Stands (codes "0xffffffff") (token.Number 0xffffffff)
unfolding is_word_byte is_letter_or_digit token_of operator_named relation_named register_named number_or_constant plain_number number_of
lower_half_stands = record { run = refl; token = refl }

digits_stand : (n : ℕ) → n < 2 ^ 64 → Stands (48 ∷ (120 ∷ digits 16 false n)) (token.Number n)
unfolding is_word_byte is_letter_or_digit
digits_stand n small =
    let numeral = digits_is_IsNumeral 16 false (omega arith) (omega arith) n (omega (arith, small)) in
    let is = number_of_hexadecimal (digits 16 false n) numeral.0 ∙ ap Some numeral.1 in
    record {
      run = digit_bytes (digits 16 false n) numeral.0.1;
      token = number_named (48 ∷ (120 ∷ digits 16 false n)) n (no_operator (digits 16 false n)) (no_register (digits 16 false n)) (value_of_number (48 ∷ (120 ∷ digits 16 false n)) n refl is small);
    }

pub number_stands : (n : ℕ) → n < 2 ^ 64 → Stands (number_text n) (token.Number n)
number_stands n small = elim (cases_Bool (n == 0)) [
  | inl t ↦ rw (t, eqb-true n 0 t) zero_stands
  | inr f ↦ rw f (digits_stand n small)
]

-- ---- constants

is_none : {X : Type 0} (o : Option X) → not (is_some o) ≡ true → o ≡ None
is_none None h = refl
is_none (Some x) h = absurd (false≢true h)

abbrev is_constant_word : List ℕ → Bool
is_constant_word name = is_run name && not (is_some (operator_named name)) && not (is_some (register_named name)) && not (is_some (number_of name))

all_constant_words : list_all is_constant_word all_names ≡ true
unfolding all_names is_word_byte is_letter_or_digit operator_named relation_named register_named number_of
all_constant_words = refl

one_of : (test : List ℕ → Bool) (names : List (List ℕ)) (k : ℕ) (name : List ℕ) → list_all test names ≡ true → slice_get names k ≡ Some name → test name ≡ true
one_of test names k name all is = elim (cases_Bool (test name)) [
  | inl t ↦ t
  | inr f ↦
      let there = ap test (get_or_from_slice_get names k name [] is) ∙ f in
      absurd (false≢true (sym (list_all_at test names k [] (slice_get_within names k name is) there) ∙ all))
]

-- a number of a part stands in the whole
in_part : (numbers : List ℕ) (first end place : ℕ) → place < length (part numbers first end) → slice_get numbers (first + place) ≡ Some (get_or (part numbers first end) place 0)
in_part numbers first end place = by_order (nat_le first end && nat_le end (length numbers)) refl
  where
    by_order : (b : Bool) → (nat_le first end && nat_le end (length numbers)) ≡ b → place < length (cond b (slice_range numbers first end) [])
        → slice_get numbers (first + place) ≡ Some (get_or (cond b (slice_range numbers first end) []) place 0)
    by_order false is less = absurd (omega (arith, less))
    by_order true is less =
        let parts = and_parts (nat_le first end) (nat_le end (length numbers)) is in
        let low = leb-true first end parts.0 in
        let high = leb-true end (length numbers) parts.1 in
        let long : length (slice_range numbers first end) ≡ end - first =
        length-take-le (end - first) (drop first numbers) (rw (length-drop first numbers) (omega (arith, low, high))) in
        let here : get_or (slice_range numbers first end) place 0 ≡ get_or numbers (first + place) 0 =
        get_or-take (end - first) (drop first numbers) place 0 (omega (arith, less, long)) ∙ get_or-drop first numbers place 0 in
        slice_get-get_or numbers (first + place) 0 (omega (arith, less, long, low, high)) ∙ ap Some (sym here)

name_is_read : (set : Set) (number : ℕ) (name : List ℕ) → name_in set number ≡ Some name → number_of_constant name ≡ Some number
unfolding name_in
name_is_read set number name is =
    option_and_then_some (λ place. slice_get all_names (set.first + place)) (position (λ other. other == number) (numbers_of set)) name is
    (λ place there named.
    let first = position-Some (λ other. other == number) (numbers_of set) place 0 there in
    let same : get_or (numbers_of set) place 0 ≡ number = eqb-true _ _ first.1 in
    all_read (set.first + place) number name (in_part all_numbers set.first set.end place first.0 ∙ ap Some same) named)

name_is_constant : (set : Set) (number : ℕ) (name : List ℕ) → name_in set number ≡ Some name → is_constant_word name ≡ true
unfolding name_in
name_is_constant set number name is =
    option_and_then_some (λ place. slice_get all_names (set.first + place)) (position (λ other. other == number) (numbers_of set)) name is
    (λ place there named. one_of is_constant_word all_names (set.first + place) name all_constant_words named)

value_of_constant : (word : List ℕ) (n : ℕ) → number_of word ≡ None → number_of_constant word ≡ Some n → number_or_constant word ≡ Some n
unfolding number_or_constant plain_number
value_of_constant word n none is = elim (cases_Bool (begins_with_zero word)) [
  | inl t ↦ rw (t, is) refl
  | inr f ↦ rw (f, none, is) refl
]

constant_stands : (set : Set) (n : ℕ) (name : List ℕ) → name_in set n ≡ Some name → Stands name (token.Number n)
constant_stands set n name is =
    let all = name_is_constant set n name is in
    let last = and_parts (is_run name && not (is_some (operator_named name)) && not (is_some (register_named name))) (not (is_some (number_of name))) all in
    let third = and_parts (is_run name && not (is_some (operator_named name))) (not (is_some (register_named name))) last.0 in
    let first = and_parts (is_run name) (not (is_some (operator_named name))) third.0 in
    record {
      run = first.0;
      token = number_named name n (is_none (operator_named name) first.1) (is_none (register_named name) third.1)
          (value_of_constant name n (is_none (number_of name) last.1) (name_is_read set n name is));
    }

-- ---- parts

pub part_stands : (it : Part) → value it < 2 ^ 64 → Stands (part_text it) (token.Number (value it))
part_stands (piece.Number n) small = number_stands n small
part_stands (piece.Constant set n) small = by_name (name_in set n) refl
  where
    by_name : (name : Option (List ℕ)) → name_in set n ≡ name → Stands (part_text (piece.Constant set n)) (token.Number n)
    by_name None is = rw is (number_stands n small)
    by_name (Some name) is = rw is (constant_stands set n name is)

-- ---- registers

argument_stands : (i : ℕ) → i < 6 → Stands (register_text (Argument i)) (token.Register (Argument i))
unfolding is_word_byte is_letter_or_digit token_of operator_named relation_named register_named digits
argument_stands zero small = record { run = refl; token = refl }
argument_stands (suc zero) small = record { run = refl; token = refl }
argument_stands (suc (suc zero)) small = record { run = refl; token = refl }
argument_stands (suc (suc (suc zero))) small = record { run = refl; token = refl }
argument_stands (suc (suc (suc (suc zero)))) small = record { run = refl; token = refl }
argument_stands (suc (suc (suc (suc (suc zero))))) small = record { run = refl; token = refl }
argument_stands (suc (suc (suc (suc (suc (suc i)))))) small = absurd (omega (arith, small))

pub register_stands : (it : Register) → IsThere it → Stands (register_text it) (token.Register it)
unfolding is_word_byte is_letter_or_digit token_of operator_named relation_named register_named
register_stands Number there = record { run = refl; token = refl }
register_stands Pointer there = record { run = refl; token = refl }
register_stands (Argument i) there = argument_stands i there
