-- The text of numbers is read as these numbers.
use Rattle.std.proofs.Common.{◌≡◌, ◌<◌, ◌≤◌, ◌^◌, ◌==◌, ◌&&◌, ◌∙◌, ap, arith, refl, subst, inl, inr, ℕ, List, [], ◌∷◌, ◌++◌, codes, true, false, not, Option, Some, None, Ok, bytes_eq}
use Rattle.std.proofs.lemmas.Bool.{and_parts, cases_Bool, eq-eqb, eqb-true, false≢true, le-leb}
use Rattle.std.proofs.lemmas.Fmt.{decimal_is_IsNumeral}
use Rattle.std.specs.Prelude.{nat_eq, unwrap_or}
use Rattle.std.specs.Char.{digit_value}
use Rattle.std.specs.Fmt.{decimal}
use Rattle.std.specs.List.{after_first, before_first}
use Rattle.std.specs.Str.Parse.{AllDigits}
use Rattle.sk_text.specs.Words.{is_letter}
use Rattle.sk_text.proofs.Cuts.{after_first-no, before_first-no}
use Rattle.sk_names.specs.declared.architecture.Architecture.{Architecture}
use Rattle.sk_names.specs.Names.{name_on}
use Rattle.sk_policy_text.proofs.Plain.{plain-decimal}
use Rattle.sk_show.specs.Text.{name_text, numbers_text}
use Rattle.sk_policy_text.specs.declared.word.Place.{Place}
use Rattle.sk_policy_text.specs.declared.word.Place.TheVariants.{Behind}
use Rattle.sk_policy_text.specs.Words.{Word, is_letter_or_digit, is_word_byte, placed}
use Rattle.sk_policy_text.specs.Verdicts.{names_verdict}
use Rattle.sk_policy_text.specs.Sentences.{begins_name, behind_dash, behind_name, has_dash, item, item_ends, number_item, range_in, range_item, single, u32_of}
use Rattle.sk_policy_text.specs.RoundTrip.{NumbersComeBack}
use Rattle.sk_policy_text.proofs.Naming.{call_named, is_call}
use Rattle.sk_policy_text.proofs.Spelling.{decimal_word, is_word, longer_word, two_words, word_bytes}

-- ---- dashes

no_dash : (digit : ℕ) → digit_value digit < 10 → (digit == 45) ≡ false
no_dash digit h = elim (cases_Bool (digit == 45)) [
  | inl t ↦
      let same = eqb-true digit 45 t in
      let none : digit_value 45 < 10 = subst (λ (d : ℕ). digit_value d < 10) same h in
      absurd (omega (arith, none))
  | inr f ↦ f
]

no_dashes : (digits : List ℕ) → AllDigits 10 digits → has_dash digits ≡ false
no_dashes [] all = refl
no_dashes (digit ∷ digits) all = let f = no_dash digit all.0 in rw f (no_dashes digits all.1)

dash_behind : (digits rest : List ℕ) → has_dash (digits ++ (45 ∷ rest)) ≡ true
dash_behind [] rest = refl
dash_behind (digit ∷ digits) rest = elim (cases_Bool (digit == 45)) [
  | inl t ↦ rw t refl
  | inr f ↦ rw f (dash_behind digits rest)
]

before_dash : (digits rest : List ℕ) → AllDigits 10 digits → before_first (λ byte. byte == 45) (digits ++ (45 ∷ rest)) ≡ digits
before_dash [] rest all = refl
before_dash (digit ∷ digits) rest all =
    before_first-no (λ byte. byte == 45) digit (digits ++ (45 ∷ rest)) (no_dash digit all.0) ∙ ap (λ l. digit ∷ l) (before_dash digits rest all.1)

after_dash : (digits rest : List ℕ) → AllDigits 10 digits → after_first (λ byte. byte == 45) (digits ++ (45 ∷ rest)) ≡ rest
after_dash [] rest all = refl
after_dash (digit ∷ digits) rest all =
    after_first-no (λ byte. byte == 45) digit (digits ++ (45 ∷ rest)) (no_dash digit all.0) ∙ after_dash digits rest all.1

digits_of : (n : ℕ) → n < 2 ^ 32 → AllDigits 10 (decimal n)
digits_of n h = (decimal_is_IsNumeral n (omega (arith, h))).0.1

u32_read : (n : ℕ) → n < 2 ^ 32 → u32_of (decimal n) ≡ Some n
u32_read n h = plain-decimal 4294967295 n h (omega (arith, h))

-- ---- one number

pub same_text : (bytes others : List ℕ) → bytes_eq bytes others ≡ true → bytes ≡ others
same_text [] [] h = refl
same_text [] (other ∷ others) h = absurd (false≢true h)
same_text (byte ∷ bytes) [] h = absurd (false≢true h)
same_text (byte ∷ bytes) (other ∷ others) h =
    let parts = and_parts (nat_eq byte other) (bytes_eq bytes others) h in
    let first = eqb-true byte other parts.0 in
    ap (λ b. b ∷ bytes) first ∙ ap (λ l. other ∷ l) (same_text bytes others parts.1)

same_bytes : (bytes : List ℕ) → bytes_eq bytes bytes ≡ true
same_bytes [] = refl
same_bytes (byte ∷ bytes) = let t = eq-eqb byte byte refl in rw t (same_bytes bytes)

-- what stands behind a number is its name, or a dash
pub name_behind : (by : Architecture) (nr line : ℕ) (place : Place) (name : Option (List ℕ)) (rest : List Word) → name_on by nr ≡ name
    → behind_name by nr (record { text = unwrap_or name (codes "-"); line = line; place = place } ∷ rest) ≡ Ok rest
unfolding behind_name behind_dash is_letter is_call
name_behind by nr line place None rest h = refl
name_behind by nr line place (Some name) rest h =
    let parts = and_parts (is_word name) (begins_name name && not (names_verdict name)) (call_named by nr name h) in
    let begins = parts.1 in
    let same = same_bytes name in
    rw (begins, h, same) refl

name_word : (by : Architecture) (nr : ℕ) (name : Option (List ℕ)) → name_on by nr ≡ name → is_word (unwrap_or name (codes "-")) ≡ true
unfolding is_call is_word is_word_byte is_letter_or_digit
name_word by nr None h = refl
name_word by nr (Some name) h = (and_parts (is_word name) (begins_name name && not (names_verdict name)) (call_named by nr name h)).0

pub number_read : (by : Architecture) (nr : ℕ) (word name : Word) (rest : List Word) → nr < 2 ^ 32 → word.text ≡ decimal nr
    → behind_name by nr (name ∷ rest) ≡ Ok rest → item_ends rest ≡ Ok tt → item by (word ∷ name ∷ rest) ≡ Ok (single nr)
unfolding item number_item
number_read by nr word name rest small is behind ends =
    let none : has_dash word.text ≡ false = ap has_dash is ∙ no_dashes (decimal nr) (digits_of nr small) in
    let read : u32_of word.text ≡ Some nr = ap u32_of is ∙ u32_read nr small in
    rw (none, read, behind, ends) refl

-- ---- a range

abbrev range_text : ℕ → ℕ → List ℕ
range_text first last = decimal first ++ (45 ∷ decimal last)

range_read : (first last : ℕ) → first < 2 ^ 32 → last < 2 ^ 32 → first ≤ last → range_in (range_text first last) ≡ Some (record { first = first; last = last })
unfolding range_in
range_read first last f l h =
    let before = before_dash (decimal first) (decimal last) (digits_of first f) in
    let after = after_dash (decimal first) (decimal last) (digits_of first f) in
    let front = u32_read first f in
    let back = u32_read last l in
    let t = le-leb first last h in
    rw (before, after, front, back, t) refl

range_word : (first last : ℕ) → first < 2 ^ 32 → last < 2 ^ 32 → is_word (range_text first last) ≡ true
unfolding is_word_byte is_letter_or_digit
range_word first last f l =
    longer_word (decimal first) (45 ∷ decimal last) (decimal_word first (omega (arith, f))) (word_bytes (decimal last) (decimal_word last (omega (arith, l))))

-- a range, behind which a dash stands
ranges_read : (by : Architecture) (first last : ℕ) (word dash : Word) (rest : List Word) → first < 2 ^ 32 → last < 2 ^ 32 → first ≤ last
    → word.text ≡ range_text first last → dash.text ≡ codes "-" → item_ends rest ≡ Ok tt
    → item by (word ∷ dash ∷ rest) ≡ Ok (record { first = first; last = last })
unfolding item range_item behind_dash
ranges_read by first last word dash rest f l h is dashed ends =
    let some : has_dash word.text ≡ true = ap has_dash is ∙ dash_behind (decimal first) (decimal last) in
    let read : range_in word.text ≡ Some (record { first = first; last = last }) = ap range_in is ∙ range_read first last f l h in
    rw (some, read, dashed, ends) refl

-- ---- both

-- the two words that numbers and a name are, and how they are read before others
pub numbers_word : (first last : ℕ) → first ≤ last → last < 2 ^ 32 → is_word (numbers_text first last) ≡ true
numbers_word first last le small = elim (cases_Bool (first == last)) [
  | inl t ↦ rw t (decimal_word first (omega (arith, le, small)))
  | inr f ↦ rw f (range_word first last (omega (arith, le, small)) small)
]

pub names_word : (by : Architecture) (first last : ℕ) → is_word (name_text by first last) ≡ true
unfolding is_word is_word_byte is_letter_or_digit
names_word by first last = elim (cases_Bool (first == last)) [
  | inl t ↦ rw t (name_word by first (name_on by first) refl)
  | inr f ↦ rw f refl
]

pub both_read : (by : Architecture) (first last number : ℕ) (place behind : Place) (rest : List Word) → first ≤ last → last < 2 ^ 32 → item_ends rest ≡ Ok tt
    → item by (record { text = numbers_text first last; line = number; place = place } ∷ record { text = name_text by first last; line = number; place = behind } ∷ rest)
    ≡ Ok (record { first = first; last = last })
both_read by first last number place behind rest le small ends = elim (cases_Bool (first == last)) [
  | inl t ↦
      let same = eqb-true first last t in
      let fits : first < 2 ^ 32 = omega (arith, le, small) in
      rw t
      (number_read by first _ _ rest fits refl (name_behind by first number behind (name_on by first) rest refl) ends
      ∙ ap (λ l. Ok (record { first = first; last = l })) same)
  | inr f ↦
      let fits : first < 2 ^ 32 = omega (arith, le, small) in
      rw f (ranges_read by first last _ _ rest fits small le refl refl ends)
]

pub numbers_come_back : NumbersComeBack
unfolding item_ends
numbers_come_back by first last number place le small =
    ap (λ words. item by (placed number place words))
    (two_words (numbers_text first last) (name_text by first last) (numbers_word first last le small) (names_word by first last))
    ∙ both_read by first last number place Behind [] le small refl
