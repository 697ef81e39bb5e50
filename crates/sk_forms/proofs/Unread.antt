-- A text that begins with a name, and has none of the signs of other forms, is in none of them.
use Rattle.std.proofs.Common.{◌≡◌, ◌==◌, ◌&&◌, ◌||◌, ◌∙◌, ap, arith, refl, sym, inl, inr, ℕ, List, [], ◌∷◌, ◌++◌, Bool, true, false, not, length, map, Option, Some, None}
use Rattle.std.proofs.lemmas.Bool.{and_from, and_left, and_parts, and_right, cases_Bool, eqb-true, false≢true, le-ltb, or_from, or_parts}
use Rattle.std.proofs.lemmas.List.Elements.{All-filter}
use Rattle.std.proofs.lemmas.List.Sums.{AllPass-from_list_all, list_all-from_AllPass}
use Rattle.std.specs.Prelude.{codes, nat_eq, nat_le, nat_lt, slice_index, if◌then◌else◌}
use Rattle.std.specs.List.{list_all, list_any, position_or_len, starts_with}
use Rattle.std.specs.Str.{bytes_eq}
use Rattle.sk_text.specs.Numbers.{number_of, up_to}
use Rattle.sk_forms.specs.declared.comments.Place.TheVariants.{Code, Line}
use Rattle.sk_forms.specs.declared.names.Word.{Word}
use Rattle.sk_forms.specs.declared.token.Token.{Token}
use Rattle.sk_forms.specs.declared.token.Token.TheVariants.{Decimal, Hexadecimal, Name, Padded, Sign}
use Rattle.sk_forms.specs.Comments.{end_of, follows, kept, left_from, next_place}
use Rattle.sk_forms.specs.Words.{begun, ended, goes_on, is_blank, words_behind}
use Rattle.sk_forms.specs.Names.{all_names, constant_named, name_from, name_of}
use Rattle.sk_forms.specs.Tokens.{decimal, hexadecimal, is_sign, number_in, number_token, padded, token_of, token_or_other, tokens_in, tokens_of, without_letter}
use Rattle.sk_forms.specs.Arrays.{in_one_line}
use Rattle.sk_forms.proofs.Cuts.{byte_begins}
use Rattle.sk_forms.proofs.Pieces.{all_joined, not_same}
use Rattle.sk_forms.proofs.Symbols.{begins_name}

-- ---- bytes

-- no blank (9, 13, 32), none of `"`, `(`, `*`, `,`, `[` and `{`, and no `_`
abbrev pub is_wordy : ℕ → Bool
is_wordy byte = not (list_any (λ other. byte == other) (9 ∷ 13 ∷ 32 ∷ 34 ∷ 40 ∷ 42 ∷ 44 ∷ 91 ∷ 95 ∷ 123 ∷ []))

no_star : (text : List ℕ) → list_all is_wordy text ≡ true → follows 42 text ≡ false
no_star [] all = refl
no_star (byte ∷ rest) all = not_same is_wordy byte 42 (and_parts (is_wordy byte) (list_all is_wordy rest) all).0 refl

-- what is left of it is the same
left_wordy : (text : List ℕ) → list_all is_wordy text ≡ true → (list_all is_wordy (left_from Code text) ≡ true) × (list_all is_wordy (left_from Line text) ≡ true)
unfolding kept next_place end_of
left_wordy [] all = (refl, refl)
left_wordy (byte ∷ rest) all =
    let parts = and_parts (is_wordy byte) (list_all is_wordy rest) all in
    let behind_it = left_wordy rest parts.1 in
    let star = no_star rest parts.1 in
    let with_it = and_from (is_wordy byte) (list_all is_wordy (left_from Code rest)) parts.0 behind_it.0 in (
      elim (cases_Bool (byte == 47)) [
        | inl t ↦ elim (cases_Bool (follows 47 rest)) [
          | inl slash ↦ rw (t, star, slash) behind_it.1
          | inr other ↦ rw (t, star, other) with_it
        ]
        | inr f ↦ rw f with_it
      ],
      elim (cases_Bool (byte == 10)) [
        | inl t ↦ rw t with_it
        | inr f ↦ rw f behind_it.1
      ],
    )

-- ---- words

begun_wordy : (byte : ℕ) → is_wordy byte ≡ true → list_all is_wordy (begun byte) ≡ true
unfolding begun
begun_wordy byte t = elim (cases_Bool (is_blank byte)) [
  | inl blank ↦ rw blank refl
  | inr f ↦ rw f (and_from (is_wordy byte) true t refl)
]

ended_wordy : (word : List ℕ) (words : List (List ℕ)) → list_all is_wordy word ≡ true → list_all (list_all is_wordy) words ≡ true
    → list_all (list_all is_wordy) (ended word ++ words) ≡ true
ended_wordy [] words w all = all
ended_wordy (first ∷ more) words w all = and_from (list_all is_wordy (first ∷ more)) (list_all (list_all is_wordy) words) w all

words_wordy : (word text : List ℕ) → list_all is_wordy word ≡ true → list_all is_wordy text ≡ true → list_all (list_all is_wordy) (words_behind word text) ≡ true
words_wordy [] [] w all = refl
words_wordy (first ∷ more) [] w all = and_from (list_all is_wordy (first ∷ more)) true w refl
words_wordy word (byte ∷ rest) w all =
    let parts = and_parts (is_wordy byte) (list_all is_wordy rest) all in
    elim (cases_Bool (goes_on word byte)) [
      | inl t ↦ rw t (words_wordy (word ++ byte ∷ []) rest (all_joined is_wordy word (byte ∷ []) w (and_from (is_wordy byte) true parts.0 refl)) parts.1)
      | inr f ↦ rw f (ended_wordy word (words_behind (begun byte) rest) w (words_wordy (begun byte) rest (begun_wordy byte parts.0) parts.1))
    ]

-- words of which the first begins with this byte
pub record BeginsWord (first : ℕ) (words : List (List ℕ)) : Type 0 where
  pub more : List ℕ
  pub others : List (List ℕ)
  pub is : words ≡ (first ∷ more) ∷ others

first_word : (first : ℕ) (more text : List ℕ) → BeginsWord first (words_behind (first ∷ more) text)
first_word first more [] = record { more = more; others = []; is = refl }
first_word first more (byte ∷ rest) = elim (cases_Bool (goes_on (first ∷ more) byte)) [
  | inl t ↦ rw t (first_word first (more ++ byte ∷ []) rest)
  | inr f ↦ rw f (record { more = more; others = words_behind (begun byte) rest; is = refl })
]

-- ---- tokens

-- a sign is one of the bytes that may stand there
abbrev pub is_wordy_token : Token → Bool
is_wordy_token (Sign byte) = is_wordy byte
is_wordy_token token = true

hexadecimal_wordy : (number : Option ℕ) → is_wordy_token (token_or_other (λ n. Hexadecimal n) number) ≡ true
hexadecimal_wordy None = refl
hexadecimal_wordy (Some n) = refl

padded_wordy : (number : Option ℕ) → is_wordy_token (token_or_other (λ n. Padded n) number) ≡ true
padded_wordy None = refl
padded_wordy (Some n) = refl

decimal_wordy : (number : Option ℕ) → is_wordy_token (token_or_other (λ n. Decimal n) number) ≡ true
decimal_wordy None = refl
decimal_wordy (Some n) = refl

one_wordy : (a b : Bool) (first second third : Token) → is_wordy_token first ≡ true → is_wordy_token second ≡ true → is_wordy_token third ≡ true
    → is_wordy_token (if a then first else if b then second else third) ≡ true
one_wordy true b first second third f s t = f
one_wordy false true first second third f s t = s
one_wordy false false first second third f s t = t

number_wordy : (word : List ℕ) → is_wordy_token (number_token word) ≡ true
unfolding number_token hexadecimal padded decimal
number_wordy word =
    let digits = without_letter (without_letter (without_letter word)) in
    let number = up_to 4294967295 (number_of digits) in
    one_wordy (starts_with nat_eq digits (codes "0x")) (nat_lt 1 (length digits) && slice_index digits 0 == 48) (hexadecimal digits) (padded digits) (decimal digits)
    (hexadecimal_wordy number) (padded_wordy number) (decimal_wordy number)

token_wordy : (word : List ℕ) → list_all is_wordy word ≡ true → is_wordy_token (token_of word) ≡ true
unfolding token_of
token_wordy [] all = refl
token_wordy (first ∷ rest) all =
    let digit = nat_le 48 first && nat_le first 57 in
    let letter = (nat_le 97 first && nat_le first 122) || (nat_le 65 first && nat_le first 90) || first == 95 in
    one_wordy digit letter (number_token (first ∷ rest)) (Name (name_of (first ∷ rest))) (Sign first) (number_wordy (first ∷ rest)) refl
    (and_parts (is_wordy first) (list_all is_wordy rest) all).0

tokens_wordy : (words : List (List ℕ)) → list_all (list_all is_wordy) words ≡ true → list_all is_wordy_token (map token_of words) ≡ true
tokens_wordy [] all = refl
tokens_wordy (word ∷ words) all =
    let parts = and_parts (list_all is_wordy word) (list_all (list_all is_wordy) words) all in
    and_from (is_wordy_token (token_of word)) (list_all is_wordy_token (map token_of words)) (token_wordy word parts.0) (tokens_wordy words parts.1)

-- ---- names

has_bar : List ℕ → Bool
has_bar text = list_any (λ byte. byte == 95) text

no_bar : (word : List ℕ) → list_all is_wordy word ≡ true → has_bar word ≡ false
unfolding has_bar
no_bar [] all = refl
no_bar (byte ∷ rest) all =
    let parts = and_parts (is_wordy byte) (list_all is_wordy rest) all in
    or_from (byte == 95) (has_bar rest) (not_same is_wordy byte 95 parts.0 refl) (no_bar rest parts.1)

other_name : (name word : List ℕ) → has_bar name ≡ true → has_bar word ≡ false → bytes_eq name word ≡ false
unfolding has_bar
other_name [] [] t f = absurd (false≢true t)
other_name [] (byte ∷ rest) t f = refl
other_name (byte ∷ rest) [] t f = refl
other_name (byte ∷ rest) (other ∷ others) t f = elim (cases_Bool (nat_eq byte other)) [
  | inl same ↦
      let parts = or_parts (other == 95) (has_bar others) f in
      let bar : (byte == 95) ≡ false = ap (λ b. b == 95) (eqb-true byte other same) ∙ parts.0 in
      let more : has_bar rest ≡ true = sym (ap (λ b. b || has_bar rest) bar) ∙ t in
      and_right (nat_eq byte other) (bytes_eq rest others) (other_name rest others more parts.1)
  | inr differs ↦ and_left (nat_eq byte other) (bytes_eq rest others) differs
]

no_place : (names : List (List ℕ)) (word : List ℕ) → list_all has_bar names ≡ true → has_bar word ≡ false
    → position_or_len (λ name. bytes_eq name word) names ≡ length names
no_place [] word all f = refl
no_place (name ∷ names) word all f =
    let parts = and_parts (has_bar name) (list_all has_bar names) all in
    let differs = other_name name word parts.0 f in
    let others = no_place names word parts.1 f in
    rw differs (omega (arith, others))

-- each name of a number has a `_`
names_have_bars : list_all has_bar all_names ≡ true
unfolding all_names has_bar
names_have_bars = refl

no_constant : (word : List ℕ) → list_all is_wordy word ≡ true → constant_named word ≡ None
unfolding constant_named
no_constant word all =
    let place = no_place all_names word names_have_bars (no_bar word all) in
    let beyond = le-ltb (position_or_len (λ name. bytes_eq name word) all_names) (length all_names) (omega (arith, place)) in
    rw beyond refl

no_number : (text : Option Word) (place : Option ℕ) → number_in (Name (name_from text place None)) ≡ None
no_number (Some word) place = refl
no_number None (Some place) = refl
no_number None None = refl

pub name_no_number : (word : List ℕ) → list_all is_wordy word ≡ true → number_in (Name (name_of word)) ≡ None
unfolding name_of
name_no_number word all = let none = no_constant word all in rw none (no_number _ _)

-- ---- what begins with a name

no_digit : (x : Bool) → not x ≡ true → x ≡ false
no_digit true t = absurd (false≢true t)
no_digit false t = refl

name_token : (first : ℕ) (more : List ℕ) → begins_name first ≡ true → token_of (first ∷ more) ≡ Name (name_of (first ∷ more))
unfolding token_of
name_token first more t =
    let digit = nat_le 48 first && nat_le first 57 in
    let letter = (nat_le 97 first && nat_le first 122) || (nat_le 65 first && nat_le first 90) in
    let parts = and_parts (not digit) letter t in
    let none : digit ≡ false = no_digit digit parts.0 in
    rw (none, parts.1) refl

pub record NameFirst (tokens : List Token) : Type 0 where
  pub word : List ℕ
  pub others : List Token
  pub is : tokens ≡ Name (name_of word) ∷ others
  pub wordy : list_all is_wordy word ≡ true
  pub all : list_all is_wordy_token tokens ≡ true

name_no_blank : (first : ℕ) → begins_name first ≡ true → is_blank first ≡ false
unfolding is_blank
name_no_blank first t = rw (not_same begins_name first 32 t refl, not_same begins_name first 9 t refl, not_same begins_name first 13 t refl) refl

pub name_first : (first : ℕ) (rest : List ℕ) → begins_name first ≡ true → list_all is_wordy (first ∷ rest) ≡ true → NameFirst (tokens_of (first ∷ rest))
name_first first rest t all =
    let word = first_word first [] rest in
    let words : words_behind [] (first ∷ rest) ≡ (first ∷ word.more) ∷ word.others = byte_begins first rest (name_no_blank first t) ∙ word.is in
    let wordy = words_wordy [] (first ∷ rest) refl all in
    record {
      word = first ∷ word.more;
      others = map token_of word.others;
      is = ap (λ l. map token_of l) words ∙ ap (λ token. token ∷ map token_of word.others) (name_token first word.more t);
      wordy = (and_parts (list_all is_wordy (first ∷ word.more)) (list_all (list_all is_wordy) word.others) (ap (list_all (list_all is_wordy)) (sym words) ∙ wordy)).0;
      all = tokens_wordy (words_behind [] (first ∷ rest)) wordy;
    }

-- the same of the code of a program
pub name_first_in : (first : ℕ) (rest : List ℕ) → begins_name first ≡ true → list_all is_wordy (first ∷ rest) ≡ true → NameFirst (tokens_in (first ∷ rest))
unfolding kept next_place
name_first_in first rest t all =
    let parts = and_parts (is_wordy first) (list_all is_wordy rest) all in
    let slash = not_same begins_name first 47 t refl in
    let left = left_wordy rest parts.1 in
    rw slash (name_first first (left_from Code rest) t (and_from (is_wordy first) (list_all is_wordy (left_from Code rest)) parts.0 left.0))

pub name_first_on : (tokens : List Token) → NameFirst tokens → NameFirst (in_one_line tokens)
name_first_on tokens it = record {
  word = it.word;
  others = in_one_line it.others;
  is = ap in_one_line it.is;
  wordy = it.wordy;
  all =
      list_all-from_AllPass is_wordy_token (in_one_line tokens)
      (All-filter (λ token. not (is_sign 10 token)) (λ token. is_wordy_token token ≡ true) tokens (AllPass-from_list_all is_wordy_token tokens it.all));
}
