-- The line of a row is read as that row.
use Rattle.std.proofs.Common.{◌≡◌, ◌<◌, ◌≤◌, ◌+◌, ◌^◌, ◌==◌, ◌&&◌, ◌∙◌, ap, arith, suc, sym, refl, subst, inl, inr, ℕ, List, [], ◌∷◌, ◌++◌, length, codes, Bool, true, false, not, Option, Some, None, is_some, Result, Ok, Err, bytes_eq}
use Rattle.std.proofs.lemmas.Bool.{and_parts, or_parts, ne_eqb, cases_Bool, cases_lt, false≢true, lt-ltb}
use Rattle.std.proofs.lemmas.List.{append-nil}
use Rattle.std.proofs.lemmas.Fmt.{decimal_is_IsNumeral}
use Rattle.std.specs.Prelude.{unwrap_or}
use Rattle.std.specs.Char.{digit_value}
use Rattle.std.specs.Fmt.{decimal}
use Rattle.std.specs.Str.Parse.{AllDigits}
use Rattle.sk_text.proofs.Cuts.{before_first-no}
use Rattle.sk_insn.specs.Actions.{action_named}
use Rattle.sk_names.specs.declared.architecture.Architecture.{Architecture}
use Rattle.sk_names.specs.Names.{name_on}
use Rattle.sk_filter.specs.VerdictText.{verdict_text}
use Rattle.sk_show.specs.Text.{name_text, numbers_text}
use Rattle.sk_policy_text.specs.declared.sentence.Range.{Range}
use Rattle.sk_policy_text.specs.declared.stop.Stop.{Stop}
use Rattle.sk_policy_text.specs.declared.word.Place.TheVariants.{Behind, Row as Beginning}
use Rattle.sk_policy_text.specs.Words.{Word, is_letter_or_digit, is_word_byte, placed, words_of_line}
use Rattle.sk_policy_text.specs.Verdicts.{action_in, action_value, expectation_named, names_verdict, verdict_of_word}
use Rattle.sk_policy_text.specs.Sentences.{Row, begins_name, behind_colon, behind_commas, behind_items, ends_item, ends_items, is_case, is_the, item, item_ends, line, only_verdict, row, said_by, sentence_in, stopped_at, verdict, verdict_or_none}
use Rattle.sk_policy_text.specs.RoundTrip.{HeadsComeBack, RowsComeBack}
use Rattle.sk_policy_text.proofs.Naming.{call_named, is_call}
use Rattle.sk_policy_text.proofs.Numbering.{both_read, names_word, numbers_word, same_text}
use Rattle.sk_policy_text.proofs.Returning.{verdicts_come_back}
use Rattle.sk_policy_text.proofs.Spelling.{is_word, no_digit, two_before, two_words}

-- ---- words that are no signs

no_sign : (word sign : List ℕ) → is_word word ≡ true → is_word sign ≡ false → bytes_eq word sign ≡ false
no_sign word sign h other = elim (cases_Bool (bytes_eq word sign)) [
  | inl t ↦ absurd (false≢true (sym other ∙ sym (ap is_word (same_text word sign t)) ∙ h))
  | inr f ↦ f
]

-- a word of an item is no comma, no colon and no verdict
pub record IsItem (word : Word) : Type 0 where
  pub comma : is_the (codes ",") word ≡ false
  pub ends : ends_items word ≡ false

item_word : (word : Word) → is_word word.text ≡ true → names_verdict word.text ≡ false → IsItem word
unfolding is_word is_word_byte is_letter_or_digit ends_items
item_word word h none =
    let colon = no_sign word.text (codes ":") h refl in
    record { comma = no_sign word.text (codes ",") h refl; ends = rw (colon, none) refl }

-- ---- a row of two words, and what stands behind them

no_commas : (word name : Word) (rest : List Word) → IsItem word → IsItem name → behind_commas rest ≡ [] → behind_commas (word ∷ name ∷ rest) ≡ []
no_commas word name rest first second commas =
    let a = first.comma in
    let b = first.ends in
    let c = second.comma in
    let d = second.ends in
    rw (b, a, d, c) commas

two_further : (n : ℕ) → 1 + (1 + n) ≡ suc (suc n)
two_further n = omega arith

left_behind : (word name : Word) (rest : List Word) → IsItem word → IsItem name → behind_items rest ≡ rest → behind_items (word ∷ name ∷ rest) ≡ rest
left_behind word name rest first second items =
    let b = first.ends in
    let d = second.ends in
    rw (b, d, two_further) items

row_of : (by : Architecture) (word name : Word) (rest : List Word) (range : Range) (value : Option ℕ) → IsItem word → IsItem name
    → item by (word ∷ name ∷ rest) ≡ Ok range → behind_commas rest ≡ [] → behind_items rest ≡ rest
    → verdict_or_none (behind_colon rest) ≡ Ok value → row by (word ∷ name ∷ rest) ≡ Ok (Row (range ∷ []) value)
unfolding row
row_of by word name rest range value first second is commas items read =
    let none = no_commas word name rest first second commas in
    let left = left_behind word name rest first second items in
    rw (is, none, left, read) refl

row_said : (by : Architecture) (word : Word) (rest : List Word) → word.place ≡ Beginning
    → is_the (codes "arch") word ≡ false → is_the (codes "default") word ≡ false → is_the (codes "others") word ≡ false
    → said_by by (word ∷ rest) ≡ row by (word ∷ rest)
unfolding said_by line
row_said by word rest begins arch default others =
    let no_case : is_case word.place ≡ false = ap is_case begins in
    rw (no_case, arch, default, others) refl

row_read : (by : Architecture) (word name : Word) (rest : List Word) (range : Range) (value : Option ℕ) → word.place ≡ Beginning
    → is_the (codes "arch") word ≡ false → is_the (codes "default") word ≡ false → is_the (codes "others") word ≡ false
    → IsItem word → IsItem name → item by (word ∷ name ∷ rest) ≡ Ok range → behind_commas rest ≡ [] → behind_items rest ≡ rest
    → verdict_or_none (behind_colon rest) ≡ Ok value → sentence_in by (word ∷ name ∷ rest) ≡ Ok (Row (range ∷ []) value)
row_read by word name rest range value begins arch default others first second is commas items read =
    ap (stopped_at (word ∷ name ∷ rest))
    (row_said by word (name ∷ rest) begins arch default others ∙ row_of by word name rest range value first second is commas items read)

-- ---- a word that begins with a digit

abbrev BeginsLow : List ℕ → Type 0
BeginsLow [] = ⊥
BeginsLow (byte ∷ bytes) = (48 ≤ byte) × (byte < 58)

low : (digit : ℕ) → digit_value digit < 10 → (48 ≤ digit) × (digit < 58)
low digit h = elim (cases_lt digit 48) [
  | inl below ↦ let t = lt-ltb digit 48 below in let none : digit_value digit ≡ 36 = rw t refl in absurd (omega (arith, none, h))
  | inr from ↦ elim (cases_lt digit 58) [
    | inl to ↦ (from, to)
    | inr above ↦ absurd (no_digit digit from above h)
  ]
]

digits_low : (digits more : List ℕ) → 0 < length digits → AllDigits 10 digits → BeginsLow (digits ++ more)
digits_low [] more some all = absurd (omega (arith, some))
digits_low (digit ∷ digits) more some all = low digit all.0

decimal_low : (n : ℕ) (more : List ℕ) → n < 2 ^ 32 → BeginsLow (decimal n ++ more)
decimal_low n more h = let numeral = decimal_is_IsNumeral n (omega (arith, h)) in digits_low (decimal n) more numeral.0.0 numeral.0.1

numbers_low : (first last : ℕ) → first ≤ last → last < 2 ^ 32 → BeginsLow (numbers_text first last)
numbers_low first last le small = elim (cases_Bool (first == last)) [
  | inl t ↦ rw t (subst BeginsLow (append-nil (decimal first)) (decimal_low first [] (omega (arith, le, small))))
  | inr f ↦ rw f (decimal_low first (45 ∷ decimal last) (omega (arith, le, small)))
]

other_word : (letter : ℕ) (text word : List ℕ) → 58 ≤ letter → BeginsLow text → bytes_eq text (letter ∷ word) ≡ false
other_word letter [] word high h = absurd h
other_word letter (byte ∷ bytes) word high h =
    let other = ne_eqb byte letter (λ same. let below = h.1 in omega (arith, same, below, high)) in
    rw other refl

no_verdict : (text : List ℕ) → BeginsLow text → names_verdict text ≡ false
no_verdict [] h = absurd h
no_verdict (byte ∷ bytes) h =
    let from = h.0 in
    let below = h.1 in
    let slash : (byte == 47) ≡ false = ne_eqb byte 47 (λ same. omega (arith, same, from)) in
    let k = ne_eqb 107 byte (λ same. omega (arith, same, below)) in
    let t = ne_eqb 116 byte (λ same. omega (arith, same, below)) in
    let e = ne_eqb 101 byte (λ same. omega (arith, same, below)) in
    let u = ne_eqb 117 byte (λ same. omega (arith, same, below)) in
    let l = ne_eqb 108 byte (λ same. omega (arith, same, below)) in
    let a = ne_eqb 97 byte (λ same. omega (arith, same, below)) in
    let p = ne_eqb byte 112 (λ same. omega (arith, same, below)) in
    let r = ne_eqb byte 114 (λ same. omega (arith, same, below)) in
    let action : action_in (byte ∷ bytes) ≡ None = ap action_named (before_first-no (λ b. b == 47) byte bytes slash) ∙ rw (k, t, e, u, l, a) refl in
    let expectation : expectation_named (byte ∷ bytes) ≡ None = rw (p, r) refl in
    rw (action, expectation) refl

-- ---- a name

no_from : (b : Bool) → not b ≡ true → b ≡ false
no_from false h = refl
no_from true h = absurd (false≢true h)

name_no_verdict : (by : Architecture) (nr : ℕ) (name : Option (List ℕ)) → name_on by nr ≡ name → names_verdict (unwrap_or name (codes "-")) ≡ false
unfolding is_call
name_no_verdict by nr None h = refl
name_no_verdict by nr (Some name) h =
    let parts = and_parts (is_word name) (begins_name name && not (names_verdict name)) (call_named by nr name h) in
    no_from (names_verdict name) (and_parts (begins_name name) (not (names_verdict name)) parts.1).1

names_no_verdict : (by : Architecture) (first last : ℕ) → names_verdict (name_text by first last) ≡ false
names_no_verdict by first last = elim (cases_Bool (first == last)) [
  | inl t ↦ rw t (name_no_verdict by first (name_on by first) refl)
  | inr f ↦ rw f refl
]

-- ---- a verdict

abbrev is_stopped : Result ℕ Stop → Bool
is_stopped (Ok value) = false
is_stopped (Err stop) = true

none_from : {X : Type 0} (found : Option X) → is_some found ≡ false → found ≡ None
none_from None h = refl
none_from (Some value) h = absurd (false≢true (sym h))

verdict_begins : (word : Word) (rest : List Word) (value : ℕ) → only_verdict (word ∷ rest) ≡ Ok value → names_verdict word.text ≡ true
unfolding only_verdict verdict verdict_of_word action_value
verdict_begins word rest value h = elim (cases_Bool (names_verdict word.text)) [
  | inl t ↦ t
  | inr f ↦
      let neither = or_parts (is_some (action_in word.text)) (is_some (expectation_named word.text)) f in
      let action = none_from (action_in word.text) neither.0 in
      let expectation = none_from (expectation_named word.text) neither.1 in
      let stopped : is_stopped (only_verdict (word ∷ rest)) ≡ true = rw (action, expectation) refl in
      absurd (false≢true (sym (ap is_stopped h) ∙ stopped))
]

record IsVerdict (words : List Word) (value : ℕ) : Type 0 where
  commas : behind_commas words ≡ []
  items : behind_items words ≡ words
  read : verdict_or_none (behind_colon words) ≡ Ok (Some value)
  ends : item_ends words ≡ Ok tt

no_colon : (word : Word) → names_verdict word.text ≡ true → is_the (codes ":") word ≡ false
no_colon word begins = elim (cases_Bool (is_the (codes ":") word)) [
  | inl t ↦ absurd (false≢true (sym (ap names_verdict (same_text word.text (codes ":") t)) ∙ begins))
  | inr f ↦ f
]

verdict_first : (word : Word) (rest : List Word) (value : ℕ) → only_verdict (word ∷ rest) ≡ Ok value → names_verdict word.text ≡ true
    → IsVerdict (word ∷ rest) value
unfolding ends_items ends_item item_ends behind_colon verdict_or_none
verdict_first word rest value h begins =
    let colon = no_colon word begins in
    record {
      commas = rw (colon, begins) refl;
      items = rw (colon, begins) refl;
      read = rw (colon, h) refl;
      ends = elim (cases_Bool (is_the (codes ",") word)) [ inl t ↦ rw t refl | inr f ↦ rw (f, colon, begins) refl ];
    }

verdict_rest : (words : List Word) (value : ℕ) → only_verdict words ≡ Ok value → IsVerdict words value
unfolding only_verdict verdict
verdict_rest [] value h = absurd (false≢true (sym (ap is_stopped h)))
verdict_rest (word ∷ rest) value h = verdict_first word rest value h (verdict_begins word rest value h)

-- ---- whole lines

abbrev numbers_at : ℕ → ℕ → ℕ → Word
numbers_at line first last = record { text = numbers_text first last; line = line; place = Beginning }

abbrev name_at : Architecture → ℕ → ℕ → ℕ → Word
name_at by line first last = record { text = name_text by first last; line = line; place = Behind }

whole : (by : Architecture) (first last line : ℕ) (rest : List Word) (value : Option ℕ) → first ≤ last → last < 2 ^ 32 → item_ends rest ≡ Ok tt
    → behind_commas rest ≡ [] → behind_items rest ≡ rest → verdict_or_none (behind_colon rest) ≡ Ok value
    → sentence_in by (numbers_at line first last ∷ name_at by line first last ∷ rest) ≡ Ok (Row (record { first = first; last = last } ∷ []) value)
whole by first last line rest value le small ends commas items read =
    let digit = numbers_low first last le small in
    row_read by (numbers_at line first last) (name_at by line first last) rest (record { first = first; last = last }) value refl
    (other_word 97 (numbers_text first last) (codes "rch") (omega arith) digit)
    (other_word 100 (numbers_text first last) (codes "efault") (omega arith) digit)
    (other_word 111 (numbers_text first last) (codes "thers") (omega arith) digit)
    (item_word (numbers_at line first last) (numbers_word first last le small) (no_verdict (numbers_text first last) digit))
    (item_word (name_at by line first last) (names_word by first last) (names_no_verdict by first last))
    (both_read by first last line Beginning Behind rest le small ends) commas items read

pub heads_come_back : HeadsComeBack
unfolding item_ends behind_colon verdict_or_none
heads_come_back by first last number le small =
    ap (λ words. sentence_in by (placed number Beginning words))
    (two_words (numbers_text first last) (name_text by first last) (numbers_word first last le small) (names_word by first last))
    ∙ whole by first last number [] None le small refl refl refl refl

pub rows_come_back : RowsComeBack
rows_come_back by first last value number le small named errno =
    let rest = placed number Behind (words_of_line (verdict_text value)) in
    let verdict = verdict_rest rest value (verdicts_come_back value number Behind named errno) in
    ap (λ words. sentence_in by (placed number Beginning words))
    (two_before (numbers_text first last) (name_text by first last) (verdict_text value) (numbers_word first last le small) (names_word by first last))
    ∙ whole by first last number rest (Some value) le small verdict.ends verdict.commas verdict.items verdict.read
