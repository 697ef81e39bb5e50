-- Words of letters and digits, with a space between two, are cut as they were written.
use Rattle.std.proofs.Common.{◌≡◌, ◌<◌, ◌≤◌, ◌-◌, ◌==◌, ◌&&◌, ◌∙◌, ap, arith, sym, refl, inl, inr, ℕ, List, [], ◌∷◌, ◌++◌, length, Bool, true, false, not, append_assoc}
use Rattle.std.proofs.lemmas.Bool.{and_from, and_parts, and_right, cases_Bool, cases_lt, eqb-true, false≢true, le-leb, le-ltb, lt-leb, lt-ltb}
use Rattle.std.proofs.lemmas.List.{append-nil}
use Rattle.std.proofs.lemmas.List.Folds.{list_all-append}
use Rattle.std.proofs.lemmas.Fmt.{decimal_is_IsNumeral}
use Rattle.std.specs.Char.{digit_value}
use Rattle.std.specs.Fmt.{decimal}
use Rattle.std.specs.List.{before_first, list_all}
use Rattle.std.specs.Str.Parse.{AllDigits}
use Rattle.sk_text.specs.Lines.{has_bytes}
use Rattle.sk_text.proofs.Cuts.{before_first-no, bytes_some}
use Rattle.sk_policy_text.specs.Words.{goes_on, is_blank, is_letter_or_digit, is_pair, is_word_byte, words_behind, words_of_line}
use Rattle.sk_policy_text.proofs.Cuts.{byte_begins, blank_parts, word_ends, word_last}

-- ---- bytes

no_word_byte : (byte n : ℕ) → is_word_byte n ≡ false → is_word_byte byte ≡ true → (byte == n) ≡ false
no_word_byte byte n other h = elim (cases_Bool (byte == n)) [
  | inl t ↦
      let same = eqb-true byte n t in
      absurd (false≢true (sym other ∙ sym (ap is_word_byte same) ∙ h))
  | inr f ↦ f
]

no_blank : (byte : ℕ) → is_word_byte byte ≡ true → is_blank byte ≡ false
unfolding is_word_byte is_letter_or_digit is_blank
no_blank byte h = rw (no_word_byte byte 32 refl h, no_word_byte byte 9 refl h, no_word_byte byte 13 refl h) refl

no_remark : (byte : ℕ) → is_word_byte byte ≡ true → (byte == 35) ≡ false
unfolding is_word_byte is_letter_or_digit
no_remark byte h = no_word_byte byte 35 refl h

-- ---- words

unfoldable pub is_word : List ℕ → Bool
is_word word = has_bytes word && list_all is_word_byte word

-- a word takes what follows of a run
run_on : (first : ℕ) (more bytes rest : List ℕ) → is_word_byte first ≡ true → list_all is_word_byte bytes ≡ true
    → words_behind (first ∷ more) (bytes ++ rest) ≡ words_behind (first ∷ (more ++ bytes)) rest
unfolding goes_on
run_on first more [] rest t all = ap (λ l. words_behind (first ∷ l) rest) (sym (append-nil more))
run_on first more (byte ∷ bytes) rest t all =
    let parts = and_parts (is_word_byte byte) (list_all is_word_byte bytes) all in
    rw (t, parts.0) (run_on first (more ++ byte ∷ []) bytes rest t parts.1)
    ∙ ap (λ l. words_behind (first ∷ l) rest) (append_assoc more (byte ∷ []) bytes)

pub word_first : (word rest : List ℕ) → is_word word ≡ true → words_behind [] (word ++ rest) ≡ words_behind word rest
unfolding is_word
word_first [] rest h = absurd (false≢true h)
word_first (first ∷ bytes) rest h =
    let parts = and_parts (is_word_byte first) (list_all is_word_byte bytes) h in
    byte_begins first (bytes ++ rest) (no_blank first parts.0) ∙ run_on first [] bytes rest parts.0 parts.1

word-some : (word : List ℕ) → is_word word ≡ true → 0 < length word
unfolding is_word
word-some [] h = absurd (false≢true h)
word-some (first ∷ bytes) h = omega arith

pub word_alone : (word : List ℕ) → is_word word ≡ true → words_behind [] word ≡ word ∷ []
word_alone word h =
    ap (words_behind []) (sym (append-nil word)) ∙ word_first word [] h ∙ word_last word (word-some word h)

-- a space ends a word
space_parts : (first : ℕ) (bytes : List ℕ) → is_word_byte first ≡ true → goes_on (first ∷ bytes) 32 ≡ false
unfolding goes_on is_word_byte is_letter_or_digit is_pair
space_parts first bytes h =
    let other = no_word_byte first 32 refl h in
    let no_pair : (length bytes == 0 && is_pair first 32) ≡ false = and_right (length bytes == 0) (is_pair first 32) (rw other refl) in
    rw (h, no_pair) refl

space_ends : (word rest : List ℕ) → is_word word ≡ true → words_behind word (32 ∷ rest) ≡ word ∷ words_behind [] rest
unfolding is_word is_blank
space_ends [] rest h = absurd (false≢true h)
space_ends (first ∷ bytes) rest h =
    let parts = and_parts (is_word_byte first) (list_all is_word_byte bytes) h in
    word_ends (first ∷ bytes) 32 rest (omega arith) (space_parts first bytes parts.0)
    ∙ ap (λ l. (first ∷ bytes) ∷ l) (blank_parts 32 rest refl)

pub word_then : (word rest : List ℕ) → is_word word ≡ true → words_behind [] (word ++ (32 ∷ rest)) ≡ word ∷ words_behind [] rest
word_then word rest h = word_first word (32 ∷ rest) h ∙ space_ends word rest h

-- ---- lines without a remark

abbrev is_plain : ℕ → Bool
is_plain byte = not (byte == 35)

plain_line : (line : List ℕ) → list_all is_plain line ≡ true → before_first (λ byte. byte == 35) line ≡ line
plain_line [] h = refl
plain_line (byte ∷ rest) h = elim (cases_Bool (byte == 35)) [
  | inl t ↦ absurd (false≢true (rw t at h))
  | inr f ↦
      let more : list_all is_plain rest ≡ true = rw f at h in
      before_first-no (λ b. b == 35) byte rest f ∙ ap (λ l. byte ∷ l) (plain_line rest more)
]

all_plain : (bytes : List ℕ) → list_all is_word_byte bytes ≡ true → list_all is_plain bytes ≡ true
all_plain [] h = refl
all_plain (byte ∷ bytes) h =
    let parts = and_parts (is_word_byte byte) (list_all is_word_byte bytes) h in
    rw (no_remark byte parts.0) (all_plain bytes parts.1)

word_plain : (word : List ℕ) → is_word word ≡ true → list_all is_plain word ≡ true
unfolding is_word
word_plain word h = all_plain word (and_parts (has_bytes word) (list_all is_word_byte word) h).1

pub one_word : (word : List ℕ) → is_word word ≡ true → words_of_line word ≡ word ∷ []
one_word word h = ap (words_behind []) (plain_line word (word_plain word h)) ∙ word_alone word h

pub two_words : (word other : List ℕ) → is_word word ≡ true → is_word other ≡ true → words_of_line (word ++ (32 ∷ other)) ≡ word ∷ other ∷ []
two_words word other h k =
    let plain = list_all-append is_plain word (32 ∷ other) ∙ and_from (list_all is_plain word) (list_all is_plain other) (word_plain word h) (word_plain other k) in
    ap (words_behind []) (plain_line (word ++ (32 ∷ other)) plain) ∙ word_then word other h ∙ ap (λ l. word ∷ l) (word_alone other k)

-- what stands before a remark, where plain bytes come first
plain_first : (bytes rest : List ℕ) → list_all is_plain bytes ≡ true
    → before_first (λ byte. byte == 35) (bytes ++ rest) ≡ bytes ++ before_first (λ byte. byte == 35) rest
plain_first [] rest h = refl
plain_first (byte ∷ bytes) rest h = elim (cases_Bool (byte == 35)) [
  | inl t ↦ absurd (false≢true (rw t at h))
  | inr f ↦
      let more : list_all is_plain bytes ≡ true = rw f at h in
      before_first-no (λ b. b == 35) byte (bytes ++ rest) f ∙ ap (λ l. byte ∷ l) (plain_first bytes rest more)
]

pub one_before : (word rest : List ℕ) → is_word word ≡ true → words_of_line (word ++ (32 ∷ rest)) ≡ word ∷ words_of_line rest
one_before word rest h =
    ap (words_behind []) (plain_first word (32 ∷ rest) (word_plain word h) ∙ ap (λ l. word ++ l) (before_first-no (λ b. b == 35) 32 rest refl))
    ∙ word_then word (before_first (λ byte. byte == 35) rest) h

pub two_before : (word other rest : List ℕ) → is_word word ≡ true → is_word other ≡ true
    → words_of_line (word ++ (32 ∷ (other ++ (32 ∷ rest)))) ≡ word ∷ other ∷ words_of_line rest
two_before word other rest h k = one_before word (other ++ (32 ∷ rest)) h ∙ ap (λ l. word ∷ l) (one_before other rest k)

-- ---- digits

pub no_digit : (digit : ℕ) → 48 ≤ digit → 58 ≤ digit → digit_value digit < 10 → ⊥
no_digit digit from above h =
    let a = le-ltb digit 48 from in
    let b = le-ltb digit 58 above in
    elim (cases_lt digit 65) [
      | inl c ↦ let t = lt-ltb digit 65 c in let e : digit_value digit ≡ 36 = rw (a, b, t) refl in omega (arith, e, h)
      | inr c ↦ let u = le-ltb digit 65 c in elim (cases_lt digit 91) [
        | inl d ↦ let t = lt-ltb digit 91 d in let e : digit_value digit ≡ digit - 55 = rw (a, b, u, t) refl in omega (arith, e, h, c)
        | inr d ↦ let w = le-ltb digit 91 d in elim (cases_lt digit 97) [
          | inl f ↦ let t = lt-ltb digit 97 f in let e : digit_value digit ≡ 36 = rw (a, b, u, w, t) refl in omega (arith, e, h)
          | inr f ↦ let x = le-ltb digit 97 f in elim (cases_lt digit 123) [
            | inl g ↦ let t = lt-ltb digit 123 g in let e : digit_value digit ≡ digit - 87 = rw (a, b, u, w, x, t) refl in omega (arith, e, h, f)
            | inr g ↦ let t = le-ltb digit 123 g in let e : digit_value digit ≡ 36 = rw (a, b, u, w, x, t) refl in omega (arith, e, h)
          ]
        ]
      ]
    ]

digit_byte : (digit : ℕ) → digit_value digit < 10 → is_word_byte digit ≡ true
unfolding is_word_byte is_letter_or_digit
digit_byte digit h = elim (cases_lt digit 48) [
  | inl below ↦ let t = lt-ltb digit 48 below in let none : digit_value digit ≡ 36 = rw t refl in absurd (omega (arith, none))
  | inr from ↦ elim (cases_lt digit 58) [
    | inl to ↦
        let a = lt-leb 97 digit (omega arith) in
        let b = lt-leb 65 digit (omega arith) in
        let c = le-leb 48 digit from in
        let d = le-leb digit 57 (omega arith) in
        rw (a, b, c, d) refl
    | inr above ↦ absurd (no_digit digit from above h)
  ]
]

digit_bytes : (digits : List ℕ) → AllDigits 10 digits → list_all is_word_byte digits ≡ true
digit_bytes [] all = refl
digit_bytes (digit ∷ digits) all =
    and_from (is_word_byte digit) (list_all is_word_byte digits) (digit_byte digit all.0) (digit_bytes digits all.1)

pub decimal_word : (n : ℕ) → n < 18446744073709551616 → is_word (decimal n) ≡ true
unfolding is_word
decimal_word n h =
    let numeral = decimal_is_IsNumeral n (omega arith) in
    and_from (has_bytes (decimal n)) (list_all is_word_byte (decimal n)) (bytes_some (decimal n) numeral.0.0) (digit_bytes (decimal n) numeral.0.1)

-- ---- longer words

pub word_bytes : (word : List ℕ) → is_word word ≡ true → list_all is_word_byte word ≡ true
unfolding is_word
word_bytes word h = (and_parts (has_bytes word) (list_all is_word_byte word) h).1

pub longer_word : (word bytes : List ℕ) → is_word word ≡ true → list_all is_word_byte bytes ≡ true → is_word (word ++ bytes) ≡ true
unfolding is_word
longer_word [] bytes h all = absurd (false≢true h)
longer_word (first ∷ word) bytes h all = list_all-append is_word_byte (first ∷ word) bytes ∙ and_from (list_all is_word_byte (first ∷ word)) (list_all is_word_byte bytes) h all
