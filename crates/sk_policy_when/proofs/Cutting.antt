-- A line is read word by word.
use Rattle.std.proofs.Common.{◌≡◌, ◌==◌, ◌&&◌, ◌||◌, not, ◌∙◌, ap, sym, refl, inl, inr, ℕ, List, [], ◌∷◌, ◌++◌, length, map, Bool, true, false, append_assoc}
use Rattle.std.proofs.lemmas.Bool.{and_from, and_parts, and_right, cases_Bool, eqb-true, false≢true}
use Rattle.std.proofs.lemmas.List.{append-nil}
use Rattle.std.proofs.lemmas.List.Folds.{list_all-append}
use Rattle.std.specs.List.{before_first, list_all}
use Rattle.sk_text.proofs.Cuts.{before_first-no}
use Rattle.sk_policy_text.specs.declared.token.Relation.TheVariants as relation
use Rattle.sk_policy_text.specs.declared.token.Token.{Token}
use Rattle.sk_policy_text.specs.declared.token.Token.TheVariants as token
use Rattle.sk_policy_text.specs.Words.{goes_on, begun, is_blank, is_letter_or_digit, is_pair, is_word_byte, words_behind, words_of_line}
use Rattle.sk_policy_text.specs.ConditionsTokens.{token_of, operator_named, relation_named}
use Rattle.sk_policy_when.specs.Written.{read}

-- ---- bytes

pub no_word_byte : (byte n : ℕ) → is_word_byte n ≡ false → is_word_byte byte ≡ true → (byte == n) ≡ false
no_word_byte byte n other h = elim (cases_Bool (byte == n)) [
  | inl t ↦
      let same = eqb-true byte n t in
      absurd (false≢true (sym other ∙ sym (ap is_word_byte same) ∙ h))
  | inr f ↦ f
]

pub no_blank : (byte : ℕ) → is_word_byte byte ≡ true → is_blank byte ≡ false
unfolding is_word_byte is_letter_or_digit is_blank
no_blank byte h = rw (no_word_byte byte 32 refl h, no_word_byte byte 9 refl h, no_word_byte byte 13 refl h) refl

pub no_remark : (byte : ℕ) → is_word_byte byte ≡ true → (byte == 35) ≡ false
unfolding is_word_byte is_letter_or_digit
no_remark byte h = no_word_byte byte 35 refl h

no_bar : (byte : ℕ) → is_word_byte byte ≡ true → (byte == 124) ≡ false
unfolding is_word_byte is_letter_or_digit
no_bar byte h = no_word_byte byte 124 refl h

-- no line feed (10), no comma (44), and nothing that begins a remark (35)
abbrev pub is_clean : ℕ → Bool
is_clean byte = not (byte == 10) && (not (byte == 35) && not (byte == 44))

abbrev pub AreClean : List ℕ → Type 0
AreClean text = list_all is_clean text ≡ true

pub both_clean : (one other : List ℕ) → AreClean one → AreClean other → AreClean (one ++ other)
both_clean one other h k = list_all-append is_clean one other ∙ and_from (list_all is_clean one) (list_all is_clean other) h k

clean_byte : (byte : ℕ) → is_word_byte byte ≡ true → is_clean byte ≡ true
unfolding is_word_byte is_letter_or_digit
clean_byte byte h = rw (no_word_byte byte 10 refl h, no_word_byte byte 35 refl h, no_word_byte byte 44 refl h) refl

-- ---- runs of letters and digits

-- one or more of the bytes of such words
abbrev pub is_run : List ℕ → Bool
is_run [] = false
is_run (byte ∷ bytes) = is_word_byte byte && list_all is_word_byte bytes

clean_bytes : (bytes : List ℕ) → list_all is_word_byte bytes ≡ true → AreClean bytes
clean_bytes [] all = refl
clean_bytes (byte ∷ bytes) all =
    let parts = and_parts (is_word_byte byte) (list_all is_word_byte bytes) all in
    and_from (is_clean byte) (list_all is_clean bytes) (clean_byte byte parts.0) (clean_bytes bytes parts.1)

pub run_clean : (word : List ℕ) → is_run word ≡ true → AreClean word
run_clean [] h = refl
run_clean (first ∷ bytes) h = clean_bytes (first ∷ bytes) h

-- what may stand behind them: nothing, a space, `)` or `|`
abbrev pub ends : List ℕ → Bool
ends [] = true
ends (byte ∷ rest) = byte == 32 || byte == 41 || byte == 124

-- the text before a remark
abbrev before : List ℕ → List ℕ
before line = before_first (λ byte. byte == 35) line

run_on : (first : ℕ) (more bytes rest : List ℕ) → is_word_byte first ≡ true → list_all is_word_byte bytes ≡ true
    → words_behind (first ∷ more) (bytes ++ rest) ≡ words_behind (first ∷ (more ++ bytes)) rest
unfolding goes_on
run_on first more [] rest t all = ap (λ l. words_behind (first ∷ l) rest) (sym (append-nil more))
run_on first more (byte ∷ bytes) rest t all =
    let parts = and_parts (is_word_byte byte) (list_all is_word_byte bytes) all in
    rw (t, parts.0) (run_on first (more ++ byte ∷ []) bytes rest t parts.1)
    ∙ ap (λ l. words_behind (first ∷ l) rest) (append_assoc more (byte ∷ []) bytes)

before_run : (bytes rest : List ℕ) → list_all is_word_byte bytes ≡ true → before (bytes ++ rest) ≡ bytes ++ before rest
before_run [] rest all = refl
before_run (byte ∷ bytes) rest all =
    let parts = and_parts (is_word_byte byte) (list_all is_word_byte bytes) all in
    before_first-no (λ b. b == 35) byte (bytes ++ rest) (no_remark byte parts.0) ∙ ap (λ l. byte ∷ l) (before_run bytes rest parts.1)

-- a word ends before a byte that is none of its own
stops : (first : ℕ) (more : List ℕ) (byte : ℕ) (rest : List ℕ) → goes_on (first ∷ more) byte ≡ false
    → words_behind (first ∷ more) (byte ∷ rest) ≡ (first ∷ more) ∷ words_behind [] (byte ∷ rest)
unfolding goes_on
stops first more byte rest f = rw f refl

space_parts : (first : ℕ) (more : List ℕ) → is_word_byte first ≡ true → goes_on (first ∷ more) 32 ≡ false
unfolding goes_on is_word_byte is_letter_or_digit is_pair
space_parts first more h =
    let other = no_word_byte first 32 refl h in
    let no_pair : (length more == 0 && is_pair first 32) ≡ false = and_right (length more == 0) (is_pair first 32) (rw other refl) in
    rw (h, no_pair) refl

close_parts : (first : ℕ) (more : List ℕ) → is_word_byte first ≡ true → goes_on (first ∷ more) 41 ≡ false
unfolding goes_on is_word_byte is_letter_or_digit is_pair
close_parts first more h =
    let other = no_word_byte first 41 refl h in
    let no_pair : (length more == 0 && is_pair first 41) ≡ false = and_right (length more == 0) (is_pair first 41) (rw other refl) in
    rw (h, no_pair) refl

bar_parts : (first : ℕ) (more : List ℕ) → is_word_byte first ≡ true → goes_on (first ∷ more) 124 ≡ false
unfolding goes_on is_word_byte is_letter_or_digit is_pair
bar_parts first more h =
    let other = no_word_byte first 124 refl h in
    let no_pair : (length more == 0 && is_pair first 124) ≡ false = and_right (length more == 0) (is_pair first 124) (rw other refl) in
    rw (h, no_pair) refl

run_stops : (first : ℕ) (more : List ℕ) (byte : ℕ) (rest : List ℕ) → is_word_byte first ≡ true → ends (byte ∷ rest) ≡ true → goes_on (first ∷ more) byte ≡ false
run_stops first more byte rest h e = elim (cases_Bool (byte == 32)) [
  | inl t ↦ ap (goes_on (first ∷ more)) (eqb-true byte 32 t) ∙ space_parts first more h
  | inr f ↦ elim (cases_Bool (byte == 41)) [
    | inl t ↦ ap (goes_on (first ∷ more)) (eqb-true byte 41 t) ∙ close_parts first more h
    | inr g ↦
        let t : (byte == 124) ≡ true = rw (f, g) at e in
        ap (goes_on (first ∷ more)) (eqb-true byte 124 t) ∙ bar_parts first more h
  ]
]

no_remark_ends : (byte : ℕ) (rest : List ℕ) → ends (byte ∷ rest) ≡ true → (byte == 35) ≡ false
no_remark_ends byte rest e = elim (cases_Bool (byte == 35)) [
  | inl t ↦
      let same = eqb-true byte 35 t in
      let none : false ≡ true = sym (ap (λ b. ends (b ∷ rest)) same) ∙ e in
      absurd (false≢true none)
  | inr f ↦ f
]

ends_run : (first : ℕ) (more rest : List ℕ) → is_word_byte first ≡ true → ends rest ≡ true
    → words_behind (first ∷ more) (before rest) ≡ (first ∷ more) ∷ words_behind [] (before rest)
ends_run first more [] h e = refl
ends_run first more (byte ∷ rest) h e =
    let front = before_first-no (λ b. b == 35) byte rest (no_remark_ends byte rest e) in
    ap (words_behind (first ∷ more)) front
    ∙ stops first more byte (before rest) (run_stops first more byte rest h e)
    ∙ ap (λ l. (first ∷ more) ∷ words_behind [] l) (sym front)

pub begins_run : (byte : ℕ) (rest : List ℕ) → is_word_byte byte ≡ true → words_behind [] (byte ∷ rest) ≡ words_behind (byte ∷ []) rest
unfolding goes_on begun
begins_run byte rest h = rw (no_blank byte h) refl

-- they are one word
pub run_reads : (word rest : List ℕ) → is_run word ≡ true → ends rest ≡ true → read (word ++ rest) ≡ token_of word ∷ read rest
run_reads [] rest h e = absurd (false≢true h)
run_reads (first ∷ bytes) rest h e =
    let parts = and_parts (is_word_byte first) (list_all is_word_byte bytes) h in
    let words : words_of_line ((first ∷ bytes) ++ rest) ≡ (first ∷ bytes) ∷ words_of_line rest =
    ap (words_behind []) (before_run (first ∷ bytes) rest h)
    ∙ begins_run first (bytes ++ before rest) parts.0
    ∙ run_on first [] bytes (before rest) parts.0 parts.1
    ∙ ends_run first bytes rest parts.0 e in
    ap (map token_of) words

-- ---- brackets and signs

-- a byte that no other one follows in its word is a word
alone : (byte : ℕ) (rest : List ℕ) → ((next : ℕ) → goes_on (byte ∷ []) next ≡ false) → words_behind (byte ∷ []) rest ≡ (byte ∷ []) ∷ words_behind [] rest
alone byte [] h = refl
alone byte (next ∷ rest) h = stops byte [] next rest (h next)

never : (byte next : ℕ) → (byte == next && false) ≡ false
never byte next = and_right (byte == next) false refl

nor : (next : ℕ) → (next == 61 && false) ≡ false
nor next = and_right (next == 61) false refl

open_alone : (next : ℕ) → goes_on (40 ∷ []) next ≡ false
unfolding goes_on is_word_byte is_letter_or_digit is_pair
open_alone next = rw (never 40 next, nor next) refl

close_alone : (next : ℕ) → goes_on (41 ∷ []) next ≡ false
unfolding goes_on is_word_byte is_letter_or_digit is_pair
close_alone next = rw (never 41 next, nor next) refl

not_alone : (next : ℕ) → goes_on (126 ∷ []) next ≡ false
unfolding goes_on is_word_byte is_letter_or_digit is_pair
not_alone next = rw (never 126 next, nor next) refl

pub open_reads : (rest : List ℕ) → read (40 ∷ rest) ≡ token.Open ∷ read rest
unfolding begun goes_on is_blank token_of operator_named
open_reads rest = ap (λ l. map token_of (words_behind [] l)) (before_first-no (λ b. b == 35) 40 rest refl) ∙ ap (map token_of) (alone 40 (before rest) open_alone)

pub close_reads : (rest : List ℕ) → read (41 ∷ rest) ≡ token.Close ∷ read rest
unfolding begun goes_on is_blank token_of operator_named
close_reads rest = ap (λ l. map token_of (words_behind [] l)) (before_first-no (λ b. b == 35) 41 rest refl) ∙ ap (map token_of) (alone 41 (before rest) close_alone)

pub not_reads : (rest : List ℕ) → read (126 ∷ rest) ≡ token.BitNot ∷ read rest
unfolding begun goes_on is_blank token_of operator_named
not_reads rest = ap (λ l. map token_of (words_behind [] l)) (before_first-no (λ b. b == 35) 126 rest refl) ∙ ap (map token_of) (alone 126 (before rest) not_alone)

-- `|` before a word
bar_stops : (byte : ℕ) → is_word_byte byte ≡ true → goes_on (124 ∷ []) byte ≡ false
unfolding goes_on is_word_byte is_letter_or_digit is_pair
bar_stops byte h = elim (cases_Bool (124 == byte)) [
  | inl t ↦
      let same = eqb-true 124 byte t in
      absurd (false≢true (ap is_word_byte same ∙ h))
  | inr f ↦ rw (f, nor byte) refl
]

bar_begins : (rest : List ℕ) → words_behind [] (124 ∷ rest) ≡ words_behind (124 ∷ []) rest
unfolding begun is_blank goes_on
bar_begins rest = refl

bar_cut : (byte : ℕ) (rest : List ℕ) → is_word_byte byte ≡ true → words_behind [] (124 ∷ byte ∷ rest) ≡ (124 ∷ []) ∷ words_behind [] (byte ∷ rest)
bar_cut byte rest h = bar_begins (byte ∷ rest) ∙ stops 124 [] byte rest (bar_stops byte h)

pub bar_reads : (word rest : List ℕ) → is_run word ≡ true → read (124 ∷ (word ++ rest)) ≡ token.BitOr ∷ read (word ++ rest)
unfolding token_of operator_named
bar_reads [] rest h = absurd (false≢true h)
bar_reads (first ∷ bytes) rest h =
    let parts = and_parts (is_word_byte first) (list_all is_word_byte bytes) h in
    let front = before_first-no (λ b. b == 35) first (bytes ++ rest) (no_remark first parts.0) in
    ap (λ l. map token_of (words_behind [] l)) (before_first-no (λ b. b == 35) 124 (first ∷ (bytes ++ rest)) refl ∙ ap (λ l. 124 ∷ l) front)
    ∙ ap (map token_of) (bar_cut first (before (bytes ++ rest)) parts.0)
    ∙ ap (λ l. token.BitOr ∷ map token_of (words_behind [] l)) (sym front)

-- ---- operators between spaces

four : (a b c d : ℕ) (rest : List ℕ) → (a == 35) ≡ false → (b == 35) ≡ false → (c == 35) ≡ false → (d == 35) ≡ false
    → before (a ∷ b ∷ c ∷ d ∷ rest) ≡ a ∷ b ∷ c ∷ d ∷ before rest
four a b c d rest e f g h =
    before_first-no (λ x. x == 35) a (b ∷ c ∷ d ∷ rest) e
    ∙ ap (λ l. a ∷ l) (before_first-no (λ x. x == 35) b (c ∷ d ∷ rest) f
    ∙ ap (λ l. b ∷ l) (before_first-no (λ x. x == 35) c (d ∷ rest) g
    ∙ ap (λ l. c ∷ l) (before_first-no (λ x. x == 35) d rest h)))

three : (a b c : ℕ) (rest : List ℕ) → (a == 35) ≡ false → (b == 35) ≡ false → (c == 35) ≡ false → before (a ∷ b ∷ c ∷ rest) ≡ a ∷ b ∷ c ∷ before rest
three a b c rest e f g =
    before_first-no (λ x. x == 35) a (b ∷ c ∷ rest) e
    ∙ ap (λ l. a ∷ l) (before_first-no (λ x. x == 35) b (c ∷ rest) f
    ∙ ap (λ l. b ∷ l) (before_first-no (λ x. x == 35) c rest g))

module _ (rest : List ℕ) where
  cut : List ℕ → List Token
  cut line = map token_of (words_behind [] line)

  pub and_reads : read (32 ∷ 38 ∷ 38 ∷ 32 ∷ rest) ≡ token.And ∷ read rest
  unfolding cut begun goes_on is_blank is_pair is_word_byte is_letter_or_digit token_of operator_named relation_named
  and_reads = ap cut (four 32 38 38 32 rest refl refl refl refl)

  pub or_reads : read (32 ∷ 124 ∷ 124 ∷ 32 ∷ rest) ≡ token.Or ∷ read rest
  unfolding cut begun goes_on is_blank is_pair is_word_byte is_letter_or_digit token_of operator_named relation_named
  or_reads = ap cut (four 32 124 124 32 rest refl refl refl refl)

  pub is_reads : read (32 ∷ 61 ∷ 61 ∷ 32 ∷ rest) ≡ token.Compare relation.Is ∷ read rest
  unfolding cut begun goes_on is_blank is_pair is_word_byte is_letter_or_digit token_of operator_named relation_named
  is_reads = ap cut (four 32 61 61 32 rest refl refl refl refl)

  pub is_not_reads : read (32 ∷ 33 ∷ 61 ∷ 32 ∷ rest) ≡ token.Compare relation.IsNot ∷ read rest
  unfolding cut begun goes_on is_blank is_pair is_word_byte is_letter_or_digit token_of operator_named relation_named
  is_not_reads = ap cut (four 32 33 61 32 rest refl refl refl refl)

  pub at_most_reads : read (32 ∷ 60 ∷ 61 ∷ 32 ∷ rest) ≡ token.Compare relation.AtMost ∷ read rest
  unfolding cut begun goes_on is_blank is_pair is_word_byte is_letter_or_digit token_of operator_named relation_named
  at_most_reads = ap cut (four 32 60 61 32 rest refl refl refl refl)

  pub at_least_reads : read (32 ∷ 62 ∷ 61 ∷ 32 ∷ rest) ≡ token.Compare relation.AtLeast ∷ read rest
  unfolding cut begun goes_on is_blank is_pair is_word_byte is_letter_or_digit token_of operator_named relation_named
  at_least_reads = ap cut (four 32 62 61 32 rest refl refl refl refl)

  pub below_reads : read (32 ∷ 60 ∷ 32 ∷ rest) ≡ token.Compare relation.Below ∷ read rest
  unfolding cut begun goes_on is_blank is_pair is_word_byte is_letter_or_digit token_of operator_named relation_named
  below_reads = ap cut (three 32 60 32 rest refl refl refl)

  pub bits_reads : read (32 ∷ 38 ∷ 32 ∷ rest) ≡ token.BitAnd ∷ read rest
  unfolding cut begun goes_on is_blank is_pair is_word_byte is_letter_or_digit token_of operator_named relation_named
  bits_reads = ap cut (three 32 38 32 rest refl refl refl)
