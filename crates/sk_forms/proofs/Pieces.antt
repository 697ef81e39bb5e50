-- The words of a written text: numbers, signs, and blanks between them.
use Rattle.std.proofs.Common.{◌≡◌, ◌<◌, ◌==◌, ◌∙◌, ap, arith, sym, refl, inl, inr, ℕ, List, [], ◌∷◌, ◌++◌, length, map, Bool, true, false, not, append_assoc}
use Rattle.std.proofs.lemmas.Bool.{and_from, and_left, and_parts, and_right, cases_Bool, eqb-true, false≢true, not_from_false}
use Rattle.std.proofs.lemmas.List.{append-nil}
use Rattle.std.proofs.lemmas.List.Folds.{list_all-append}
use Rattle.std.specs.List.{list_all}
use Rattle.sk_forms.specs.Comments.{end_of, kept, next_place, uncommented}
use Rattle.sk_forms.specs.declared.token.Token.{Token}
use Rattle.sk_forms.specs.declared.token.Token.TheVariants.{Sign}
use Rattle.sk_forms.specs.Tokens.{token_of, tokens_of}
use Rattle.sk_forms.specs.Words.{goes_on, is_blank, is_word_byte, words_behind}
use Rattle.sk_forms.proofs.Cuts.{blank_parts, byte_begins, word_ends}

-- a byte that passes where another doesn't is another
pub not_same : (test : ℕ → Bool) (byte other : ℕ) → test byte ≡ true → test other ≡ false → (byte == other) ≡ false
not_same test byte other t f = elim (cases_Bool (byte == other)) [
  | inl same ↦ absurd (false≢true (sym f ∙ sym (ap test (eqb-true byte other same)) ∙ t))
  | inr differs ↦ differs
]

no_blank : (byte : ℕ) → is_word_byte byte ≡ true → is_blank byte ≡ false
unfolding is_word_byte is_blank
no_blank byte t = rw (not_same is_word_byte byte 32 t refl, not_same is_word_byte byte 9 t refl, not_same is_word_byte byte 13 t refl) refl

-- a word takes what follows of a run
run_on : (first : ℕ) (more bytes rest : List ℕ) → is_word_byte first ≡ true → list_all is_word_byte bytes ≡ true
    → words_behind (first ∷ more) (bytes ++ rest) ≡ words_behind (first ∷ (more ++ bytes)) rest
unfolding goes_on
run_on first more [] rest t all = ap (λ l. words_behind (first ∷ l) rest) (sym (append-nil more))
run_on first more (byte ∷ bytes) rest t all =
    let parts = and_parts (is_word_byte byte) (list_all is_word_byte bytes) all in
    rw (t, parts.0) (run_on first (more ++ byte ∷ []) bytes rest t parts.1)
    ∙ ap (λ l. words_behind (first ∷ l) rest) (append_assoc more (byte ∷ []) bytes)

-- a word ends where something else begins
word_cut : (word : List ℕ) (end : ℕ) (rest : List ℕ) → 0 < length word → list_all is_word_byte word ≡ true → is_word_byte end ≡ false
    → words_behind [] (word ++ end ∷ rest) ≡ word ∷ words_behind [] (end ∷ rest)
unfolding goes_on
word_cut [] end rest some all f = absurd (omega arith)
word_cut (first ∷ bytes) end rest some all f =
    let parts = and_parts (is_word_byte first) (list_all is_word_byte bytes) all in
    byte_begins first (bytes ++ end ∷ rest) (no_blank first parts.0)
    ∙ run_on first [] bytes (end ∷ rest) parts.0 parts.1
    ∙ word_ends (first ∷ bytes) end rest some (and_right (is_word_byte first) (is_word_byte end) f)

sign_cut : (sign : ℕ) (rest : List ℕ) → is_word_byte sign ≡ false → is_blank sign ≡ false → words_behind [] (sign ∷ rest) ≡ (sign ∷ []) ∷ words_behind [] rest
unfolding goes_on
sign_cut sign [] word blank = byte_begins sign [] blank
sign_cut sign (byte ∷ rest) word blank =
    byte_begins sign (byte ∷ rest) blank ∙ word_ends (sign ∷ []) byte rest (omega arith) (and_left (is_word_byte sign) (is_word_byte byte) word)

-- ---- tokens

pub blank_read : (rest : List ℕ) → tokens_of (32 ∷ rest) ≡ tokens_of rest
unfolding is_blank
blank_read rest = ap (λ words. map token_of words) (blank_parts 32 rest refl)

pub sign_read : (sign : ℕ) (rest : List ℕ) → is_word_byte sign ≡ false → is_blank sign ≡ false → token_of (sign ∷ []) ≡ Sign sign
    → tokens_of (sign ∷ rest) ≡ Sign sign ∷ tokens_of rest
sign_read sign rest word blank is = ap (λ words. map token_of words) (sign_cut sign rest word blank) ∙ ap (λ token. token ∷ tokens_of rest) is

pub word_read : (word : List ℕ) (end : ℕ) (rest : List ℕ) (token : Token) → 0 < length word → list_all is_word_byte word ≡ true → is_word_byte end ≡ false
    → token_of word ≡ token → tokens_of (word ++ end ∷ rest) ≡ token ∷ tokens_of (end ∷ rest)
word_read word end rest token some all f is =
    ap (λ words. map token_of words) (word_cut word end rest some all f) ∙ ap (λ first. first ∷ tokens_of (end ∷ rest)) is

pub before_comma : (word rest : List ℕ) (token : Token) → 0 < length word → list_all is_word_byte word ≡ true → token_of word ≡ token
    → tokens_of (word ++ 44 ∷ rest) ≡ token ∷ Sign 44 ∷ tokens_of rest
unfolding is_word_byte is_blank token_of
before_comma word rest token some all is = word_read word 44 rest token some all refl is ∙ ap (λ l. token ∷ l) (sign_read 44 rest refl refl refl)

pub before_blank : (word rest : List ℕ) (token : Token) → 0 < length word → list_all is_word_byte word ≡ true → token_of word ≡ token
    → tokens_of (word ++ 32 ∷ rest) ≡ token ∷ tokens_of rest
unfolding is_word_byte
before_blank word rest token some all is = word_read word 32 rest token some all refl is ∙ ap (λ l. token ∷ l) (blank_read rest)

-- ---- the text has no comment

-- a text without `/` (47) has no comment
abbrev pub no_slash : ℕ → Bool
no_slash byte = not (byte == 47)

slash_free : (byte : ℕ) → no_slash byte ≡ true → (byte == 47) ≡ false
slash_free byte t = not_same no_slash byte 47 t refl

pub no_comment : (text : List ℕ) → list_all no_slash text ≡ true → uncommented text ≡ text
unfolding kept next_place end_of
no_comment [] all = refl
no_comment (byte ∷ rest) all =
    let parts = and_parts (no_slash byte) (list_all no_slash rest) all in
    let f = slash_free byte parts.0 in
    rw f (ap (λ l. byte ∷ l) (no_comment rest parts.1))

pub all_joined : (test : ℕ → Bool) (front back : List ℕ) → list_all test front ≡ true → list_all test back ≡ true → list_all test (front ++ back) ≡ true
all_joined test front back f b = list_all-append test front back ∙ and_from (list_all test front) (list_all test back) f b

pub word_plain : (word : List ℕ) → list_all is_word_byte word ≡ true → list_all no_slash word ≡ true
unfolding is_word_byte
word_plain [] all = refl
word_plain (byte ∷ rest) all =
    let parts = and_parts (is_word_byte byte) (list_all is_word_byte rest) all in
    and_from (no_slash byte) (list_all no_slash rest) (not_from_false (byte == 47) (not_same is_word_byte byte 47 parts.0 refl)) (word_plain rest parts.1)
