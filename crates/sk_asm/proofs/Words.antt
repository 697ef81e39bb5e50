-- A line of words is cut into the words again, and a text of lines into the lines.
use Rattle.std.proofs.Common.{◌≡◌, ◌<◌, ◌≤◌, ◌*◌, ◌==◌, ◌∙◌, ap, arith, refl, ℕ, List, [], ◌∷◌, ◌++◌, Bool, ◌&&◌, true, false, length, get_or, filter, length-append}
use Rattle.std.proofs.lemmas.Bool.{and_from, and_parts, le-leb, leb-true, ltb-true, ne_eqb}
use Rattle.std.proofs.lemmas.List.Folds.{list_all-append}
use Rattle.std.proofs.lemmas.List.Splits.{slice_split_at, slice_split_none}
use Rattle.std.proofs.lemmas.List.Sums.{AllPass-from_list_all}
use Rattle.std.specs.Prelude.{nat_le, nat_lt}
use Rattle.std.specs.List.{All, AllByRecursion, join_with_byte, list_all, onto_first, slice_split}
use Rattle.sk_text.specs.Lines.{has_bytes, is_printable_byte, lines_of, words_of}
use Rattle.sk_text.proofs.Cuts.{bytes_some}

-- a printable byte that is no space
abbrev pub is_visible : ℕ → Bool
is_visible byte = nat_lt 32 byte && nat_le byte 126

-- a word of a listing
pub record IsWord (word : List ℕ) : Type 0 where
  pub some : 0 < length word
  pub short : length word ≤ 11
  pub visible : list_all is_visible word ≡ true

abbrev pub AreWords : List (List ℕ) → Type 0
AreWords words = AllByRecursion IsWord words

visible-bounds : (byte : ℕ) → is_visible byte ≡ true → (32 < byte) × (byte ≤ 126)
visible-bounds byte h =
    let parts = and_parts (nat_lt 32 byte) (nat_le byte 126) h in
    (ltb-true 32 byte parts.0, leb-true byte 126 parts.1)

-- ---- words

no_space : (word : List ℕ) → list_all is_visible word ≡ true → All (λ byte. (byte == 32) ≡ false) word
no_space word h k d within =
    let seen = visible-bounds (get_or word k d) (AllPass-from_list_all is_visible word h k d within) in
    ne_eqb (get_or word k d) 32 (λ same. omega arith)

split_joined : (word : List ℕ) (words : List (List ℕ)) → AreWords (word ∷ words) → slice_split (λ byte. byte == 32) (join_with_byte 32 (word ∷ words)) ≡ word ∷ words
split_joined word [] h = slice_split_none (λ byte. byte == 32) word (no_space word h.0.visible)
split_joined word (next ∷ words) h =
    slice_split_at (λ byte. byte == 32) word 32 (join_with_byte 32 (next ∷ words)) (no_space word h.0.visible) refl
    ∙ ap (λ l. word ∷ l) (split_joined next words h.1)

all_kept : (words : List (List ℕ)) → AreWords words → filter has_bytes words ≡ words
all_kept [] h = refl
all_kept (word ∷ words) h = let some = bytes_some word h.0.some in rw some (ap (λ l. word ∷ l) (all_kept words h.1))

pub words_of-joined : (words : List (List ℕ)) → AreWords words → words_of (join_with_byte 32 words) ≡ words
words_of-joined [] h = refl
words_of-joined (word ∷ words) h = ap (filter has_bytes) (split_joined word words h) ∙ all_kept (word ∷ words) h

-- ---- lines

word-printable : (word : List ℕ) → list_all is_visible word ≡ true → list_all is_printable_byte word ≡ true
unfolding is_printable_byte
word-printable [] h = refl
word-printable (byte ∷ word) h =
    let parts = and_parts (is_visible byte) (list_all is_visible word) h in
    let seen = visible-bounds byte parts.0 in
    and_from (is_printable_byte byte) (list_all is_printable_byte word)
    (and_from (nat_le 32 byte) (nat_le byte 126) (le-leb 32 byte (omega arith)) (le-leb byte 126 seen.1))
    (word-printable word parts.1)

pub joined-printable : (words : List (List ℕ)) → AreWords words → list_all is_printable_byte (join_with_byte 32 words) ≡ true
unfolding is_printable_byte
joined-printable [] h = refl
joined-printable (word ∷ []) h = word-printable word h.0.visible
joined-printable (word ∷ (next ∷ words)) h =
    list_all-append is_printable_byte word (32 ∷ join_with_byte 32 (next ∷ words))
    ∙ and_from (list_all is_printable_byte word) (list_all is_printable_byte (32 ∷ join_with_byte 32 (next ∷ words))) (word-printable word h.0.visible) (joined-printable (next ∷ words) h.1)

pub length-joined : (words : List (List ℕ)) → AreWords words → length (join_with_byte 32 words) ≤ 12 * length words
length-joined [] h = omega arith
length-joined (word ∷ []) h = let short = h.0.short in omega arith
length-joined (word ∷ (next ∷ words)) h =
    let short = h.0.short in
    let rest = length-joined (next ∷ words) h.1 in
    let all = length-append word (32 ∷ join_with_byte 32 (next ∷ words)) in
    omega arith

pub lines_of-line : (line rest : List ℕ) → list_all is_printable_byte line ≡ true → lines_of (line ++ 10 ∷ rest) ≡ line ∷ lines_of rest
unfolding is_printable_byte
lines_of-line [] rest h = refl
lines_of-line (byte ∷ line) rest h =
    let parts = and_parts (is_printable_byte byte) (list_all is_printable_byte line) h in
    let low = leb-true 32 byte (and_parts (nat_le 32 byte) (nat_le byte 126) parts.0).0 in
    let other : (byte == 10) ≡ false = ne_eqb byte 10 (λ same. omega arith) in
    rw other (ap (onto_first byte) (lines_of-line line rest parts.1))
