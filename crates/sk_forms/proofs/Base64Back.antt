-- What base64 says is read as its image.
use Rattle.std.proofs.Common.{◌≡◌, ◌<◌, ◌≤◌, ◌/◌, ◌%◌, ◌==◌, ◌&&◌, ◌∙◌, ap, arith, refl, sym, subst, inl, inr, ℕ, zero, suc, List, [], ◌∷◌, ◌++◌, Bool, true, false, not, length, filter, Some, None}
use Rattle.std.proofs.lemmas.Bool.{and_parts, and_right, cases_Bool, eq-eqb, lt-ltb, ne_eqb}
use Rattle.std.proofs.lemmas.List.{append-nil}
use Rattle.std.proofs.lemmas.List.Elements.{filter-append}
use Rattle.std.specs.Prelude.{nat_le}
use Rattle.std.specs.List.{after_first, before_first, list_all}
use Rattle.base64.specs.Engines.{standard}
use Rattle.base64.specs.GeneralPurpose.{encode_of}
use Rattle.base64.proofs.EngineFacts.{decode_of-encode_of}
use Rattle.hex.specs.Hex.{encode_with}
use Rattle.sk_text.specs.Hexadecimal.{hex_word}
use Rattle.sk_text.specs.Lines.{lines_of}
use Rattle.sk_text.proofs.Cuts.{after_first-no, before_first-no, lines_first}
use Rattle.sk_forms.specs.declared.token.Token.{Token}
use Rattle.sk_forms.specs.declared.token.Token.TheVariants.{Name}
use Rattle.sk_forms.specs.Grammar.{◌>>=◌}
use Rattle.sk_forms.specs.Words.{is_blank}
use Rattle.sk_forms.specs.Names.{name_of}
use Rattle.sk_forms.specs.Tokens.{tokens_in, tokens_of}
use Rattle.sk_forms.specs.Arrays.{in_one_line}
use Rattle.sk_forms.specs.Tables.{behind_head, behind_place, is_head, is_rule, table, table_row}
use Rattle.sk_forms.specs.Dumps.{behind_offset, dump, is_plain, line_bytes, whole_image}
use Rattle.sk_forms.specs.Strings.{escape, escaped, escapes, parts_strings, strings}
use Rattle.sk_forms.specs.Base64.{base64, ends_line, letters}
use Rattle.sk_forms.specs.Listings.{bytes_written, instructions_written, listing_of}
use Rattle.sk_forms.specs.Writing.{base64_text}
use Rattle.sk_forms.specs.RoundTrip.{Base64ComesBack, IsReturningImage}
use Rattle.sk_forms.proofs.Pieces.{all_joined, not_same}
use Rattle.sk_forms.proofs.Symbols.{BeginsName, begins_name, first_letter, letters_pass, no_digits}
use Rattle.sk_forms.proofs.Unread.{NameFirst, is_wordy, name_first, name_first_in, name_first_on}
use Rattle.sk_forms.proofs.Unlisted.{array_none, byte_array_none, decimals_none}

-- ---- one line

-- what may stand in it: no end of a line is there, and nothing that parts strings
abbrev of_line : ℕ → Bool
of_line byte = is_wordy byte && not (byte == 10)

line_kept : (parts : ℕ → Bool) (line : List ℕ) → ((byte : ℕ) → of_line byte ≡ true → parts byte ≡ false) → list_all of_line line ≡ true
    → filter (λ byte. not (parts byte)) line ≡ line
line_kept parts [] other all = refl
line_kept parts (byte ∷ rest) other all =
    let both = and_parts (of_line byte) (list_all of_line rest) all in
    let f = other byte both.0 in
    rw f (ap (λ l. byte ∷ l) (line_kept parts rest other both.1))

-- the line's end is taken from it
line_alone : (parts : ℕ → Bool) (line : List ℕ) → ((byte : ℕ) → of_line byte ≡ true → parts byte ≡ false) → parts 10 ≡ true → list_all of_line line ≡ true
    → filter (λ byte. not (parts byte)) (line ++ 10 ∷ []) ≡ line
line_alone parts line other feed all =
    let none : filter (λ byte. not (parts byte)) (10 ∷ []) ≡ [] = rw feed refl in
    filter-append (λ byte. not (parts byte)) line (10 ∷ [])
    ∙ ap (λ l. l ++ filter (λ byte. not (parts byte)) (10 ∷ [])) (line_kept parts line other all)
    ∙ ap (λ l. line ++ l) none
    ∙ append-nil line

before_end : (line : List ℕ) → list_all of_line line ≡ true → before_first (λ byte. byte == 10) (line ++ 10 ∷ []) ≡ line
before_end [] all = refl
before_end (byte ∷ rest) all =
    let both = and_parts (of_line byte) (list_all of_line rest) all in
    before_first-no (λ b. b == 10) byte (rest ++ 10 ∷ []) (not_same of_line byte 10 both.0 refl) ∙ ap (λ l. byte ∷ l) (before_end rest both.1)

after_end : (line : List ℕ) → list_all of_line line ≡ true → after_first (λ byte. byte == 10) (line ++ 10 ∷ []) ≡ []
after_end [] all = refl
after_end (byte ∷ rest) all =
    let both = and_parts (of_line byte) (list_all of_line rest) all in
    after_first-no (λ b. b == 10) byte (rest ++ 10 ∷ []) (not_same of_line byte 10 both.0 refl) ∙ after_end rest both.1

some_text : (line : List ℕ) → 0 < length (line ++ 10 ∷ [])
some_text [] = omega arith
some_text (byte ∷ rest) = omega arith

one_line : (line : List ℕ) → list_all of_line line ≡ true → lines_of (line ++ 10 ∷ []) ≡ line ∷ []
one_line line all =
    lines_first (line ++ 10 ∷ []) (some_text line)
    ∙ ap (λ l. l ∷ lines_of (after_first (λ byte. byte == 10) (line ++ 10 ∷ []))) (before_end line all)
    ∙ ap (λ l. line ∷ lines_of l) (after_end line all)

-- ---- tables

no_head : (line : List ℕ) → list_all of_line line ≡ true → behind_head (line ++ 10 ∷ []) ≡ line ++ 10 ∷ []
unfolding behind_head is_rule
no_head line all =
    let first = before_first (λ byte. byte == 10) (line ++ 10 ∷ []) in
    let second = after_first (λ byte. byte == 10) (line ++ 10 ∷ []) in
    let rule : is_rule (before_first (λ byte. byte == 10) second) ≡ false = ap (λ l. is_rule (before_first (λ byte. byte == 10) l)) (after_end line all) in
    let none = and_right (is_head first) (is_rule (before_first (λ byte. byte == 10) second)) rule in
    rw none refl

name_row : (tokens : List Token) → NameFirst tokens → table_row 0 tokens ≡ None
unfolding table_row behind_place
name_row tokens it = ap (table_row 0) it.is

some_tokens : (tokens : List Token) → NameFirst tokens → (length tokens == 0) ≡ false
some_tokens tokens it =
    ap (λ (l : List Token). length l == 0) it.is
    ∙ ne_eqb (length (Name (name_of it.word) ∷ it.others)) 0 (λ same. omega arith)

table_none : (line : List ℕ) → list_all of_line line ≡ true → NameFirst (tokens_of line) → table (line ++ 10 ∷ []) ≡ None
unfolding table
table_none line all it =
    let head = no_head line all in
    let lines = one_line line all in
    let some = some_tokens (tokens_of line) it in
    let none = name_row (tokens_of line) it in
    rw head (rw lines (rw some (rw none refl)))

-- ---- dumps

-- the first place is written in zeros, and a name does not begin so
offset_none : (first : ℕ) (rest : List ℕ) → begins_name first ≡ true → behind_offset 0 (first ∷ rest) ≡ None
unfolding behind_offset hex_word encode_with
offset_none first rest t =
    let other = not_same begins_name first 48 t refl in
    elim (cases_Bool (nat_le 8 (length (first ∷ rest)))) [
      | inl long ↦ rw long (rw other refl)
      | inr short ↦ rw short refl
    ]

dump_none : (line : List ℕ) → list_all of_line line ≡ true → BeginsName line → dump (line ++ 10 ∷ []) ≡ None
unfolding dump line_bytes
dump_none line all it = elim (cases_Bool (list_all is_plain (line ++ 10 ∷ []))) [
  | inl t ↦ rw t refl
  | inr f ↦
      let lines = one_line line all in
      let none : behind_offset 0 line ≡ None = ap (behind_offset 0) it.is ∙ offset_none it.first it.rest it.begins in
      rw f (rw lines (rw none refl))
]

-- ---- strings

-- a name begins with no backslash
escapes_none : (n first : ℕ) (rest : List ℕ) → begins_name first ≡ true → (escapes n (first ∷ rest) >>= λ bytes. whole_image bytes) ≡ None
unfolding escape whole_image
escapes_none zero first rest t = refl
escapes_none (suc n) first rest t = let other = not_same begins_name first 92 t refl in rw other refl

no_quote : (byte : ℕ) → of_line byte ≡ true → parts_strings byte ≡ false
unfolding parts_strings is_blank
no_quote byte t =
    let other : (sign : ℕ) → of_line sign ≡ false → (byte == sign) ≡ false = λ sign f. not_same of_line byte sign t f in
    rw (other 34 refl, other 10 refl, other 32 refl, other 9 refl, other 13 refl) refl

feed_parts : parts_strings 10 ≡ true
unfolding parts_strings is_blank
feed_parts = refl

strings_none : (line : List ℕ) → list_all of_line line ≡ true → BeginsName line → strings (line ++ 10 ∷ []) ≡ None
unfolding strings escaped
strings_none line all it =
    let same = line_alone parts_strings line no_quote feed_parts all in
    let none : (escapes (length line / 4) line >>= λ bytes. whole_image bytes) ≡ None =
    ap (λ l. escapes (length line / 4) l >>= λ bytes. whole_image bytes) it.is ∙ escapes_none (length line / 4) it.first it.rest it.begins in
    elim (cases_Bool (length line % 4 == 0)) [
      | inl t ↦ rw same (rw t none)
      | inr f ↦ rw same (rw f refl)
    ]

-- ---- base64

no_end : (byte : ℕ) → of_line byte ≡ true → ends_line byte ≡ false
no_end byte t = rw (not_same of_line byte 10 t refl, not_same of_line byte 13 t refl) refl

image_whole : (image : List ℕ) → 8 ≤ length image → length image % 8 ≡ 0 → whole_image image ≡ Some image
unfolding whole_image
image_whole image some whole =
    let a = lt-ltb 0 (length image) (omega arith) in
    let b = eq-eqb (length image % 8) 0 whole in
    rw (a, b) refl

base64_read : (image : List ℕ) → IsReturningImage image → list_all of_line (encode_of standard image) ≡ true → base64 (base64_text image) ≡ Some image
unfolding base64 letters
base64_read image it all =
    let same = line_alone ends_line (encode_of standard image) no_end refl all in
    let digits = no_digits image it.some it.whole it.last_low it.last_high in
    let decoded = decode_of-encode_of standard image refl it.bytes in
    let whole = image_whole image it.some it.whole in
    rw same (rw digits (rw decoded (rw whole refl)))

-- ---- the law

text_first : (line : List ℕ) → list_all is_wordy line ≡ true → BeginsName line → NameFirst (tokens_in (line ++ 10 ∷ []))
text_first line all it =
    let text : line ++ 10 ∷ [] ≡ it.first ∷ (it.rest ++ 10 ∷ []) = ap (λ l. l ++ 10 ∷ []) it.is in
    let wordy : list_all is_wordy (it.first ∷ (it.rest ++ 10 ∷ [])) ≡ true = ap (list_all is_wordy) (sym text) ∙ all_joined is_wordy line (10 ∷ []) all refl in
    subst (λ l. NameFirst (tokens_in l)) (sym text) (name_first_in it.first (it.rest ++ 10 ∷ []) it.begins wordy)

line_first : (line : List ℕ) → list_all is_wordy line ≡ true → BeginsName line → NameFirst (tokens_of line)
line_first line all it =
    subst (λ l. NameFirst (tokens_of l)) (sym it.is) (name_first it.first it.rest it.begins (ap (list_all is_wordy) (sym it.is) ∙ all))

pub base64_comes_back : Base64ComesBack
unfolding listing_of instructions_written bytes_written
base64_comes_back image it =
    let line = encode_of standard image in
    let wordy = letters_pass is_wordy image refl refl refl in
    let all = letters_pass of_line image refl refl refl in
    let begins = first_letter image it.some it.first in
    let tokens = text_first line wordy begins in
    let joined = name_first_on (tokens_in (base64_text image)) tokens in
    let no_decimals = decimals_none (tokens_in (base64_text image)) tokens in
    let no_array = array_none (in_one_line (tokens_in (base64_text image))) joined.all in
    let no_table = table_none line all (line_first line wordy begins) in
    let no_bytes = byte_array_none (in_one_line (tokens_in (base64_text image))) joined in
    let no_dump = dump_none line all begins in
    let no_strings = strings_none line all begins in
    let read = base64_read image it all in
    rw no_decimals (rw no_array (rw no_table (rw no_bytes (rw no_dump (rw no_strings (rw read refl))))))
