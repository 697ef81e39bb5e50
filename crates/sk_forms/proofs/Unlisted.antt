-- Tokens that begin with a name of no meaning, and have no sign of another form, are no instructions and no bytes.
use Rattle.std.proofs.Common.{◌≡◌, ◌+◌, ◌==◌, ◌∙◌, ap, arith, refl, inl, inr, ℕ, zero, suc, List, [], ◌∷◌, Bool, true, false, length, None}
use Rattle.std.proofs.lemmas.Bool.{and_parts, cases_Bool, ne_eqb, true≢false}
use Rattle.std.proofs.lemmas.List.Elements.{All-drop}
use Rattle.std.proofs.lemmas.List.Sums.{AllPass-from_list_all, list_all-from_AllPass}
use Rattle.std.specs.List.{after_first, before_first, count_by, list_all, position_or_len}
use Rattle.sk_forms.specs.declared.names.Word.TheVariants as word
use Rattle.sk_forms.specs.declared.token.Token.{Token}
use Rattle.sk_forms.specs.declared.token.Token.TheVariants.{Decimal, Hexadecimal, Name, Other, Padded, Sign}
use Rattle.sk_forms.specs.declared.rows.Form.TheVariants.{Array}
use Rattle.sk_forms.specs.Names.{name_of}
use Rattle.sk_forms.specs.Tokens.{is_sign, is_word, number_in}
use Rattle.sk_forms.specs.Grammar.{behind, behind_word, decimal_at, number_at}
use Rattle.sk_forms.specs.Rows.{begins_instruction, between, braces, instruction, jump, row, rows, statement}
use Rattle.sk_forms.specs.Arrays.{array, bare, declared, declares, filter_alone, filter_at, in_braces, length_at, list_at, program, rows_there}
use Rattle.sk_forms.specs.ByteArrays.{bare_bytes, byte_array, bytes_at, bytes_from, bytes_in_braces, declared_bytes}
use Rattle.sk_forms.specs.Decimals.{decimals}
use Rattle.sk_forms.proofs.Pieces.{not_same}
use Rattle.sk_forms.proofs.Unread.{NameFirst, is_wordy, is_wordy_token, name_no_number}

-- ---- signs

behind_none : (sign : ℕ) (tokens : List Token) → is_wordy sign ≡ false → list_all is_wordy_token tokens ≡ true → behind sign tokens ≡ None
unfolding behind
behind_none sign [] f all = refl
behind_none sign (Decimal n ∷ rest) f all = refl
behind_none sign (Hexadecimal n ∷ rest) f all = refl
behind_none sign (Padded n ∷ rest) f all = refl
behind_none sign (Name name ∷ rest) f all = refl
behind_none sign (Other ∷ rest) f all = refl
behind_none sign (Sign byte ∷ rest) f all = let differs = not_same is_wordy byte sign (and_parts (is_wordy byte) (list_all is_wordy_token rest) all).0 f in rw differs refl

after_wordy : (test : Token → Bool) (tokens : List Token) → list_all is_wordy_token tokens ≡ true → list_all is_wordy_token (after_first test tokens) ≡ true
after_wordy test tokens all =
    list_all-from_AllPass is_wordy_token (after_first test tokens)
    (All-drop (λ token. is_wordy_token token ≡ true) (position_or_len test tokens + 1) tokens (AllPass-from_list_all is_wordy_token tokens all))

-- ---- instructions

statement_none : (tokens : List Token) → list_all is_wordy_token tokens ≡ true → statement tokens ≡ None
unfolding statement behind_word
statement_none [] all = refl
statement_none (token ∷ rest) all = elim (cases_Bool (is_word word.Statement token)) [
  | inl t ↦
      let none = behind_none 40 rest refl (and_parts (is_wordy_token token) (list_all is_wordy_token rest) all).1 in
      rw t (rw none refl)
  | inr f ↦ rw f refl
]

jump_none : (tokens : List Token) → list_all is_wordy_token tokens ≡ true → jump tokens ≡ None
unfolding jump behind_word
jump_none [] all = refl
jump_none (token ∷ rest) all = elim (cases_Bool (is_word word.Jump token)) [
  | inl t ↦
      let none = behind_none 40 rest refl (and_parts (is_wordy_token token) (list_all is_wordy_token rest) all).1 in
      rw t (rw none refl)
  | inr f ↦ rw f refl
]

braces_none : (tokens : List Token) → list_all is_wordy_token tokens ≡ true → braces tokens ≡ None
unfolding braces
braces_none tokens all = let none = behind_none 123 tokens refl all in rw none refl

instruction_none : (tokens : List Token) → list_all is_wordy_token tokens ≡ true → instruction tokens ≡ None
unfolding instruction
instruction_none tokens all = rw (braces_none tokens all, statement_none tokens all, jump_none tokens all) refl

row_none : (tokens : List Token) → list_all is_wordy_token tokens ≡ true → row Array 0 tokens ≡ None
unfolding row between
row_none tokens all = instruction_none tokens all

rows_none : (n : ℕ) (tokens : List Token) → (n == 0) ≡ false → list_all is_wordy_token tokens ≡ true → rows Array 0 n tokens ≡ None
rows_none zero tokens f all = absurd (true≢false f)
rows_none (suc n) tokens f all = let none = row_none tokens all in rw none refl

rows_there_none : (tokens : List Token) → list_all is_wordy_token tokens ≡ true → rows_there tokens ≡ None
unfolding rows_there
rows_there_none tokens all = elim (cases_Bool (count_by begins_instruction tokens == 0)) [
  | inl t ↦ rw t refl
  | inr f ↦ rw f (rows_none (count_by begins_instruction tokens) tokens f all)
]

bare_none : (tokens : List Token) → list_all is_wordy_token tokens ≡ true → bare tokens ≡ None
unfolding bare
bare_none tokens all = let none = rows_there_none tokens all in rw none refl

in_braces_none : (tokens : List Token) → list_all is_wordy_token tokens ≡ true → in_braces tokens ≡ None
unfolding in_braces
in_braces_none tokens all = let none = behind_none 123 tokens refl all in rw none refl

declared_none : (tokens : List Token) → list_all is_wordy_token tokens ≡ true → declared tokens ≡ None
unfolding declared
declared_none tokens all = elim (cases_Bool (list_all declares (before_first (is_sign 61) tokens))) [
  | inl t ↦ rw t (in_braces_none (after_first (is_sign 61) tokens) (after_wordy (is_sign 61) tokens all))
  | inr f ↦ rw f refl
]

list_none : (tokens : List Token) → list_all is_wordy_token tokens ≡ true → list_at tokens ≡ None
unfolding list_at behind_word behind
list_none [] all = refl
list_none (token ∷ []) all = elim (cases_Bool (is_word word.Filter token)) [ inl t ↦ rw t refl | inr f ↦ rw f refl ]
list_none (token ∷ (next ∷ rest)) all = elim (cases_Bool (is_word word.Filter token)) [
  | inl t ↦ elim (cases_Bool (is_sign 61 next)) [
    | inl sign ↦
        let parts = and_parts (is_wordy_token token) (list_all is_wordy_token (next ∷ rest)) all in
        let none = behind_none 91 rest refl (and_parts (is_wordy_token next) (list_all is_wordy_token rest) parts.1).1 in
        rw (t, sign) none
    | inr other ↦ rw (t, other) refl
  ]
  | inr f ↦ rw f refl
]

filter_none : (tokens : List Token) → list_all is_wordy_token tokens ≡ true → filter_alone tokens ≡ None
unfolding filter_alone filter_at
filter_none tokens all = let none = list_none tokens all in rw none refl

program_none : (tokens : List Token) → list_all is_wordy_token tokens ≡ true → program tokens ≡ None
unfolding program length_at
program_none tokens all = let none = behind_none 123 tokens refl all in rw none refl

pub array_none : (tokens : List Token) → list_all is_wordy_token tokens ≡ true → array tokens ≡ None
unfolding array
array_none tokens all =
    rw (bare_none tokens all, in_braces_none tokens all, declared_none tokens all, filter_none tokens all, program_none tokens all) refl

pub decimals_none : (tokens : List Token) → NameFirst tokens → decimals tokens ≡ None
unfolding decimals decimal_at
decimals_none tokens it = ap decimals it.is

-- ---- bytes

number_none : (token : Token) (others : List Token) → number_in token ≡ None → number_at 255 (token ∷ others) ≡ None
unfolding number_at
number_none token others none = rw none refl

bytes_unread : (count : ℕ) (bytes : List ℕ) (tokens : List Token) → number_at 255 tokens ≡ None → bytes_from (suc count) bytes tokens ≡ (bytes, tokens)
bytes_unread count bytes tokens none = rw (none, bytes_from) refl

bytes_none : (word : List ℕ) (others : List Token) → list_all is_wordy word ≡ true → bytes_at (Name (name_of word) ∷ others) ≡ ([], Name (name_of word) ∷ others)
unfolding bytes_at
bytes_none word others all =
    bytes_unread (length others) [] (Name (name_of word) ∷ others) (number_none (Name (name_of word)) others (name_no_number word all))

bare_bytes_none : (tokens : List Token) → NameFirst tokens → bare_bytes tokens ≡ None
unfolding bare_bytes
bare_bytes_none tokens it =
    let none = bytes_none it.word it.others it.wordy in
    let some : (length (Name (name_of it.word) ∷ it.others) == 0) ≡ false = ne_eqb (length (Name (name_of it.word) ∷ it.others)) 0 (λ same. omega arith) in
    ap bare_bytes it.is ∙ rw none (rw some refl)

braces_bytes_none : (tokens : List Token) → list_all is_wordy_token tokens ≡ true → bytes_in_braces tokens ≡ None
unfolding bytes_in_braces
braces_bytes_none tokens all = let none = behind_none 123 tokens refl all in rw none refl

declared_bytes_none : (tokens : List Token) → list_all is_wordy_token tokens ≡ true → declared_bytes tokens ≡ None
unfolding declared_bytes
declared_bytes_none tokens all = elim (cases_Bool (list_all declares (before_first (is_sign 61) tokens))) [
  | inl t ↦ rw t (braces_bytes_none (after_first (is_sign 61) tokens) (after_wordy (is_sign 61) tokens all))
  | inr f ↦ rw f refl
]

pub byte_array_none : (tokens : List Token) → NameFirst tokens → byte_array tokens ≡ None
unfolding byte_array
byte_array_none tokens it = rw (bare_bytes_none tokens it, braces_bytes_none tokens it.all, declared_bytes_none tokens it.all) refl
