-- What decimals say is read as their instructions.
use Rattle.std.proofs.Common.{◌≡◌, ◌<◌, ◌^◌, ◌==◌, ◌∙◌, ap, arith, refl, ℕ, suc, List, [], ◌∷◌, ◌++◌, true, false, length, All, Some, append_assoc}
use Rattle.std.proofs.lemmas.Bool.{le-leb, ne_eqb}
use Rattle.std.specs.Fmt.{decimal}
use Rattle.std.specs.List.{list_all}
use Rattle.sk_insn.specs.declared.insn.Insn.{Insn}
use Rattle.sk_forms.specs.declared.token.Token.{Token}
use Rattle.sk_forms.specs.declared.token.Token.TheVariants.{Decimal, Sign}
use Rattle.sk_forms.specs.declared.rows.Form.TheVariants.{Decimals}
use Rattle.sk_forms.specs.Words.{is_blank, is_word_byte}
use Rattle.sk_forms.specs.Tokens.{token_of, tokens_of}
use Rattle.sk_forms.specs.Grammar.{decimal_at}
use Rattle.sk_forms.specs.Rows.{behind_end, four, row, rows}
use Rattle.sk_forms.specs.Decimals.{counted, decimals}
use Rattle.sk_forms.specs.Listings.{instructions_written, listing_of}
use Rattle.sk_forms.specs.Writing.{decimals_row, decimals_rows, decimals_text}
use Rattle.sk_forms.specs.RoundTrip.{DecimalsComeBack, IsInRange}
use Rattle.sk_forms.proofs.Pieces.{all_joined, before_blank, before_comma, no_comment, no_slash, sign_read, word_plain}
use Rattle.sk_forms.proofs.Numerals.{decimal_read, decimal_some, decimal_word}

-- ---- rows

-- the tokens of rows, which end with a line (10)
abbrev rows_tokens : List Insn → List Token
rows_tokens [] = Sign 10 ∷ []
rows_tokens (insn ∷ insns) = Decimal insn.code ∷ Decimal insn.jt ∷ Decimal insn.jf ∷ Decimal insn.k ∷ Sign 44 ∷ rows_tokens insns

row_read : (place : ℕ) (insn : Insn) (rest : List Token) → IsInRange insn
    → row Decimals place (Sign 44 ∷ Decimal insn.code ∷ Decimal insn.jt ∷ Decimal insn.jf ∷ Decimal insn.k ∷ rest) ≡ Some (insn, rest)
unfolding row behind_end four decimal_at
row_read place insn rest range =
    let code = le-leb insn.code 65535 (omega (arith, range.code)) in
    let jt = le-leb insn.jt 255 (omega (arith, range.jt)) in
    let jf = le-leb insn.jf 255 (omega (arith, range.jf)) in
    let k = le-leb insn.k 4294967295 (omega (arith, range.k)) in
    rw code (rw jt (rw jf (rw k refl)))

rows_read : (place : ℕ) (insns : List Insn) → All IsInRange insns → rows Decimals place (length insns) (Sign 44 ∷ rows_tokens insns) ≡ Some (insns, Sign 44 ∷ Sign 10 ∷ [])
rows_read place [] ranges = refl
rows_read place (insn ∷ insns) ranges =
    let first = row_read place insn (Sign 44 ∷ rows_tokens insns) (ranges 0 insn (omega arith)) in
    let others = rows_read (suc place) insns (λ k d h. ranges (suc k) d (omega arith)) in
    rw first (rw others refl)

decimals_read : (insns : List Insn) → All IsInRange insns → 0 < length insns → length insns < 2 ^ 32
    → decimals (Decimal (length insns) ∷ Sign 44 ∷ rows_tokens insns) ≡ Some insns
unfolding decimals decimal_at counted
decimals_read insns ranges some few =
    let within = le-leb (length insns) 4294967295 (omega arith) in
    let none : (length insns == 0) ≡ false = ne_eqb (length insns) 0 (λ same. omega arith) in
    let read = rows_read 0 insns ranges in
    rw within (rw none (rw read refl))

-- ---- the text

-- the bytes of a row before others
row_shape : (insn : Insn) (rest : List ℕ)
    → decimals_row insn ++ rest ≡ decimal insn.code ++ 32 ∷ (decimal insn.jt ++ 32 ∷ (decimal insn.jf ++ 32 ∷ (decimal insn.k ++ 44 ∷ rest)))
row_shape insn rest =
    append_assoc (decimal insn.code) _ rest
    ∙ ap (λ l. decimal insn.code ++ 32 ∷ l) (append_assoc (decimal insn.jt) _ rest)
    ∙ ap (λ l. decimal insn.code ++ 32 ∷ (decimal insn.jt ++ 32 ∷ l)) (append_assoc (decimal insn.jf) _ rest)
    ∙ ap (λ l. decimal insn.code ++ 32 ∷ (decimal insn.jt ++ 32 ∷ (decimal insn.jf ++ 32 ∷ l))) (append_assoc (decimal insn.k) _ rest)

number_blank : (n : ℕ) (rest : List ℕ) → n < 2 ^ 32 → tokens_of (decimal n ++ 32 ∷ rest) ≡ Decimal n ∷ tokens_of rest
number_blank n rest h = before_blank (decimal n) rest (Decimal n) (decimal_some n h) (decimal_word n h) (decimal_read n h)

number_comma : (n : ℕ) (rest : List ℕ) → n < 2 ^ 32 → tokens_of (decimal n ++ 44 ∷ rest) ≡ Decimal n ∷ Sign 44 ∷ tokens_of rest
number_comma n rest h = before_comma (decimal n) rest (Decimal n) (decimal_some n h) (decimal_word n h) (decimal_read n h)

row_tokens : (insn : Insn) (rest : List ℕ) → IsInRange insn
    → tokens_of (decimals_row insn ++ rest) ≡ Decimal insn.code ∷ Decimal insn.jt ∷ Decimal insn.jf ∷ Decimal insn.k ∷ Sign 44 ∷ tokens_of rest
row_tokens insn rest range =
    let third = decimal insn.k ++ 44 ∷ rest in
    let second = decimal insn.jf ++ 32 ∷ third in
    let first = decimal insn.jt ++ 32 ∷ second in
    ap tokens_of (row_shape insn rest)
    ∙ number_blank insn.code first (omega (arith, range.code))
    ∙ ap (λ l. Decimal insn.code ∷ l) (number_blank insn.jt second (omega (arith, range.jt)))
    ∙ ap (λ l. Decimal insn.code ∷ Decimal insn.jt ∷ l) (number_blank insn.jf third (omega (arith, range.jf)))
    ∙ ap (λ l. Decimal insn.code ∷ Decimal insn.jt ∷ Decimal insn.jf ∷ l) (number_comma insn.k rest range.k)

line_end : tokens_of (10 ∷ []) ≡ Sign 10 ∷ []
unfolding is_word_byte is_blank token_of
line_end = sign_read 10 [] refl refl refl

text_rows : (insns : List Insn) → All IsInRange insns → tokens_of (decimals_rows insns ++ 10 ∷ []) ≡ rows_tokens insns
text_rows [] ranges = line_end
text_rows (insn ∷ insns) ranges =
    ap tokens_of (append_assoc (decimals_row insn) (decimals_rows insns) (10 ∷ []))
    ∙ row_tokens insn (decimals_rows insns ++ 10 ∷ []) (ranges 0 insn (omega arith))
    ∙ ap (λ l. Decimal insn.code ∷ Decimal insn.jt ∷ Decimal insn.jf ∷ Decimal insn.k ∷ Sign 44 ∷ l) (text_rows insns (λ k d h. ranges (suc k) d (omega arith)))

text_read : (insns : List Insn) → All IsInRange insns → length insns < 2 ^ 32
    → tokens_of (decimals_text insns) ≡ Decimal (length insns) ∷ Sign 44 ∷ rows_tokens insns
text_read insns ranges few =
    number_comma (length insns) (decimals_rows insns ++ 10 ∷ []) few
    ∙ ap (λ l. Decimal (length insns) ∷ Sign 44 ∷ l) (text_rows insns ranges)

-- ---- no comment

number_plain : (n : ℕ) (rest : List ℕ) → n < 2 ^ 32 → list_all no_slash rest ≡ true → list_all no_slash (decimal n ++ rest) ≡ true
number_plain n rest h all = all_joined no_slash (decimal n) rest (word_plain (decimal n) (decimal_word n h)) all

row_plain : (insn : Insn) → IsInRange insn → list_all no_slash (decimals_row insn) ≡ true
row_plain insn range =
    number_plain insn.code _ (omega (arith, range.code))
    (number_plain insn.jt _ (omega (arith, range.jt)) (number_plain insn.jf _ (omega (arith, range.jf)) (number_plain insn.k _ range.k refl)))

rows_plain : (insns : List Insn) → All IsInRange insns → list_all no_slash (decimals_rows insns) ≡ true
rows_plain [] ranges = refl
rows_plain (insn ∷ insns) ranges =
    all_joined no_slash (decimals_row insn) (decimals_rows insns) (row_plain insn (ranges 0 insn (omega arith))) (rows_plain insns (λ k d h. ranges (suc k) d (omega arith)))

text_plain : (insns : List Insn) → All IsInRange insns → length insns < 2 ^ 32 → list_all no_slash (decimals_text insns) ≡ true
text_plain insns ranges few = number_plain (length insns) _ few (all_joined no_slash (decimals_rows insns) (10 ∷ []) (rows_plain insns ranges) refl)

-- ---- the law

pub decimals_come_back : DecimalsComeBack
unfolding listing_of instructions_written
decimals_come_back insns ranges some few =
    let code = no_comment (decimals_text insns) (text_plain insns ranges few) in
    let tokens = text_read insns ranges few in
    let read = decimals_read insns ranges some few in
    rw code (rw tokens (rw read refl))
