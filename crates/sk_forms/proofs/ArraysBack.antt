-- What an array says is read as its instructions.
use Rattle.std.proofs.Common.{◌≡◌, ◌<◌, ◌≤◌, ◌+◌, ◌^◌, ◌==◌, ◌∙◌, ap, arith, refl, ℕ, suc, List, [], ◌∷◌, ◌++◌, true, false, cond, length, All, Some, None, append_assoc}
use Rattle.std.proofs.lemmas.Bool.{le-leb, ne_eqb}
use Rattle.std.proofs.lemmas.List.Sums.{sum_by-cons}
use Rattle.std.specs.Fmt.{decimal, digits}
use Rattle.std.specs.List.{count_by, list_all}
use Rattle.sk_text.specs.Hexadecimal.{hex_word}
use Rattle.sk_insn.specs.declared.insn.Insn.{Insn}
use Rattle.sk_forms.specs.declared.token.Token.{Token}
use Rattle.sk_forms.specs.declared.token.Token.TheVariants.{Decimal, Hexadecimal, Sign}
use Rattle.sk_forms.specs.declared.rows.Form.TheVariants.{Array}
use Rattle.sk_forms.specs.Words.{is_blank, is_word_byte}
use Rattle.sk_forms.specs.Tokens.{number_in, token_of, tokens_of}
use Rattle.sk_forms.specs.Grammar.{behind, decimal_at, number_at, past}
use Rattle.sk_forms.specs.Values.{bits_at, bits_from, operand, plain, sum_at, sum_from, value_at}
use Rattle.sk_forms.specs.Rows.{begins_instruction, between, braces, instruction, row, rows}
use Rattle.sk_forms.specs.Arrays.{array, bare, ends, in_one_line, rows_there}
use Rattle.sk_forms.specs.Decimals.{decimals}
use Rattle.sk_forms.specs.Listings.{instructions_written, listing_of}
use Rattle.sk_forms.specs.Writing.{array_line, array_text}
use Rattle.sk_forms.specs.RoundTrip.{ArraysComeBack, IsInRange}
use Rattle.sk_forms.proofs.Pieces.{all_joined, before_comma, blank_read, no_comment, no_slash, sign_read, word_plain, word_read}
use Rattle.sk_forms.proofs.Numerals.{decimal_read, decimal_some, decimal_word, digits_bytes, hexadecimal_read, hexadecimal_word, long_digits, short_digits}

-- ---- one value

number_read : (most n : ℕ) (token : Token) (rest : List Token) → number_in token ≡ Some n → n ≤ most → number_at most (token ∷ rest) ≡ Some (n, rest)
unfolding number_at
number_read most n token rest is fits = let t = le-leb n most fits in rw (is, t) refl

operand_read : (n : ℕ) (tokens rest : List Token) → number_at 4294967295 tokens ≡ Some (n, rest) → operand tokens ≡ Some (n, rest)
unfolding operand plain
operand_read n tokens rest is = rw is refl

sum_ends : (count n sign : ℕ) (rest : List Token) → (sign == 43) ≡ false → sum_from (suc count) n (Sign sign ∷ rest) ≡ Some (n, Sign sign ∷ rest)
unfolding behind
sum_ends count n sign rest plus = rw (plus, sum_from) refl

sum_read : (n sign : ℕ) (tokens rest : List Token) → operand tokens ≡ Some (n, Sign sign ∷ rest) → (sign == 43) ≡ false → sum_at tokens ≡ Some (n, Sign sign ∷ rest)
unfolding sum_at
sum_read n sign tokens rest is plus = rw is (sum_ends (length rest) n sign rest plus)

bits_end : (count n sign : ℕ) (rest : List Token) → (sign == 124) ≡ false → bits_from (suc count) n (Sign sign ∷ rest) ≡ Some (n, Sign sign ∷ rest)
unfolding behind
bits_end count n sign rest bar = rw (bar, bits_from) refl

bits_read : (n sign : ℕ) (tokens rest : List Token) → sum_at tokens ≡ Some (n, Sign sign ∷ rest) → (sign == 124) ≡ false → bits_at tokens ≡ Some (n, Sign sign ∷ rest)
unfolding bits_at
bits_read n sign tokens rest is bar = rw is (bits_end (length rest) n sign rest bar)

-- a number before a sign that joins nothing
pub value_read : (most n sign : ℕ) (token : Token) (rest : List Token) → number_in token ≡ Some n → n ≤ most → most ≤ 4294967295
    → (sign == 43) ≡ false → (sign == 124) ≡ false → value_at most (token ∷ Sign sign ∷ rest) ≡ Some (n, Sign sign ∷ rest)
unfolding value_at
value_read most n sign token rest is fits small plus bar =
    let number = number_read 4294967295 n token (Sign sign ∷ rest) is (omega arith) in
    let bits = bits_read n sign _ rest (sum_read n sign _ rest (operand_read n _ (Sign sign ∷ rest) number) plus) bar in
    let t = le-leb n most fits in
    rw (bits, t) refl

-- ---- one row

-- the tokens of a row, without its line's end
abbrev row_tokens : Insn → List Token → List Token
row_tokens insn rest =
    Sign 123 ∷ Hexadecimal insn.code ∷ Sign 44 ∷ Decimal insn.jt ∷ Sign 44 ∷ Decimal insn.jf ∷ Sign 44 ∷ Hexadecimal insn.k ∷ Sign 125 ∷ rest

row_read : (insn : Insn) (rest : List Token) → IsInRange insn → instruction (row_tokens insn rest) ≡ Some (insn, rest)
unfolding instruction braces behind
row_read insn rest range =
    let third = Hexadecimal insn.k ∷ Sign 125 ∷ rest in
    let second = Decimal insn.jf ∷ Sign 44 ∷ third in
    let first = Decimal insn.jt ∷ Sign 44 ∷ second in
    let code = value_read 65535 insn.code 44 (Hexadecimal insn.code) first refl (omega (arith, range.code)) (omega arith) refl refl in
    let jt = value_read 255 insn.jt 44 (Decimal insn.jt) second refl (omega (arith, range.jt)) (omega arith) refl refl in
    let jf = value_read 255 insn.jf 44 (Decimal insn.jf) third refl (omega (arith, range.jf)) (omega arith) refl refl in
    let k = value_read 4294967295 insn.k 125 (Hexadecimal insn.k) rest refl (omega (arith, range.k)) (omega arith) refl refl in
    rw code (rw jt (rw jf (rw k refl)))

-- ---- all rows

-- the tokens of rows, each with a comma behind it
abbrev rows_tokens : List Insn → List Token
rows_tokens [] = []
rows_tokens (insn ∷ insns) = row_tokens insn (Sign 44 ∷ rows_tokens insns)

row_counted : (insn : Insn) (rest : List Token) → count_by begins_instruction (row_tokens insn (Sign 44 ∷ rest)) ≡ 1 + count_by begins_instruction rest
row_counted insn rest = sum_by-cons (λ token. cond (begins_instruction token) 1 0) (Sign 123) rest

rows_counted : (insns : List Insn) → count_by begins_instruction (rows_tokens insns) ≡ length insns
rows_counted [] = refl
rows_counted (insn ∷ insns) =
    let first = row_counted insn (rows_tokens insns) in
    let others = rows_counted insns in
    omega (arith, first, others)

-- a row behind the first
row_behind : (place : ℕ) (insn : Insn) (rest : List Token) → IsInRange insn → row Array (suc place) (Sign 44 ∷ row_tokens insn rest) ≡ Some (insn, rest)
unfolding row between behind
row_behind place insn rest range =
    let other : (suc place == 0) ≡ false = ne_eqb (suc place) 0 (λ same. omega arith) in
    rw other (row_read insn rest range)

row_first : (insn : Insn) (rest : List Token) → IsInRange insn → row Array 0 (row_tokens insn rest) ≡ Some (insn, rest)
unfolding row between
row_first insn rest range = row_read insn rest range

rows_behind : (place : ℕ) (insns : List Insn) → All IsInRange insns → rows Array (suc place) (length insns) (Sign 44 ∷ rows_tokens insns) ≡ Some (insns, Sign 44 ∷ [])
rows_behind place [] ranges = refl
rows_behind place (insn ∷ insns) ranges =
    let first = row_behind place insn (Sign 44 ∷ rows_tokens insns) (ranges 0 insn (omega arith)) in
    let others = rows_behind (suc place) insns (λ k d h. ranges (suc k) d (omega arith)) in
    rw first (rw others refl)

rows_read : (insns : List Insn) → All IsInRange insns → 0 < length insns → rows Array 0 (length insns) (rows_tokens insns) ≡ Some (insns, Sign 44 ∷ [])
rows_read [] ranges some = absurd (omega arith)
rows_read (insn ∷ insns) ranges some =
    let first = row_first insn (Sign 44 ∷ rows_tokens insns) (ranges 0 insn (omega arith)) in
    let others = rows_behind 0 insns (λ k d h. ranges (suc k) d (omega arith)) in
    rw first (rw others refl)

array_read : (insns : List Insn) → All IsInRange insns → 0 < length insns → array (rows_tokens insns) ≡ Some insns
unfolding array bare rows_there ends past behind
array_read insns ranges some =
    let count = rows_counted insns in
    let none : (length insns == 0) ≡ false = ne_eqb (length insns) 0 (λ same. omega arith) in
    let read = rows_read insns ranges some in
    rw count (rw none (rw read refl))

-- ---- the text

-- the bytes of a line before others
line_shape : (insn : Insn) (rest : List ℕ)
    → array_line insn ++ rest
    ≡ 123 ∷ 32 ∷ ((48 ∷ 120 ∷ digits 16 false insn.code) ++ 44 ∷ 32 ∷ (decimal insn.jt ++ 44 ∷ 32 ∷ (decimal insn.jf ++ 44 ∷ 32 ∷ ((48 ∷ 120 ∷ hex_word insn.k) ++ 32 ∷ 125 ∷ 44 ∷ 10 ∷ rest))))
line_shape insn rest =
    ap (λ l. 123 ∷ 32 ∷ 48 ∷ 120 ∷ l) (append_assoc (digits 16 false insn.code) _ rest)
    ∙ ap (λ l. 123 ∷ 32 ∷ 48 ∷ 120 ∷ (digits 16 false insn.code ++ 44 ∷ 32 ∷ l)) (append_assoc (decimal insn.jt) _ rest)
    ∙ ap (λ l. 123 ∷ 32 ∷ 48 ∷ 120 ∷ (digits 16 false insn.code ++ 44 ∷ 32 ∷ (decimal insn.jt ++ 44 ∷ 32 ∷ l))) (append_assoc (decimal insn.jf) _ rest)
    ∙ ap (λ l. 123 ∷ 32 ∷ 48 ∷ 120 ∷ (digits 16 false insn.code ++ 44 ∷ 32 ∷ (decimal insn.jt ++ 44 ∷ 32 ∷ (decimal insn.jf ++ 44 ∷ 32 ∷ 48 ∷ 120 ∷ l)))) (append_assoc (hex_word insn.k) _ rest)

line_end : (rest : List ℕ) → tokens_of (32 ∷ 125 ∷ 44 ∷ 10 ∷ rest) ≡ Sign 125 ∷ Sign 44 ∷ Sign 10 ∷ tokens_of rest
unfolding is_word_byte is_blank token_of
line_end rest =
    blank_read (125 ∷ 44 ∷ 10 ∷ rest)
    ∙ sign_read 125 (44 ∷ 10 ∷ rest) refl refl refl
    ∙ ap (λ l. Sign 125 ∷ l) (sign_read 44 (10 ∷ rest) refl refl refl ∙ ap (λ l. Sign 44 ∷ l) (sign_read 10 rest refl refl refl))

-- a word before the line's end
last_read : (word rest : List ℕ) (token : Token) → 0 < length word → list_all is_word_byte word ≡ true → token_of word ≡ token
    → tokens_of (word ++ 32 ∷ 125 ∷ 44 ∷ 10 ∷ rest) ≡ token ∷ Sign 125 ∷ Sign 44 ∷ Sign 10 ∷ tokens_of rest
unfolding is_word_byte
last_read word rest token some all is = word_read word 32 _ token some all refl is ∙ ap (λ l. token ∷ l) (line_end rest)

-- a word before a comma and a blank
value_word : (word rest : List ℕ) (token : Token) → 0 < length word → list_all is_word_byte word ≡ true → token_of word ≡ token
    → tokens_of (word ++ 44 ∷ 32 ∷ rest) ≡ token ∷ Sign 44 ∷ tokens_of rest
value_word word rest token some all is = before_comma word (32 ∷ rest) token some all is ∙ ap (λ l. token ∷ Sign 44 ∷ l) (blank_read rest)

line_begins : (rest : List ℕ) → tokens_of (123 ∷ 32 ∷ rest) ≡ Sign 123 ∷ tokens_of rest
unfolding is_word_byte is_blank token_of
line_begins rest = sign_read 123 (32 ∷ rest) refl refl refl ∙ ap (λ l. Sign 123 ∷ l) (blank_read rest)

line_read : (insn : Insn) (rest : List ℕ) → IsInRange insn → tokens_of (array_line insn ++ rest) ≡ row_tokens insn (Sign 44 ∷ Sign 10 ∷ tokens_of rest)
line_read insn rest range =
    let code : insn.code < 2 ^ 32 = omega (arith, range.code) in
    let jt : insn.jt < 2 ^ 32 = omega (arith, range.jt) in
    let jf : insn.jf < 2 ^ 32 = omega (arith, range.jf) in
    let short = short_digits insn.code code in
    let long = long_digits insn.k range.k in
    let fourth = (48 ∷ 120 ∷ hex_word insn.k) ++ 32 ∷ 125 ∷ 44 ∷ 10 ∷ rest in
    let third = decimal insn.jf ++ 44 ∷ 32 ∷ fourth in
    let second = decimal insn.jt ++ 44 ∷ 32 ∷ third in
    ap tokens_of (line_shape insn rest)
    ∙ line_begins ((48 ∷ 120 ∷ digits 16 false insn.code) ++ 44 ∷ 32 ∷ second)
    ∙ ap (λ l. Sign 123 ∷ l) (value_word (48 ∷ 120 ∷ digits 16 false insn.code) second (Hexadecimal insn.code) (omega arith) (hexadecimal_word _ short.0) (hexadecimal_read _ insn.code short.0 short.1 code))
    ∙ ap (λ l. Sign 123 ∷ Hexadecimal insn.code ∷ Sign 44 ∷ l) (value_word (decimal insn.jt) third (Decimal insn.jt) (decimal_some insn.jt jt) (decimal_word insn.jt jt) (decimal_read insn.jt jt))
    ∙ ap (λ l. Sign 123 ∷ Hexadecimal insn.code ∷ Sign 44 ∷ Decimal insn.jt ∷ Sign 44 ∷ l) (value_word (decimal insn.jf) fourth (Decimal insn.jf) (decimal_some insn.jf jf) (decimal_word insn.jf jf) (decimal_read insn.jf jf))
    ∙ ap (λ l. Sign 123 ∷ Hexadecimal insn.code ∷ Sign 44 ∷ Decimal insn.jt ∷ Sign 44 ∷ Decimal insn.jf ∷ Sign 44 ∷ l)
    (last_read (48 ∷ 120 ∷ hex_word insn.k) rest (Hexadecimal insn.k) (omega arith) (hexadecimal_word _ long.0) (hexadecimal_read _ insn.k long.0 long.1 range.k))

text_read : (insns : List Insn) → All IsInRange insns → in_one_line (tokens_of (array_text insns)) ≡ rows_tokens insns
text_read [] ranges = refl
text_read (insn ∷ insns) ranges =
    ap in_one_line (line_read insn (array_text insns) (ranges 0 insn (omega arith)))
    ∙ ap (λ l. row_tokens insn (Sign 44 ∷ l)) (text_read insns (λ k d h. ranges (suc k) d (omega arith)))

-- ---- no comment

line_plain : (insn : Insn) → IsInRange insn → list_all no_slash (array_line insn) ≡ true
line_plain insn range =
    let code : insn.code < 2 ^ 32 = omega (arith, range.code) in
    let jt : insn.jt < 2 ^ 32 = omega (arith, range.jt) in
    let jf : insn.jf < 2 ^ 32 = omega (arith, range.jf) in
    let short = digits_bytes 16 _ (omega arith) (short_digits insn.code code).0.1 in
    let long = digits_bytes 16 _ (omega arith) (long_digits insn.k range.k).0.1 in
    all_joined no_slash (digits 16 false insn.code) _ (word_plain _ short)
    (all_joined no_slash (decimal insn.jt) _ (word_plain _ (decimal_word insn.jt jt))
    (all_joined no_slash (decimal insn.jf) _ (word_plain _ (decimal_word insn.jf jf))
    (all_joined no_slash (hex_word insn.k) _ (word_plain _ long) refl)))

text_plain : (insns : List Insn) → All IsInRange insns → list_all no_slash (array_text insns) ≡ true
text_plain [] ranges = refl
text_plain (insn ∷ insns) ranges =
    all_joined no_slash (array_line insn) (array_text insns) (line_plain insn (ranges 0 insn (omega arith))) (text_plain insns (λ k d h. ranges (suc k) d (omega arith)))

-- ---- the law

no_decimals : (insns : List Insn) → All IsInRange insns → 0 < length insns → decimals (tokens_of (array_text insns)) ≡ None
unfolding decimals decimal_at
no_decimals [] ranges some = absurd (omega arith)
no_decimals (insn ∷ insns) ranges some = ap decimals (line_read insn (array_text insns) (ranges 0 insn (omega arith)))

pub arrays_come_back : ArraysComeBack
unfolding listing_of instructions_written
arrays_come_back insns ranges some =
    let code = no_comment (array_text insns) (text_plain insns ranges) in
    let none = no_decimals insns ranges some in
    let line = text_read insns ranges in
    let read = array_read insns ranges some in
    rw code (rw none (rw line (rw read refl)))
