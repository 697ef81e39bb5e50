-- A text is its first line, and then the lines of what stands after it; and the same of words.
use Rattle.std.proofs.Common.{◌≡◌, ◌<◌, ◌≤◌, ◌+◌, ◌==◌, ◌∙◌, ap, arith, sym, refl, suc, ℕ, List, [], ◌∷◌, ◌++◌, length, filter, Bool, true, false, cond, inl, inr, take_all, append_assoc}
use Rattle.std.proofs.lemmas.List.{append-nil, drop_all}
use Rattle.std.proofs.lemmas.Bool.{cases_Bool, cases_lt}
use Rattle.std.proofs.lemmas.List.Splits.{slice_split_first}
use Rattle.std.specs.List.{concat, slice_split, onto_first, before_first, after_first, position_or_len}
use Rattle.sk_text.specs.Lines.{lines_of, words_of, has_bytes}

pub one_further : (n : ℕ) → 1 + n ≡ suc n
one_further n = omega arith

two_further : (n : ℕ) → 1 + n + 1 ≡ suc (n + 1)
two_further n = omega arith

-- ---- the first place of a test

pub before_first-no : (p : ℕ → Bool) (b : ℕ) (rest : List ℕ) → p b ≡ false → before_first p (b ∷ rest) ≡ b ∷ before_first p rest
before_first-no p b rest f = rw (f, one_further) refl

pub after_first-no : (p : ℕ → Bool) (b : ℕ) (rest : List ℕ) → p b ≡ false → after_first p (b ∷ rest) ≡ after_first p rest
after_first-no p b rest f = rw (f, two_further) refl

-- ---- lines

pub lines_none : (text : List ℕ) → length text ≡ 0 → lines_of text ≡ []
lines_none [] h = refl
lines_none (b ∷ rest) h = absurd (omega arith)

pub lines_first : (text : List ℕ) → 0 < length text → lines_of text ≡ before_first (λ b. b == 10) text ∷ lines_of (after_first (λ b. b == 10) text)
lines_first [] h = absurd (omega arith)
lines_first (b ∷ []) h = elim (cases_Bool (b == 10)) [ inl t ↦ rw t refl | inr f ↦ rw f refl ]
lines_first (b ∷ (c ∷ rest)) h =
    let some : 0 < length (c ∷ rest) = omega arith in
    let next = lines_first (c ∷ rest) some in
    elim (cases_Bool (b == 10)) [
      | inl t ↦ rw t refl
      | inr f ↦
          let front = before_first-no (λ x. x == 10) b (c ∷ rest) f in
          let back = after_first-no (λ x. x == 10) b (c ∷ rest) f in
          ap (λ t. cond t ([] ∷ lines_of (c ∷ rest)) (onto_first b (lines_of (c ∷ rest)))) f ∙ ap (onto_first b) next ∙ sym (ap (λ l. l ∷ lines_of (after_first (λ x. x == 10) (b ∷ (c ∷ rest)))) front ∙ ap (λ l. (b ∷ before_first (λ x. x == 10) (c ∷ rest)) ∷ lines_of l) back)
    ]

length-onto_first : (byte : ℕ) (lines : List (List ℕ)) → length (onto_first byte lines) ≤ 1 + length lines
length-onto_first byte [] = omega arith
length-onto_first byte (line ∷ lines) = omega arith

-- a text has no more lines than bytes
pub length_lines_of : (text : List ℕ) → length (lines_of text) ≤ length text
length_lines_of [] = omega arith
length_lines_of (byte ∷ rest) =
    let next = length_lines_of rest in
    elim (cases_Bool (byte == 10)) [
      | inl t ↦ rw t (omega (arith, next))
      | inr f ↦ rw f (omega (arith, next, length-onto_first byte (lines_of rest)))
    ]

-- ---- words

pub words_none : (line : List ℕ) → length line ≡ 0 → words_of line ≡ []
words_none [] h = refl
words_none (b ∷ rest) h = absurd (omega arith)

-- where no element passes, the list is its one piece
split_none : (p : ℕ → Bool) (line : List ℕ) → length line ≤ position_or_len p line → slice_split p line ≡ line ∷ []
split_none p [] h = refl
split_none p (b ∷ rest) h = elim (cases_Bool (p b)) [
  | inl t ↦ let none : position_or_len p (b ∷ rest) ≡ 0 = rw t refl in absurd (omega (arith, none))
  | inr f ↦
      let one : position_or_len p (b ∷ rest) ≡ 1 + position_or_len p rest = rw f refl in
      let fits : length rest ≤ position_or_len p rest = omega (arith, one) in
      rw f (ap (onto_first b) (split_none p rest fits))
]

-- the words of the first piece and of what stands after it
pieces_first : (p : ℕ → Bool) (line : List ℕ) → filter has_bytes (slice_split p line) ≡ filter has_bytes (before_first p line ∷ slice_split p (after_first p line))
pieces_first p line = elim (cases_lt (position_or_len p line) (length line)) [
  | inl lt ↦ ap (filter has_bytes) (slice_split_first p line 0 lt)
  | inr ge ↦
      let front = take_all (position_or_len p line) line ge in
      let back : after_first p line ≡ [] = drop_all (position_or_len p line + 1) line (omega arith) in
      ap (filter has_bytes) (split_none p line ge) ∙ sym (ap (λ l. filter has_bytes (l ∷ slice_split p (after_first p line))) front ∙ ap (λ l. filter has_bytes (line ∷ slice_split p l)) back)
]

pub bytes_none : (word : List ℕ) → length word ≡ 0 → has_bytes word ≡ false
bytes_none [] h = refl
bytes_none (b ∷ rest) h = absurd (omega arith)

pub bytes_some : (word : List ℕ) → 0 < length word → has_bytes word ≡ true
bytes_some [] h = absurd (omega arith)
bytes_some (b ∷ rest) h = refl

-- an empty piece is no word
pub words_skip : (line : List ℕ) → length (before_first (λ b. b == 32) line) ≡ 0 → words_of line ≡ words_of (after_first (λ b. b == 32) line)
words_skip line h = pieces_first (λ b. b == 32) line ∙ rw (bytes_none (before_first (λ b. b == 32) line) h) refl

-- another one is
pub words_take : (line : List ℕ) → 0 < length (before_first (λ b. b == 32) line) → words_of line ≡ before_first (λ b. b == 32) line ∷ words_of (after_first (λ b. b == 32) line)
words_take line h = pieces_first (λ b. b == 32) line ∙ rw (bytes_some (before_first (λ b. b == 32) line) h) refl

-- the words of a line, joined, are those of its first piece and of what stands after it
pub joined_first : (line : List ℕ) → concat (words_of line) ≡ before_first (λ b. b == 32) line ++ concat (words_of (after_first (λ b. b == 32) line))
joined_first line = elim (cases_lt 0 (length (before_first (λ b. b == 32) line))) [
  | inl some ↦ ap concat (words_take line some)
  | inr none ↦
      let empty : length (before_first (λ b. b == 32) line) ≡ 0 = omega (arith, none) in
      ap concat (words_skip line empty) ∙ ap (λ l. l ++ concat (words_of (after_first (λ b. b == 32) line))) (sym (length_zero (before_first (λ b. b == 32) line) empty))
]
  where
    length_zero : (l : List ℕ) → length l ≡ 0 → l ≡ []
    length_zero [] h = refl
    length_zero (x ∷ xs) h = absurd (omega (arith, h))

-- one piece more is joined
pub joined_turn : (digits more front line after whole : List ℕ) → digits ++ concat (words_of line) ≡ whole → more ≡ digits ++ front
    → front ≡ before_first (λ b. b == 32) line → after ≡ after_first (λ b. b == 32) line → more ++ concat (words_of after) ≡ whole
joined_turn digits more front line after whole so_far grown cut rest =
    ap (λ l. l ++ concat (words_of after)) (grown ∙ ap (λ l. digits ++ l) cut)
    ∙ ap (λ l. (digits ++ before_first (λ b. b == 32) line) ++ concat (words_of l)) rest
    ∙ append_assoc digits (before_first (λ b. b == 32) line) (concat (words_of (after_first (λ b. b == 32) line)))
    ∙ ap (λ l. digits ++ l) (sym (joined_first line))
    ∙ so_far

-- a line that is its first piece has no other digits
pub joined_alone : (line : List ℕ) → length (after_first (λ b. b == 32) line) ≡ 0 → concat (words_of line) ≡ before_first (λ b. b == 32) line
joined_alone line none =
    joined_first line
    ∙ ap (λ words. before_first (λ b. b == 32) line ++ concat words) (words_none (after_first (λ b. b == 32) line) none)
    ∙ append-nil (before_first (λ b. b == 32) line)
