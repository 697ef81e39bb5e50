-- Lines of a text, and the words before and behind a space.
use Rattle.std.proofs.Common.{◌≡◌, ◌==◌, not, ◌∙◌, ap, sym, refl, inl, inr, ℕ, List, [], ◌∷◌, ◌++◌, length, codes, if◌then◌else◌, true, false, append_assoc}
use Rattle.std.proofs.lemmas.Bool.{and_from, and_parts, and_right, cases_Bool, eqb-true, false≢true}
use Rattle.std.proofs.lemmas.List.{append-nil}
use Rattle.std.specs.List.{before_first, list_all, onto_first}
use Rattle.sk_text.specs.Lines.{lines_of}
use Rattle.sk_text.proofs.Cuts.{before_first-no}
use Rattle.sk_policy_text.specs.Words.{begun, ended, goes_on, is_blank, is_letter_or_digit, is_pair, is_word_byte, words_behind, words_of_line}
use Rattle.sk_policy_when.proofs.Cutting.{AreClean, both_clean, is_clean}

-- ---- clean bytes

no_feed : (byte : ℕ) → is_clean byte ≡ true → (byte == 10) ≡ false
no_feed byte h = elim (cases_Bool (byte == 10)) [
  | inl t ↦ absurd (false≢true (rw t at h))
  | inr f ↦ f
]

no_remark : (byte : ℕ) → is_clean byte ≡ true → (byte == 35) ≡ false
no_remark byte h = elim (cases_Bool (byte == 35)) [
  | inl t ↦ absurd (false≢true (rw (t, and_right (not (byte == 10)) false refl) at h))
  | inr f ↦ f
]

clean_first : (byte : ℕ) (text : List ℕ) → AreClean (byte ∷ text) → is_clean byte ≡ true
clean_first byte text h = (and_parts (is_clean byte) (list_all is_clean text) h).0

pub clean_rest : (byte : ℕ) (text : List ℕ) → AreClean (byte ∷ text) → AreClean text
clean_rest byte text h = (and_parts (is_clean byte) (list_all is_clean text) h).1

pub clean_longer : (front : List ℕ) (byte : ℕ) (text : List ℕ) → AreClean front → AreClean (byte ∷ text) → AreClean (front ++ (byte ∷ []))
clean_longer front byte text h k = both_clean front (byte ∷ []) h (and_from (is_clean byte) true (clean_first byte text k) refl)

-- ---- lines

-- a line feed ends a line
pub line_ends : (line rest : List ℕ) → AreClean line → lines_of (line ++ (10 ∷ rest)) ≡ line ∷ lines_of rest
line_ends [] rest h = refl
line_ends (byte ∷ line) rest h =
    ap (λ b. if b then [] ∷ lines_of (line ++ (10 ∷ rest)) else onto_first byte (lines_of (line ++ (10 ∷ rest)))) (no_feed byte (clean_first byte line h))
    ∙ ap (onto_first byte) (line_ends line rest (clean_rest byte line h))

-- ---- words

abbrev pub before : List ℕ → List ℕ
before line = before_first (λ byte. byte == 35) line

pub before_clean : (front rest : List ℕ) → AreClean front → before (front ++ rest) ≡ front ++ before rest
before_clean [] rest h = refl
before_clean (byte ∷ front) rest h =
    before_first-no (λ b. b == 35) byte (front ++ rest) (no_remark byte (clean_first byte front h)) ∙ ap (λ l. byte ∷ l) (before_clean front rest (clean_rest byte front h))

-- no word goes on with a space
space_ends : (word : List ℕ) → goes_on word 32 ≡ false
unfolding goes_on is_word_byte is_letter_or_digit is_pair
space_ends [] = refl
space_ends (first ∷ more) = elim (cases_Bool (first == 32)) [
  | inl t ↦ rw (eqb-true first 32 t) (and_right (length more == 0) false refl)
  | inr f ↦ rw (f, and_right (is_word_byte first) false refl) (and_right (length more == 0) false refl)
]

split_at : (word rest : List ℕ) → words_behind word (32 ∷ rest) ≡ ended word ++ words_behind [] (32 ∷ rest)
unfolding begun is_blank goes_on
split_at word rest = ap (λ b. if b then words_behind (word ++ 32 ∷ []) rest else ended word ++ words_behind [] rest) (space_ends word)

split_behind : (word front rest : List ℕ) → words_behind word (front ++ (32 ∷ rest)) ≡ words_behind word front ++ words_behind [] (32 ∷ rest)
split_behind word [] rest = split_at word rest
split_behind word (byte ∷ front) rest = elim (cases_Bool (goes_on word byte)) [
  | inl t ↦ rw t (split_behind (word ++ byte ∷ []) front rest)
  | inr f ↦ rw f
      (ap (λ l. ended word ++ l) (split_behind (begun byte) front rest) ∙ sym (append_assoc (ended word) (words_behind (begun byte) front) (words_behind [] (32 ∷ rest))))
]

-- the words before a space, and those behind it
pub words_split : (front rest : List ℕ) → AreClean front → words_of_line (front ++ (32 ∷ rest)) ≡ words_of_line front ++ words_of_line (32 ∷ rest)
words_split front rest h =
    let space = before_first-no (λ b. b == 35) 32 rest refl in
    let alone : before front ≡ front = ap before (sym (append-nil front)) ∙ before_clean front [] h ∙ append-nil front in
    ap (words_behind []) (before_clean front (32 ∷ rest) h ∙ ap (λ l. front ++ l) space)
    ∙ split_behind [] front (before rest)
    ∙ ap (λ l. words_behind [] l ++ words_behind [] (32 ∷ before rest)) (sym alone)
    ∙ ap (λ l. words_of_line front ++ words_behind [] l) (sym space)

pub blank_line : (rest : List ℕ) → words_of_line (32 ∷ rest) ≡ words_of_line rest
unfolding begun is_blank goes_on
blank_line rest = ap (words_behind []) (before_first-no (λ b. b == 35) 32 rest refl)

pub margin_line : (rest : List ℕ) → words_of_line (codes "     " ++ rest) ≡ words_of_line rest
margin_line rest =
    blank_line (32 ∷ 32 ∷ 32 ∷ 32 ∷ rest) ∙ blank_line (32 ∷ 32 ∷ 32 ∷ rest) ∙ blank_line (32 ∷ 32 ∷ rest) ∙ blank_line (32 ∷ rest) ∙ blank_line rest
