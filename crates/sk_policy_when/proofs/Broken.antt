-- Conditions that fill lines have the words that they have in one line.
use Rattle.std.proofs.Common.{◌≡◌, ◌-◌, ◌==◌, ◌&&◌, ◌||◌, not, ◌∙◌, ap, sym, refl, inl, inr, ℕ, zero, suc, List, [], ◌∷◌, ◌++◌, codes, nat_lt, eqb, if◌then◌else◌, Bool, true, false, append_assoc, subst}
use Rattle.std.proofs.lemmas.Bool.{and_parts, and_right, cases_Bool, eqb-true, false≢true}
use Rattle.std.proofs.lemmas.List.{append-nil}
use Rattle.std.proofs.lemmas.List.Elements.{All-nil, All-cons}
use Rattle.std.specs.List.{All, starts_with}
use Rattle.sk_text.specs.Lines.{lines_of}
use Rattle.sk_text.proofs.Cuts.{before_first-no}
use Rattle.sk_when.specs.Filling.{break_text, depth_behind, filled, filled_behind, joins, most_columns, part_length, rest_of_part, room_of_line, until_operator}
use Rattle.sk_policy_text.specs.Words.{begins_joined, begun, goes_on, is_blank, is_letter_or_digit, is_pair, is_word_byte, words_behind, words_of_line}
use Rattle.sk_policy_when.specs.Written.{words_in}
use Rattle.sk_policy_when.proofs.Cutting.{AreClean}
use Rattle.sk_policy_when.proofs.Splitting.{before, blank_line, clean_longer, clean_rest, line_ends, margin_line, words_split}

-- ---- the lines of a text that fills them

abbrev pub first_line : ℕ → ℕ → List ℕ → List ℕ
first_line room left [] = []
first_line room (suc left) (c ∷ text) = c ∷ first_line (room - 1) left text
first_line room zero (c ∷ text) =
    if nat_lt (rest_of_part room_of_line c text) room then c ∷ first_line (room - 1) (rest_of_part room_of_line c text) text else []

abbrev pub other_lines : ℕ → ℕ → List ℕ → List (List ℕ)
other_lines room left [] = []
other_lines room (suc left) (c ∷ text) = other_lines (room - 1) left text
other_lines room zero (c ∷ text) =
    if nat_lt (rest_of_part room_of_line c text) room then other_lines (room - 1) (rest_of_part room_of_line c text) text
    else (codes "     " ++ (c ∷ first_line (room_of_line - 1) (rest_of_part room_of_line c text) text)) ∷ other_lines (room_of_line - 1) (rest_of_part room_of_line c text) text

-- so much of a text is left of a part: an operator stands behind it, or nothing
abbrev IsPart : ℕ → List ℕ → Type 0
IsPart left [] = Unit {0}
IsPart zero (c ∷ text) = joins (c ∷ text) ≡ true
IsPart (suc left) (c ∷ text) = IsPart left text

until_part : (any : Bool) (depth : ℕ) (text : List ℕ) → IsPart (until_operator any depth text) text
until_part any depth [] = tt
until_part any depth (c ∷ text) = by_test (until_part any (depth_behind depth c) text) ((any || (depth == 0)) && joins (c ∷ text)) refl
  where
    by_test : IsPart (until_operator any (depth_behind depth c) text) text → (b : Bool) → ((any || (depth == 0)) && joins (c ∷ text)) ≡ b → IsPart (if b then 0 else suc (until_operator any (depth_behind depth c) text)) (c ∷ text)
    by_test more true e = (and_parts (any || (depth == 0)) (joins (c ∷ text)) e).1
    by_test more false e = more

rest_part : (room c : ℕ) (text : List ℕ) → IsPart (rest_of_part room c text) text
rest_part room c text = by_test (nat_lt (until_operator false (depth_behind 0 c) text) room)
  where
    by_test : (b : Bool) → IsPart (if b then until_operator false (depth_behind 0 c) text else until_operator true (depth_behind 0 c) text) text
    by_test true = until_part false (depth_behind 0 c) text
    by_test false = until_part true (depth_behind 0 c) text

pub part_is : (room : ℕ) (text : List ℕ) → IsPart (part_length room text) text
part_is room [] = tt
part_is room (c ∷ text) = rest_part room c text

-- ---- operators

or_shape : (c : ℕ) (text : List ℕ) → starts_with eqb (c ∷ text) (codes " || ") ≡ true → (more : List ℕ) × (text ≡ 124 ∷ 124 ∷ 32 ∷ more)
or_shape c [] e = absurd (false≢true (sym (and_right (eqb 32 c) false refl) ∙ e))
or_shape c (x ∷ []) e = let one = and_parts (eqb 32 c) (eqb 124 x && false) e in absurd (false≢true (sym (and_right (eqb 124 x) false refl) ∙ one.1))
or_shape c (x ∷ y ∷ []) e =
    let one = and_parts (eqb 32 c) (eqb 124 x && (eqb 124 y && false)) e in
    let two = and_parts (eqb 124 x) (eqb 124 y && false) one.1 in
    absurd (false≢true (sym (and_right (eqb 124 y) false refl) ∙ two.1))
or_shape c (x ∷ y ∷ z ∷ more) e =
    let one = and_parts (eqb 32 c) (eqb 124 x && (eqb 124 y && (eqb 32 z && true))) e in
    let two = and_parts (eqb 124 x) (eqb 124 y && (eqb 32 z && true)) one.1 in
    let three = and_parts (eqb 124 y) (eqb 32 z && true) two.1 in
    let four = and_parts (eqb 32 z) true three.1 in
    (more, λ i. sym (eqb-true 124 x two.0) i ∷ sym (eqb-true 124 y three.0) i ∷ sym (eqb-true 32 z four.0) i ∷ more)

and_shape : (c : ℕ) (text : List ℕ) → starts_with eqb (c ∷ text) (codes " && ") ≡ true → (more : List ℕ) × (text ≡ 38 ∷ 38 ∷ 32 ∷ more)
and_shape c [] e = absurd (false≢true (sym (and_right (eqb 32 c) false refl) ∙ e))
and_shape c (x ∷ []) e = let one = and_parts (eqb 32 c) (eqb 38 x && false) e in absurd (false≢true (sym (and_right (eqb 38 x) false refl) ∙ one.1))
and_shape c (x ∷ y ∷ []) e =
    let one = and_parts (eqb 32 c) (eqb 38 x && (eqb 38 y && false)) e in
    let two = and_parts (eqb 38 x) (eqb 38 y && false) one.1 in
    absurd (false≢true (sym (and_right (eqb 38 y) false refl) ∙ two.1))
and_shape c (x ∷ y ∷ z ∷ more) e =
    let one = and_parts (eqb 32 c) (eqb 38 x && (eqb 38 y && (eqb 32 z && true))) e in
    let two = and_parts (eqb 38 x) (eqb 38 y && (eqb 32 z && true)) one.1 in
    let three = and_parts (eqb 38 y) (eqb 32 z && true) two.1 in
    let four = and_parts (eqb 32 z) true three.1 in
    (more, λ i. sym (eqb-true 38 x two.0) i ∷ sym (eqb-true 38 y three.0) i ∷ sym (eqb-true 32 z four.0) i ∷ more)

blank_first : (c : ℕ) (text : List ℕ) → joins (c ∷ text) ≡ true → c ≡ 32
blank_first c text e = elim (cases_Bool (eqb 32 c)) [
  | inl t ↦ sym (eqb-true 32 c t)
  | inr f ↦ absurd (false≢true (rw f at e))
]

-- ---- the same lines

filled_lines : (room left : ℕ) (text front rest : List ℕ) → AreClean front → AreClean text → IsPart left text
    → lines_of (front ++ (filled room left text ++ (10 ∷ rest))) ≡ (front ++ first_line room left text) ∷ (other_lines room left text ++ lines_of rest)
filled_lines room left [] front rest h k part = line_ends front rest h ∙ ap (λ l. l ∷ lines_of rest) (sym (append-nil front))
filled_lines room (suc left) (c ∷ text) front rest h k part =
    ap lines_of (sym (append_assoc front (c ∷ []) (filled (room - 1) left text ++ (10 ∷ rest))))
    ∙ filled_lines (room - 1) left text (front ++ (c ∷ [])) rest (clean_longer front c text h k) (clean_rest c text k) part
    ∙ ap (λ l. l ∷ (other_lines (room - 1) left text ++ lines_of rest)) (append_assoc front (c ∷ []) (first_line (room - 1) left text))
filled_lines room zero (c ∷ text) front rest h k part =
    by_test
    (filled_lines (room - 1) (rest_of_part room_of_line c text) text (front ++ (c ∷ [])) rest (clean_longer front c text h k) (clean_rest c text k) (rest_part room_of_line c text))
    (filled_lines (room_of_line - 1) (rest_of_part room_of_line c text) text (codes "     " ++ (c ∷ [])) rest (clean_longer (codes "     ") c text refl k) (clean_rest c text k) (rest_part room_of_line c text))
    (nat_lt (rest_of_part room_of_line c text) room)
  where
    by_test : lines_of ((front ++ (c ∷ [])) ++ (filled (room - 1) (rest_of_part room_of_line c text) text ++ (10 ∷ rest))) ≡ ((front ++ (c ∷ [])) ++ first_line (room - 1) (rest_of_part room_of_line c text) text) ∷ (other_lines (room - 1) (rest_of_part room_of_line c text) text ++ lines_of rest)
        → lines_of ((codes "     " ++ (c ∷ [])) ++ (filled (room_of_line - 1) (rest_of_part room_of_line c text) text ++ (10 ∷ rest))) ≡ ((codes "     " ++ (c ∷ [])) ++ first_line (room_of_line - 1) (rest_of_part room_of_line c text) text) ∷ (other_lines (room_of_line - 1) (rest_of_part room_of_line c text) text ++ lines_of rest)
        → (b : Bool)
        → lines_of (front ++ ((if b then c ∷ filled (room - 1) (rest_of_part room_of_line c text) text else break_text ++ (c ∷ filled (room_of_line - 1) (rest_of_part room_of_line c text) text)) ++ (10 ∷ rest)))
        ≡ (front ++ (if b then c ∷ first_line (room - 1) (rest_of_part room_of_line c text) text else []))
        ∷ ((if b then other_lines (room - 1) (rest_of_part room_of_line c text) text
        else (codes "     " ++ (c ∷ first_line (room_of_line - 1) (rest_of_part room_of_line c text) text)) ∷ other_lines (room_of_line - 1) (rest_of_part room_of_line c text) text) ++ lines_of rest)
    by_test here below true =
        ap lines_of (sym (append_assoc front (c ∷ []) (filled (room - 1) (rest_of_part room_of_line c text) text ++ (10 ∷ rest))))
        ∙ here
        ∙ ap (λ l. l ∷ (other_lines (room - 1) (rest_of_part room_of_line c text) text ++ lines_of rest)) (append_assoc front (c ∷ []) (first_line (room - 1) (rest_of_part room_of_line c text) text))
    by_test here below false =
        line_ends front (codes "     " ++ (c ∷ (filled (room_of_line - 1) (rest_of_part room_of_line c text) text ++ (10 ∷ rest)))) h
        ∙ ap (λ l. front ∷ l)
        below
        ∙ ap (λ l. l ∷ ((codes "     " ++ (c ∷ first_line (room_of_line - 1) (rest_of_part room_of_line c text) text)) ∷ (other_lines (room_of_line - 1) (rest_of_part room_of_line c text) text ++ lines_of rest))) (sym (append-nil front))

-- ---- the same words

filled_words : (room left : ℕ) (text front : List ℕ) → AreClean front → AreClean text → IsPart left text
    → words_of_line (front ++ first_line room left text) ++ words_in (other_lines room left text) ≡ words_of_line (front ++ text)
filled_words room left [] front h k part = append-nil (words_of_line (front ++ []))
filled_words room (suc left) (c ∷ text) front h k part =
    ap (λ l. words_of_line l ++ words_in (other_lines (room - 1) left text)) (sym (append_assoc front (c ∷ []) (first_line (room - 1) left text)))
    ∙ filled_words (room - 1) left text (front ++ (c ∷ [])) (clean_longer front c text h k) (clean_rest c text k) part
    ∙ ap words_of_line (append_assoc front (c ∷ []) text)
filled_words room zero (c ∷ text) front h k part =
    by_test
    (filled_words (room - 1) (rest_of_part room_of_line c text) text (front ++ (c ∷ [])) (clean_longer front c text h k) (clean_rest c text k) (rest_part room_of_line c text))
    (filled_words (room_of_line - 1) (rest_of_part room_of_line c text) text (codes "     " ++ (c ∷ [])) (clean_longer (codes "     ") c text refl k) (clean_rest c text k) (rest_part room_of_line c text))
    (nat_lt (rest_of_part room_of_line c text) room)
  where
    by_test : words_of_line ((front ++ (c ∷ [])) ++ first_line (room - 1) (rest_of_part room_of_line c text) text) ++ words_in (other_lines (room - 1) (rest_of_part room_of_line c text) text) ≡ words_of_line ((front ++ (c ∷ [])) ++ text)
        → words_of_line ((codes "     " ++ (c ∷ [])) ++ first_line (room_of_line - 1) (rest_of_part room_of_line c text) text) ++ words_in (other_lines (room_of_line - 1) (rest_of_part room_of_line c text) text) ≡ words_of_line ((codes "     " ++ (c ∷ [])) ++ text)
        → (b : Bool)
        → words_of_line (front ++ (if b then c ∷ first_line (room - 1) (rest_of_part room_of_line c text) text else []))
        ++ words_in (if b then other_lines (room - 1) (rest_of_part room_of_line c text) text
        else (codes "     " ++ (c ∷ first_line (room_of_line - 1) (rest_of_part room_of_line c text) text)) ∷ other_lines (room_of_line - 1) (rest_of_part room_of_line c text) text)
        ≡ words_of_line (front ++ (c ∷ text))
    by_test here below true =
        ap (λ l. words_of_line l ++ words_in (other_lines (room - 1) (rest_of_part room_of_line c text) text)) (sym (append_assoc front (c ∷ []) (first_line (room - 1) (rest_of_part room_of_line c text) text)))
        ∙ here
        ∙ ap words_of_line (append_assoc front (c ∷ []) text)
    by_test here below false =
        let blank = blank_first c text part in
        ap (λ l. words_of_line l ++ words_in ((codes "     " ++ (c ∷ first_line (room_of_line - 1) (rest_of_part room_of_line c text) text)) ∷ other_lines (room_of_line - 1) (rest_of_part room_of_line c text) text)) (append-nil front)
        ∙ ap (λ l. words_of_line front ++ l)
        (below
        ∙ margin_line (c ∷ text) ∙ ap (λ b. words_of_line (b ∷ text)) blank)
        ∙ sym (words_split front text h)
        ∙ ap (λ b. words_of_line (front ++ (b ∷ text))) (sym blank)

-- ---- lines that go on

abbrev GoesOn : List ℕ → Type 0
GoesOn line = begins_joined (words_of_line line) ≡ true

three : (a b c : ℕ) (rest : List ℕ) → (a == 35) ≡ false → (b == 35) ≡ false → (c == 35) ≡ false → before (a ∷ b ∷ c ∷ rest) ≡ a ∷ b ∷ c ∷ before rest
three a b c rest e f g =
    before_first-no (λ x. x == 35) a (b ∷ c ∷ rest) e
    ∙ ap (λ l. a ∷ l) (before_first-no (λ x. x == 35) b (c ∷ rest) f
    ∙ ap (λ l. b ∷ l) (before_first-no (λ x. x == 35) c rest g))

-- `||` behind the margin
bars_line : (rest : List ℕ) → words_of_line (124 ∷ 124 ∷ 32 ∷ rest) ≡ (124 ∷ 124 ∷ []) ∷ words_of_line rest
unfolding begun goes_on is_blank is_pair is_word_byte is_letter_or_digit
bars_line rest = ap (words_behind []) (three 124 124 32 rest refl refl refl)

bars_go : (rest : List ℕ) → GoesOn (codes "      ||" ++ (32 ∷ rest))
bars_go rest = ap begins_joined (margin_line (32 ∷ 124 ∷ 124 ∷ 32 ∷ rest) ∙ blank_line (124 ∷ 124 ∷ 32 ∷ rest) ∙ bars_line rest)

bars_end : GoesOn (codes "      ||")
unfolding begun goes_on is_blank is_pair is_word_byte is_letter_or_digit
bars_end = refl

bars_tail : (room left : ℕ) (more : List ℕ) → GoesOn (codes "      ||" ++ first_line room left (32 ∷ more))
bars_tail room (suc left) more = bars_go (first_line (room - 1) left more)
bars_tail room zero more = by_test (nat_lt (rest_of_part room_of_line 32 more) room)
  where
    by_test : (b : Bool) → GoesOn (codes "      ||" ++ (if b then 32 ∷ first_line (room - 1) (rest_of_part room_of_line 32 more) more else []))
    by_test true = bars_go (first_line (room - 1) (rest_of_part room_of_line 32 more) more)
    by_test false = bars_end

bars_part : (room : ℕ) (more : List ℕ) → GoesOn (codes "     " ++ (32 ∷ first_line room (rest_of_part room_of_line 32 (124 ∷ 124 ∷ 32 ∷ more)) (124 ∷ 124 ∷ 32 ∷ more)))
bars_part room more = by_test (nat_lt (until_operator false 0 (124 ∷ 124 ∷ 32 ∷ more)) room_of_line)
  where
    by_test : (b : Bool)
        → GoesOn (codes "     " ++ (32 ∷ first_line room (if b then until_operator false 0 (124 ∷ 124 ∷ 32 ∷ more) else until_operator true 0 (124 ∷ 124 ∷ 32 ∷ more)) (124 ∷ 124 ∷ 32 ∷ more)))
    by_test true = bars_tail (room - 1 - 1) (until_operator false 0 (32 ∷ more)) more
    by_test false = bars_tail (room - 1 - 1) (until_operator true 0 (32 ∷ more)) more

-- `&&` behind the margin
ands_line : (rest : List ℕ) → words_of_line (38 ∷ 38 ∷ 32 ∷ rest) ≡ (38 ∷ 38 ∷ []) ∷ words_of_line rest
unfolding begun goes_on is_blank is_pair is_word_byte is_letter_or_digit
ands_line rest = ap (words_behind []) (three 38 38 32 rest refl refl refl)

ands_go : (rest : List ℕ) → GoesOn (codes "      &&" ++ (32 ∷ rest))
ands_go rest = ap begins_joined (margin_line (32 ∷ 38 ∷ 38 ∷ 32 ∷ rest) ∙ blank_line (38 ∷ 38 ∷ 32 ∷ rest) ∙ ands_line rest)

ands_end : GoesOn (codes "      &&")
unfolding begun goes_on is_blank is_pair is_word_byte is_letter_or_digit
ands_end = refl

ands_tail : (room left : ℕ) (more : List ℕ) → GoesOn (codes "      &&" ++ first_line room left (32 ∷ more))
ands_tail room (suc left) more = ands_go (first_line (room - 1) left more)
ands_tail room zero more = by_test (nat_lt (rest_of_part room_of_line 32 more) room)
  where
    by_test : (b : Bool) → GoesOn (codes "      &&" ++ (if b then 32 ∷ first_line (room - 1) (rest_of_part room_of_line 32 more) more else []))
    by_test true = ands_go (first_line (room - 1) (rest_of_part room_of_line 32 more) more)
    by_test false = ands_end

ands_part : (room : ℕ) (more : List ℕ) → GoesOn (codes "     " ++ (32 ∷ first_line room (rest_of_part room_of_line 32 (38 ∷ 38 ∷ 32 ∷ more)) (38 ∷ 38 ∷ 32 ∷ more)))
ands_part room more = by_test (nat_lt (until_operator false 0 (38 ∷ 38 ∷ 32 ∷ more)) room_of_line)
  where
    by_test : (b : Bool)
        → GoesOn (codes "     " ++ (32 ∷ first_line room (if b then until_operator false 0 (38 ∷ 38 ∷ 32 ∷ more) else until_operator true 0 (38 ∷ 38 ∷ 32 ∷ more)) (38 ∷ 38 ∷ 32 ∷ more)))
    by_test true = ands_tail (room - 1 - 1) (until_operator false 0 (32 ∷ more)) more
    by_test false = ands_tail (room - 1 - 1) (until_operator true 0 (32 ∷ more)) more

-- so goes on each line that begins with a part
part_goes_on : (room c : ℕ) (text : List ℕ) → joins (c ∷ text) ≡ true → GoesOn (codes "     " ++ (c ∷ first_line room (rest_of_part room_of_line c text) text))
part_goes_on room c text e =
    subst (λ (b : ℕ). GoesOn (codes "     " ++ (b ∷ first_line room (rest_of_part room_of_line b text) text))) (sym (blank_first c text e))
    (elim (cases_Bool (starts_with eqb (c ∷ text) (codes " || "))) [
      | inl t ↦
          let shape = or_shape c text t in
          subst (λ (l : List ℕ). GoesOn (codes "     " ++ (32 ∷ first_line room (rest_of_part room_of_line 32 l) l))) (sym shape.1) (bars_part room shape.0)
      | inr f ↦
          let other : starts_with eqb (c ∷ text) (codes " && ") ≡ true = sym (ap (λ b. b || starts_with eqb (c ∷ text) (codes " && ")) f) ∙ e in
          let shape = and_shape c text other in
          subst (λ (l : List ℕ). GoesOn (codes "     " ++ (32 ∷ first_line room (rest_of_part room_of_line 32 l) l))) (sym shape.1) (ands_part room shape.0)
    ])

others_go_on : (room left : ℕ) (text : List ℕ) → IsPart left text → All GoesOn (other_lines room left text)
others_go_on room left [] part = All-nil GoesOn
others_go_on room (suc left) (c ∷ text) part = others_go_on (room - 1) left text part
others_go_on room zero (c ∷ text) part =
    by_test
    (others_go_on (room - 1) (rest_of_part room_of_line c text) text (rest_part room_of_line c text))
    (others_go_on (room_of_line - 1) (rest_of_part room_of_line c text) text (rest_part room_of_line c text))
    (nat_lt (rest_of_part room_of_line c text) room)
  where
    by_test : All GoesOn (other_lines (room - 1) (rest_of_part room_of_line c text) text)
        → All GoesOn (other_lines (room_of_line - 1) (rest_of_part room_of_line c text) text)
        → (b : Bool)
        → All GoesOn (if b then other_lines (room - 1) (rest_of_part room_of_line c text) text
        else (codes "     " ++ (c ∷ first_line (room_of_line - 1) (rest_of_part room_of_line c text) text)) ∷ other_lines (room_of_line - 1) (rest_of_part room_of_line c text) text)
    by_test here below true = here
    by_test here below false =
        All-cons GoesOn (codes "     " ++ (c ∷ first_line (room_of_line - 1) (rest_of_part room_of_line c text) text)) (other_lines (room_of_line - 1) (rest_of_part room_of_line c text) text)
        (part_goes_on (room_of_line - 1) c text part)
        below

-- ---- a condition behind what stands before it in its line

-- it begins with a byte that is no blank, and no remark
abbrev pub is_solid : List ℕ → Bool
is_solid [] = false
is_solid (byte ∷ text) = not (is_blank byte) && not (byte == 35)

-- the lines in which a text stands, behind another one in the first of them
pub record FillsLines (text filled : List ℕ) : Type 0 where
  pub first : List ℕ
  pub others : List (List ℕ)
  pub lines : (front rest : List ℕ) → AreClean front → lines_of (front ++ (filled ++ (10 ∷ rest))) ≡ (front ++ first) ∷ (others ++ lines_of rest)
  pub words : words_of_line first ++ words_in others ≡ words_of_line text
  pub go_on : All (λ line. begins_joined (words_of_line line) ≡ true) others
  pub solid : is_solid text ≡ true → is_solid first ≡ true

same_first : (room : ℕ) (text : List ℕ) → is_solid text ≡ true → is_solid (first_line room (part_length room text) text) ≡ true
same_first room [] h = h
same_first room (c ∷ text) h = h

pub fills_lines : (column : ℕ) (text : List ℕ) → AreClean text → FillsLines text (filled_behind column text)
unfolding filled_behind
fills_lines column text k =
    record {
      first = first_line (most_columns - column) (part_length (most_columns - column) text) text;
      others = other_lines (most_columns - column) (part_length (most_columns - column) text) text;
      lines = λ front rest h. filled_lines (most_columns - column) (part_length (most_columns - column) text) text front rest h k (part_is (most_columns - column) text);
      words = filled_words (most_columns - column) (part_length (most_columns - column) text) text [] refl k (part_is (most_columns - column) text);
      go_on = others_go_on (most_columns - column) (part_length (most_columns - column) text) text (part_is (most_columns - column) text);
      solid = same_first (most_columns - column) text;
    }
