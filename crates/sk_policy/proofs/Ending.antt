-- Code that is written from its last part to its first.
use Rattle.std.proofs.Common.{◌≡◌, ℕ, zero, suc, ◌+◌, ◌<◌, ◌≤◌, List, [], ◌∷◌, ◌++◌, length, take, drop, refl, ap, sym, ◌∙◌, arith, append_assoc, length-append}
use Rattle.std.proofs.lemmas.List.{take-append-drop}
use Rattle.sk_insn.specs.declared.insn.Insn.{Insn}
use Rattle.sk_insn.specs.declared.operation.Comparison.TheVariants.{Equal}
use Rattle.sk_profile.specs.Code.{branch, answer}
use Rattle.sk_profile.specs.Sayings.{low}
use Rattle.sk_terms.specs.declared.choices.Choice.{Choice}
use Rattle.sk_terms.specs.declared.term.Term.{Term}
use Rattle.sk_policy.specs.declared.cases.Case.{Case}
use Rattle.sk_policy.specs.Code.{placed_code, terms_code, equals_code, choice_code, line_code, cases_code}

-- each part stands before those behind it, and knows how many instructions these have
abbrev pub chain : {X : Type 0} → (X → ℕ → List Insn) → List Insn → List X → List Insn
chain part end [] = end
chain part end (x ∷ xs) = part x (length (chain part end xs)) ++ chain part end xs

take_front : {X : Type 0} (front back : List X) → take (length front) (front ++ back) ≡ front
take_front [] back = refl
take_front (x ∷ front) back = ap (λ rest. x ∷ rest) (take_front front back)

drop_front : {X : Type 0} (front back : List X) → drop (length front) (front ++ back) ≡ back
drop_front [] back = refl
drop_front (x ∷ front) back = drop_front front back

-- of some elements those before the last one that is left, it, and those behind it
parts : {X : Type 0} (xs left before : List X) (last : X) → left ≡ take (length left) xs → left ≡ before ++ last ∷ [] → xs ≡ before ++ (last ∷ drop (length left) xs)
parts xs left before last is split =
    sym (take-append-drop (length left) xs) ∙ ap (λ front. front ++ drop (length left) xs) (sym is ∙ split) ∙ append_assoc before (last ∷ []) (drop (length left) xs)

pub before_is : {X : Type 0} (xs left before : List X) (last : X) → left ≡ take (length left) xs → left ≡ before ++ last ∷ [] → before ≡ take (length before) xs
before_is xs left before last is split =
    sym (take_front before (last ∷ drop (length left) xs)) ∙ ap (λ all. take (length before) all) (sym (parts xs left before last is split))

with_last : {X : Type 0} (xs left before : List X) (last : X) → left ≡ take (length left) xs → left ≡ before ++ last ∷ [] → drop (length before) xs ≡ last ∷ drop (length left) xs
with_last xs left before last is split =
    ap (λ all. drop (length before) all) (parts xs left before last is split) ∙ drop_front before (last ∷ drop (length left) xs)

no_longer : {X : Type 0} (part : X → ℕ → List Insn) (end : List Insn) (n : ℕ) (xs : List X) → length (chain part end (drop n xs)) ≤ length (chain part end xs)
no_longer part end zero xs = omega arith
no_longer part end (suc n) [] = omega arith
no_longer part end (suc n) (x ∷ xs) = omega (arith, no_longer part end n xs, length-append (part x (length (chain part end xs))) (chain part end xs))

-- one part more
pub one_more : {X : Type 0} (part : X → ℕ → List Insn) (end : List Insn) (xs left before : List X) (last : X) (old code new : List Insn) (behind : ℕ)
    → left ≡ take (length left) xs → left ≡ before ++ last ∷ [] → code ≡ chain part end (drop (length left) xs) ++ old → length code ≡ behind + length old → new ≡ part last behind ++ code
    → new ≡ chain part end (drop (length before) xs) ++ old
one_more part end xs left before last old code new behind is split at many put =
    let rest = chain part end (drop (length left) xs) in
    let as_many : behind ≡ length rest = omega (arith, many, ap length at, length-append rest old) in
    put ∙ ap (λ n. part last n ++ code) as_many ∙ ap (λ (insns : List Insn). part last (length rest) ++ insns) at
    ∙ sym (append_assoc (part last (length rest)) rest old)
    ∙ ap (λ some. chain part end some ++ old) (sym (with_last xs left before last is split))

-- what is too long with one of them is too long with all
pub over_with : {X : Type 0} (part : X → ℕ → List Insn) (end : List Insn) (xs left before : List X) (last : X) (old code new : List Insn) (behind : ℕ)
    → left ≡ take (length left) xs → left ≡ before ++ last ∷ [] → code ≡ chain part end (drop (length left) xs) ++ old → length code ≡ behind + length old → new ≡ part last behind ++ code
    → 4096 < length new → 4096 < length (chain part end xs ++ old)
over_with part end xs left before last old code new behind is split at many put over =
    let whole = one_more part end xs left before last old code new behind is split at many put in
    omega (arith, over, ap length whole, length-append (chain part end (drop (length before) xs)) old, length-append (chain part end xs) old, no_longer part end (length before) xs)

-- what is too long at its end is too long in all
pub over_at_end : {X : Type 0} (part : X → ℕ → List Insn) (end : List Insn) (xs : List X) (old : List Insn) → 4096 < length (end ++ old) → 4096 < length (chain part end xs ++ old)
over_at_end part end xs old over = omega (arith, over, least part end xs, length-append end old, length-append (chain part end xs) old) where
  least : {X : Type 0} (part : X → ℕ → List Insn) (end : List Insn) (xs : List X) → length end ≤ length (chain part end xs)
  least part end [] = omega arith
  least part end (x ∷ xs) = omega (arith, least part end xs, length-append (part x (length (chain part end xs))) (chain part end xs))

-- ---- code that ends in another way than it goes on

take_own : {X : Type 0} (xs : List X) → xs ≡ take (length xs) xs
take_own [] = refl
take_own (x ∷ xs) = ap (λ rest. x ∷ rest) (take_own xs)

drop_own : {X : Type 0} (xs : List X) → drop (length xs) xs ≡ []
drop_own [] = refl
drop_own (x ∷ xs) = drop_own xs

-- the last of some elements is written, and those behind the ones that are left
pub record Writes {X : Type 0} (part : X → ℕ → List Insn) (end : X → List Insn) (xs left : List X) (old code : List Insn) : Type 0 where
  pub before : List X
  pub last : X
  pub split : xs ≡ before ++ last ∷ []
  pub first : left ≡ take (length left) before
  pub is : code ≡ chain part (end last) (drop (length left) before) ++ old

pub begins : {X : Type 0} (part : X → ℕ → List Insn) (end : X → List Insn) (xs before : List X) (last : X) (old code : List Insn) → xs ≡ before ++ last ∷ [] → code ≡ end last ++ old
    → Writes part end xs before old code
begins part end xs before last old code split put = record {
  before = before;
  last = last;
  split = split;
  first = take_own before;
  is = put ∙ ap (λ some. chain part (end last) some ++ old) (sym (drop_own before));
}

pub goes_on : {X : Type 0} (part : X → ℕ → List Insn) (end : X → List Insn) (xs left others : List X) (x : X) (old code new : List Insn) (behind : ℕ)
    → Writes part end xs left old code → left ≡ others ++ x ∷ [] → length code ≡ behind + length old → new ≡ part x behind ++ code → Writes part end xs others old new
goes_on part end xs left others x old code new behind writes split many put = record {
  before = writes.before;
  last = writes.last;
  split = writes.split;
  first = before_is writes.before left others x writes.first split;
  is = one_more part (end writes.last) writes.before left others x old code new behind writes.first split writes.is many put;
}

-- how all of it is written
abbrev pub IsWritten : {X : Type 0} → (X → ℕ → List Insn) → (X → List Insn) → (List X → List Insn) → Type 0
IsWritten {X} part end whole = (before : List X) (last : X) → whole (before ++ last ∷ []) ≡ chain part (end last) before

pub is_whole : {X : Type 0} (part : X → ℕ → List Insn) (end : X → List Insn) (whole : List X → List Insn) → IsWritten part end whole → (xs left : List X) (old code : List Insn)
    → Writes part end xs left old code → length left ≡ 0 → code ≡ whole xs ++ old
is_whole part end whole is xs left old code writes none =
    writes.is ∙ ap (λ n. chain part (end writes.last) (drop n writes.before) ++ old) none
    ∙ ap (λ (insns : List Insn). insns ++ old) (sym (is writes.before writes.last) ∙ ap whole (sym writes.split))

pub over_on : {X : Type 0} (part : X → ℕ → List Insn) (end : X → List Insn) (whole : List X → List Insn) → IsWritten part end whole → (xs left others : List X) (x : X) (old code : List Insn) (behind : ℕ)
    → Writes part end xs left old code → left ≡ others ++ x ∷ [] → length code ≡ behind + length old → 4096 < length (part x behind ++ code) → 4096 < length (whole xs ++ old)
over_on part end whole is xs left others x old code behind writes split many over =
    let all = over_with part (end writes.last) writes.before left others x old code (part x behind ++ code) behind writes.first split writes.is many refl over in
    omega (arith, all, ap (λ insns. length (insns ++ old)) (sym (is writes.before writes.last) ∙ ap whole (sym writes.split)))

pub over_first : {X : Type 0} (part : X → ℕ → List Insn) (end : X → List Insn) (whole : List X → List Insn) → IsWritten part end whole → (xs before : List X) (last : X) (old : List Insn)
    → xs ≡ before ++ last ∷ [] → 4096 < length (end last ++ old) → 4096 < length (whole xs ++ old)
over_first part end whole is xs before last old split over =
    let all = over_at_end part (end last) before old over in
    omega (arith, all, ap (λ insns. length (insns ++ old)) (sym (is before last) ∙ ap whole (sym split)))

-- ---- terms, numbers, a condition and cases are written so

abbrev pub term_part : ℕ → Term → ℕ → List Insn
term_part held term behind = placed_code term (behind + held) 0

abbrev pub equal_part : ℕ → Term → ℕ → List Insn
equal_part held term behind = branch Equal (low term.first) (behind + held) 0 ∷ []

abbrev pub choice_part : ℕ → Choice → ℕ → List Insn
choice_part failed choice behind = choice_code choice.terms.items 0 (behind + failed)

abbrev pub case_part : Case → ℕ → List Insn
case_part it behind = line_code it.choices.items 0 1 ++ answer it.value ∷ []

abbrev pub term_end : ℕ → ℕ → Term → List Insn
term_end held failed term = placed_code term held failed

abbrev pub equal_end : ℕ → ℕ → Term → List Insn
equal_end held failed term = branch Equal (low term.first) held failed ∷ []

abbrev pub choice_end : ℕ → ℕ → Choice → List Insn
choice_end held failed choice = choice_code choice.terms.items held failed

pub terms_are : (held failed : ℕ) → IsWritten (term_part held) (term_end held failed) (λ terms. terms_code terms held failed)
terms_are held failed [] last = refl
terms_are held failed (term ∷ before) last = first before ∙ ap (λ (rest : List Insn). term_part held term (length rest) ++ rest) (terms_are held failed before last) where
  first : (before : List Term) → terms_code (term ∷ (before ++ last ∷ [])) held failed
      ≡ term_part held term (length (terms_code (before ++ last ∷ []) held failed)) ++ terms_code (before ++ last ∷ []) held failed
  first [] = refl
  first (other ∷ before) = refl

pub equals_are : (held failed : ℕ) → IsWritten (equal_part held) (equal_end held failed) (λ terms. equals_code terms held failed)
equals_are held failed [] last = refl
equals_are held failed (term ∷ before) last = first before ∙ ap (λ (rest : List Insn). equal_part held term (length rest) ++ rest) (equals_are held failed before last) where
  first : (before : List Term) → equals_code (term ∷ (before ++ last ∷ [])) held failed
      ≡ equal_part held term (length (equals_code (before ++ last ∷ []) held failed)) ++ equals_code (before ++ last ∷ []) held failed
  first [] = refl
  first (other ∷ before) = refl

pub line_is : (held failed : ℕ) → IsWritten (choice_part failed) (choice_end held failed) (λ choices. line_code choices held failed)
line_is held failed [] last = refl
line_is held failed (choice ∷ before) last = first before ∙ ap (λ (rest : List Insn). choice_part failed choice (length rest) ++ rest) (line_is held failed before last) where
  first : (before : List Choice) → line_code (choice ∷ (before ++ last ∷ [])) held failed
      ≡ choice_part failed choice (length (line_code (before ++ last ∷ []) held failed)) ++ line_code (before ++ last ∷ []) held failed
  first [] = refl
  first (other ∷ before) = refl

pub cases_are : (cases : List Case) (otherwise : ℕ) → cases_code cases otherwise ≡ chain case_part (answer otherwise ∷ []) cases
cases_are [] otherwise = refl
cases_are (it ∷ cases) otherwise =
    let code = line_code it.choices.items 0 1 in
    ap (λ (rest : List Insn). code ++ (answer it.value ∷ rest)) (cases_are cases otherwise)
    ∙ sym (append_assoc code (answer it.value ∷ []) (chain case_part (answer otherwise ∷ []) cases))
