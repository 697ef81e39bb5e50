-- Where words end sentences and items, and the first place that passes a test.
use Rattle.std.proofs.Common.{◌≡◌, ◌≤◌, ◌+◌, ◌∙◌, ap, arith, sym, refl, inl, inr, ℕ, List, [], ◌∷◌, length, drop, map, codes, Bool, cond, if◌then◌else◌, not, Some, None, position}
use Rattle.std.proofs.lemmas.Bool.{cases_Bool, cases_lt, lt-ltb, le-ltb}
use Rattle.std.proofs.lemmas.Option.{none-some}
use Rattle.std.proofs.lemmas.List.{drop-map}
use Rattle.std.specs.List.{position_or_len}
use Rattle.sk_text.proofs.Cuts.{one_further}
use Rattle.sk_policy_text.specs.declared.word.Word.{Word as CodeWord}
use Rattle.sk_policy_text.specs.Words.{Word, seen}
use Rattle.sk_policy_text.specs.Sentences.{begins, behind_commas, behind_items, ends_item, ends_items, is_the, sentence_length}
use Rattle.sk_policy_text.specs.Views.{all_seen}

-- ---- places

place-within : {X : Type 0} (p : X → Bool) (xs : List X) → position_or_len p xs ≤ length xs
place-within p [] = omega arith
place-within p (x ∷ xs) = elim (cases_Bool (p x)) [
  | inl t ↦ rw t (omega arith)
  | inr f ↦ rw f (omega (arith, place-within p xs))
]

some-injective : {X : Type 0} (x y : X) → Some x ≡ Some y → x ≡ y
some-injective x y e = ap (λ o. elim o [ None ↦ x | Some z ↦ z ]) e

pub first_some : {X : Type 0} (p : X → Bool) (xs : List X) (at : ℕ) → Some at ≡ position p xs → at ≡ position_or_len p xs
first_some p xs at h = elim (cases_lt (position_or_len p xs) (length xs)) [
  | inl lt ↦
      let t = lt-ltb (position_or_len p xs) (length xs) lt in
      let e : Some at ≡ Some (position_or_len p xs) = rw t at h in
      some-injective _ _ e
  | inr ge ↦
      let f = le-ltb (position_or_len p xs) (length xs) ge in
      let e : Some at ≡ None = rw f at h in
      absurd (none-some at (sym e))
]

pub first_none : {X : Type 0} (p : X → Bool) (xs : List X) → None ≡ position p xs → length xs ≡ position_or_len p xs
first_none p xs h = elim (cases_lt (position_or_len p xs) (length xs)) [
  | inl lt ↦
      let t = lt-ltb (position_or_len p xs) (length xs) lt in
      let e : None ≡ Some (position_or_len p xs) = rw t at h in
      absurd (none-some (position_or_len p xs) e)
  | inr ge ↦ let within = place-within p xs in omega (arith, ge, within)
]

place-map : {X Y : Type 0} (f : X → Y) (p : Y → Bool) (xs : List X) → position_or_len p (map f xs) ≡ position_or_len (λ x. p (f x)) xs
place-map f p [] = refl
place-map f p (x ∷ xs) = ap (λ n. cond (not (p (f x))) (1 + n) 0) (place-map f p xs)

-- ---- items

pub items_at : (words : List CodeWord) → behind_items (all_seen words) ≡ all_seen (drop (position_or_len (λ word. ends_items (seen word)) words) words)
items_at words =
    ap (λ n. drop n (map seen words)) (place-map seen ends_items words) ∙ drop-map seen (position_or_len (λ word. ends_items (seen word)) words) words

-- what stands behind the commas, from the first one on, or from what ends the items
abbrev pub from_comma : List Word → List (List Word)
from_comma [] = []
from_comma (word ∷ rest) = if ends_items word then [] else rest ∷ behind_commas rest

pub commas_at : (words : List CodeWord)
    → behind_commas (all_seen words) ≡ from_comma (all_seen (drop (position_or_len (λ word. ends_item (seen word)) words) words))
unfolding ends_item
commas_at [] = refl
commas_at (word ∷ words) = elim (cases_Bool (ends_items (seen word))) [
  | inl ends ↦ elim (cases_Bool (is_the (codes ",") (seen word))) [
    | inl comma ↦ rw (ends, comma) (sym (rw ends refl))
    | inr other ↦ rw (ends, other) (sym (rw ends refl))
  ]
  | inr goes ↦ elim (cases_Bool (is_the (codes ",") (seen word))) [
    | inl comma ↦ rw (goes, comma) (sym (rw goes refl))
    | inr other ↦ rw (goes, other, one_further) (commas_at words)
  ]
]

nothing_left : (words : List CodeWord) → length words ≡ 0 → from_comma (all_seen words) ≡ []
nothing_left [] none = refl
nothing_left (word ∷ words) none = absurd (omega (arith, none))

pub no_comma : (words rest : List CodeWord) (at : ℕ) → rest ≡ drop at words → at ≡ position_or_len (λ word. ends_item (seen word)) words
    → length rest ≡ 0 → behind_commas (all_seen words) ≡ []
no_comma words rest at cut found none =
    commas_at words ∙ sym (ap (λ n. from_comma (all_seen (drop n words))) found) ∙ sym (ap (λ l. from_comma (all_seen l)) cut) ∙ nothing_left rest none

-- ---- sentences

pub length_at : (words rest : List CodeWord) (first : CodeWord) (at : ℕ) → words ≡ first ∷ rest → at ≡ position_or_len (λ word. begins word.place) rest
    → 1 + at ≡ sentence_length (all_seen words)
length_at words rest first at cut found =
    ap (λ n. 1 + n) (found ∙ sym (place-map seen (λ word. begins word.place) rest)) ∙ sym (ap (λ l. sentence_length (all_seen l)) cut)
