-- The arguments of a call, one after the other.
use Rattle.std.proofs.Common.{◌≡◌, ◌≤◌, ◌+◌, ◌-◌, ◌==◌, ◌∙◌, ap, arith, refl, sym, ℕ, zero, suc, List, [], ◌∷◌, ◌++◌, append_assoc, append-nil, drop, length, true, false, if◌then◌else◌, Option, Some, None, codes, nat_eq}
use Rattle.std.proofs.lemmas.Bool.{eqb-false, eqb-true}
use Rattle.std.specs.List.{starts_with}
use Rattle.sk_text.specs.Lines.{words_of}
use Rattle.sk_asm.specs.Grammar.{◌>>=◌}
use Rattle.sk_replay.specs.declared.value.Value.{Value}
use Rattle.sk_replay.specs.declared.written.Written.{Written}
use Rattle.sk_replay.specs.Values.{value_of}
use Rattle.sk_replay.specs.Lines.{behind_argument, first_argument, last_value, values_in}

-- these arguments in front of others
abbrev pub onto : List Value → Option (List Value × List ℕ) → Option (List Value × List ℕ)
onto args rest = rest >>= λ it. Some (args ++ it.0, it.1)

pub onto_none : (all : Option (List Value × List ℕ)) → onto [] all ≡ all
onto_none None = refl
onto_none (Some it) = refl

onto_more : (args : List Value) (one : Value) (rest : Option (List Value × List ℕ))
    → onto args (rest >>= λ rest. Some (one ∷ rest.0, rest.1)) ≡ onto (args ++ one ∷ []) rest
onto_more args one None = refl
onto_more args one (Some rest) = λ i. Some (sym (append_assoc args (one ∷ []) rest.0) i, rest.1)

module _ (how : Written) (args : List Value) (text : List ℕ) (room n : ℕ) (total : Option (List Value × List ℕ))
    (left : n ≡ suc room) (so_far : onto args (values_in how n text) ≡ total) where
  opened : onto args (values_in how (suc room) text) ≡ total
  opened = ap (λ n. onto args (values_in how n text)) (sym left) ∙ so_far

  by_comma : values_in how (suc room) text
      ≡ (if starts_with nat_eq (behind_argument text) (codes ",")
      then (values_in how room (drop 1 (behind_argument text)) >>= λ rest. Some (value_of how (first_argument text) ∷ rest.0, rest.1))
      else Some (last_value how (first_argument text) (words_of (first_argument text)), behind_argument text))
  unfolding values_in
  by_comma = refl

  pub comma : starts_with nat_eq (behind_argument text) (codes ",") ≡ true
      → onto (args ++ value_of how (first_argument text) ∷ []) (values_in how room (drop 1 (behind_argument text))) ≡ total
  comma t =
      let goes_on : values_in how (suc room) text ≡ (values_in how room (drop 1 (behind_argument text)) >>= λ rest. Some (value_of how (first_argument text) ∷ rest.0, rest.1)) =
      by_comma ∙ rw t refl in
      sym (onto_more args (value_of how (first_argument text)) (values_in how room (drop 1 (behind_argument text)))) ∙ sym (ap (onto args) goes_on) ∙ opened

  pub last : starts_with nat_eq (behind_argument text) (codes ",") ≡ false
      → Some (args ++ last_value how (first_argument text) (words_of (first_argument text)), behind_argument text) ≡ total
  last f =
      let ends : values_in how (suc room) text ≡ Some (last_value how (first_argument text) (words_of (first_argument text)), behind_argument text) =
      by_comma ∙ rw f refl in
      sym (ap (onto args) ends) ∙ opened

  -- where the code's values are those of the definition
  pub turned : (first behind rest : List ℕ) (value : Value) (after : List Value) (m : ℕ) → first ≡ first_argument text → behind ≡ behind_argument text
      → value ≡ value_of how first → after ≡ args ++ value ∷ [] → rest ≡ drop 1 behind → m ≡ room → starts_with nat_eq behind (codes ",") ≡ true
      → onto after (values_in how m rest) ≡ total
  turned first behind rest value after m is_first is_behind is_value is_after is_rest is_room t =
      let same_value : value ≡ value_of how (first_argument text) = is_value ∙ ap (value_of how) is_first in
      let same_args : after ≡ args ++ value_of how (first_argument text) ∷ [] = is_after ∙ ap (λ v. args ++ v ∷ []) same_value in
      let same_rest : rest ≡ drop 1 (behind_argument text) = is_rest ∙ ap (drop 1) is_behind in
      let goes_on = comma (sym (ap (λ b. starts_with nat_eq b (codes ",")) is_behind) ∙ t) in
      (λ i. onto (same_args i) (values_in how (is_room i) (same_rest i))) ∙ goes_on

pub full : (how : Written) (args : List Value) (text : List ℕ) (n : ℕ) (total : Option (List Value × List ℕ)) → n ≡ 0
    → onto args (values_in how n text) ≡ total → total ≡ None
unfolding values_in
full how args text n total none so_far = sym so_far ∙ ap (λ n. onto args (values_in how n text)) none

-- ---- room for six

pub left_room : (count : ℕ) → (count == 6) ≡ false → count ≤ 6 → 6 - count ≡ suc (5 - count)
left_room count f few = let apart = eqb-false count 6 f in omega (arith, apart, few)

pub no_room : (count : ℕ) → (count == 6) ≡ true → 6 - count ≡ 0
no_room count t = let same = eqb-true count 6 t in omega (arith, same)

pub spent : (count more : ℕ) → more ≡ count + 1 → 6 - more ≡ 5 - count
spent count more one = omega (arith, one)

pub rest_fits : (text : List ℕ) → length (drop 1 text) ≤ length text - 1
rest_fits [] = omega arith
rest_fits (first ∷ rest) = omega arith
