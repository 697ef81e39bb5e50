-- The name of a number of a set: it is read as that number, and is an identifier of C.
use Rattle.std.proofs.Common.{◌≡◌, Bor, ℕ, ◌+◌, ◌==◌, ◌&&◌, ◌<◌, ◌-◌, nat_le, List, [], drop, get_or, length, Bool, true, false, cond, Option, Some, None, slice_get, position, arith, ap, refl, sym, ◌∙◌}
use Rattle.std.specs.Prelude.{IsTrue, IfSome}
use Rattle.std.specs.List.{list_all, slice_range}
use Rattle.std.specs.Option.{option_map}
use Rattle.std.proofs.lemmas.Bool.{eqb-true, leb-true}
use Rattle.std.proofs.lemmas.List.{get_or-drop, get_or-take, length-drop, length-take-le}
use Rattle.std.proofs.lemmas.List.Quantifiers.{position-Some}
use Rattle.std.proofs.lemmas.Option.{option_and_then_some, slice_get-get_or}
use Rattle.sk_arguments.specs.declared.constants.Set.{Set}
use Rattle.sk_arguments.specs.Constants.{all_names, all_numbers, name_in, number_of_constant, numbers_of, part}
use Rattle.sk_arguments.specs.Laws.{is_identifier}
use Rattle.sk_arguments.proofs.Following.{both, one_of}
use Rattle.sk_arguments.proofs.ReadsBack.{all_read}

-- a number of a part stands in the whole
in_part : (numbers : List ℕ) (first end place : ℕ) → place < length (part numbers first end) → slice_get numbers (first + place) ≡ Some (get_or (part numbers first end) place 0)
in_part numbers first end place = by_order (nat_le first end && nat_le end (length numbers)) refl
  where
    by_order : (b : Bool) → (nat_le first end && nat_le end (length numbers)) ≡ b → place < length (cond b (slice_range numbers first end) [])
        → slice_get numbers (first + place) ≡ Some (get_or (cond b (slice_range numbers first end) []) place 0)
    by_order false is less = absurd (omega (arith, less))
    by_order true is less =
        let parts = both (nat_le first end) (nat_le end (length numbers)) is in
        let low = leb-true first end parts.0 in
        let high = leb-true end (length numbers) parts.1 in
        let long : length (slice_range numbers first end) ≡ end - first =
        length-take-le (end - first) (drop first numbers) (rw (length-drop first numbers) (omega (arith, low, high))) in
        let here : get_or (slice_range numbers first end) place 0 ≡ get_or numbers (first + place) 0 =
        get_or-take (end - first) (drop first numbers) place 0 (omega (arith, less, long)) ∙ get_or-drop first numbers place 0 in
        slice_get-get_or numbers (first + place) 0 (omega (arith, less, long, low, high)) ∙ ap Some (sym here)

pub name_is_read : (set : Set) (number : ℕ) (name : List ℕ) → name_in set number ≡ Some name → number_of_constant name ≡ Some number
unfolding name_in
name_is_read set number name is =
    option_and_then_some (λ place. slice_get all_names (set.first + place)) (position (λ other. other == number) (numbers_of set)) name is
    (λ place there named.
    let first = position-Some (λ other. other == number) (numbers_of set) place 0 there in
    let same : get_or (numbers_of set) place 0 ≡ number = eqb-true _ _ first.1 in
    all_read (set.first + place) number name (in_part all_numbers set.first set.end place first.0 ∙ ap Some same) named)

-- ---- identifiers

pub all_identifiers : IsTrue (list_all is_identifier all_names)
unfolding all_names
all_identifiers = refl

pub name_is_identifier : (set : Set) (number : ℕ) (name : List ℕ) → name_in set number ≡ Some name → IsTrue (is_identifier name)
unfolding name_in
name_is_identifier set number name is =
    option_and_then_some (λ place. slice_get all_names (set.first + place)) (position (λ other. other == number) (numbers_of set)) name is
    (λ place there named. one_of is_identifier all_names (set.first + place) name all_identifiers named)

-- ---- what a contract says of an answer

pub answer_is_read : (found : Option (Bor (List ℕ))) (set : Set) (number : ℕ) → option_map (λ name. name.now) found ≡ name_in set number
    → IfSome found (λ name. number_of_constant name.now ≡ Some number)
answer_is_read None set number is = tt
answer_is_read (Some name) set number is = name_is_read set number name.now (sym is)

pub answer_is_identifier : (found : Option (Bor (List ℕ))) (set : Set) (number : ℕ) → option_map (λ name. name.now) found ≡ name_in set number
    → IfSome found (λ name. IsTrue (is_identifier name.now))
answer_is_identifier None set number is = tt
answer_is_identifier (Some name) set number is = name_is_identifier set number name.now (sym is)
