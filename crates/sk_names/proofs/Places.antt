-- The place of a name in a table.
use Rattle.std.proofs.Common.{◌≡◌, ◌≢◌, ℕ, suc, ◌<◌, ◌≤◌, ◌+◌, List, [], ◌∷◌, length, map, get_or, slice_get, position, Option, Some, None, Bor, Bool, not, cond, arith, rules, ap, refl, ◌∙◌}
use Rattle.std.specs.Str.{bytes_eq}
use Rattle.std.specs.List.{position_or_len, prefix_len}
use Rattle.std.proofs.Math.Logic.{⊎_elim}
use Rattle.std.proofs.lemmas.Option.{slice_get-get_or, slice_get_past}
use Rattle.std.proofs.lemmas.List.Quantifiers.{position-Some}
use Rattle.std.proofs.lemmas.List.Sums.{fails_before_first}
use Rattle.std.proofs.lemmas.Slice.Eq.{bytes_eq-Decides}
use Rattle.std.proofs.lemmas.Bool.{cases_lt, lt-ltb}

-- the place of a text among others
abbrev pub at : List (List ℕ) → List ℕ → Option ℕ
at names wanted = position (λ name. bytes_eq name wanted) names

-- ---- the texts of a table

prefix-texts : (test : List ℕ → Bool) (names : List (Bor (List ℕ))) → prefix_len test (map (λ name. name.now) names) ≡ prefix_len (λ name. test name.now) names
prefix-texts test [] = refl
prefix-texts test (name ∷ names) = ap (λ n. cond (test name.now) (1 + n) 0) (prefix-texts test names)

length-texts : (names : List (Bor (List ℕ))) → length (map (λ name. name.now) names) ≡ length names
length-texts [] = refl
length-texts (name ∷ names) = ap suc (length-texts names)

pub position_texts : (test : List ℕ → Bool) (names : List (Bor (List ℕ))) → position test (map (λ name. name.now) names) ≡ position (λ name. test name.now) names
position_texts test names =
    let same = prefix-texts (λ text. not (test text)) names in
    let long = length-texts names in
    rw (same, long) refl

-- ---- the name at a place

at_place : (names : List (List ℕ)) (wanted : List ℕ) (k : ℕ) → at names wanted ≡ Some k → slice_get names k ≡ Some wanted
at_place names wanted k h =
    let there = position-Some (λ name. bytes_eq name wanted) names k [] h in
    let e : get_or names k [] ≡ wanted = search (rules, bytes_eq-Decides (get_or names k []) wanted, there.1) in
    slice_get-get_or names k [] there.0 ∙ ap Some e

pub is_at : (names : List (List ℕ)) (wanted : List ℕ) (k : ℕ) → at names wanted ≡ Some k → (k < length names) × (slice_get names k ≡ Some wanted)
is_at names wanted k h = ((position-Some (λ name. bytes_eq name wanted) names k [] h).0, at_place names wanted k h)

-- ---- no place

all_before : (names : List (List ℕ)) (wanted : List ℕ) → at names wanted ≡ None → length names ≤ position_or_len (λ name. bytes_eq name wanted) names
all_before names wanted h =
    ⊎_elim (λ less. let t = lt-ltb _ _ less in let u = rw t at h in absurd (search (rules, u))) (λ more. more)
    (cases_lt (position_or_len (λ name. bytes_eq name wanted) names) (length names))

pub nowhere : (names : List (List ℕ)) (wanted : List ℕ) → at names wanted ≡ None → (k : ℕ) → slice_get names k ≢ Some wanted
nowhere names wanted h k = ⊎_elim (λ less. apart k less) (λ more. past k more) (cases_lt k (length names))
  where
    apart : (k : ℕ) → k < length names → slice_get names k ≢ Some wanted
    apart k less is =
        let all = all_before names wanted h in
        let other = fails_before_first (λ name. bytes_eq name wanted) names k [] (omega arith) in
        let ne : get_or names k [] ≢ wanted = search (rules, bytes_eq-Decides (get_or names k []) wanted, other) in
        let there = slice_get-get_or names k [] less in
        search (rules, ne, there, is)

    past : (k : ℕ) → length names ≤ k → slice_get names k ≢ Some wanted
    past k more = let none = slice_get_past names k more in search (rules, none)
