-- A map of names, as the list of them, whatever stands beside them: here the labels, and above this crate the names of a
-- scenario.
use Rattle.std.proofs.Common.{◌≡◌, ◌∙◌, ap, refl, ℕ, List, [], ◌∷◌, ◌++◌, map, Bor, false, cond, Option, Some, None, is_some, inl, inr}
use Rattle.std.proofs.lemmas.Bool.{cases_Bool}
use Rattle.std.specs.Map.{lookup}
use Rattle.std.specs.Str.{bytes_eq}
use Rattle.indexmap.specs.IndexMap.{insert_entry}

abbrev pub entries_in : {X : Type 0} → List (Bor (List ℕ) × X) → List (List ℕ × X)
entries_in entries = map (λ entry. (entry.0.now, entry.1)) entries

-- a name is looked up by its bytes
pub named_in_entries : {X : Type 0} (name : List ℕ) (entries : List (Bor (List ℕ) × X)) → lookup (bytes_eq name) (entries_in entries) ≡ lookup (λ key. bytes_eq name key.now) entries
named_in_entries name [] = refl
named_in_entries name (e ∷ entries) = ap (λ rest. cond (bytes_eq name e.0.now) (Some e.1) rest) (named_in_entries name entries)

is_some-false : {A : Type 0} (o : Option A) → is_some o ≡ false → o ≡ None
is_some-false None h = refl
is_some-false (Some x) h = cc

-- a name that is not there goes last
entries_more : {X : Type 0} (name : Bor (List ℕ)) (what : X) (entries : List (Bor (List ℕ) × X)) → lookup (λ key. bytes_eq name.now key.now) entries ≡ None
    → entries_in (insert_entry (λ a b. bytes_eq a.now b.now) entries name what) ≡ entries_in entries ++ (name.now, what) ∷ []
entries_more name what [] h = refl
entries_more name what (e ∷ entries) h = elim (cases_Bool (bytes_eq name.now e.0.now)) [
  | inl t ↦ let found = rw t at h in cc
  | inr f ↦ let next = rw f at h in rw f (ap (λ rest. (e.0.now, e.1) ∷ rest) (entries_more name what entries next))
]

pub entries_after : {X : Type 0} (name : Bor (List ℕ)) (what : X) (entries after : List (Bor (List ℕ) × X)) → is_some (lookup (λ key. bytes_eq name.now key.now) entries) ≡ false
    → after ≡ insert_entry (λ a b. bytes_eq a.now b.now) entries name what → entries_in after ≡ entries_in entries ++ (name.now, what) ∷ []
entries_after name what entries after h e = ap entries_in e ∙ entries_more name what entries (is_some-false (lookup (λ key. bytes_eq name.now key.now) entries) h)
