-- Names that are given once are not found before they are given, whatever stands beside them: here the labels, and
-- above this crate the names of a scenario.
use Rattle.std.proofs.Common.{◌≡◌, ◌∙◌, refl, sym, ℕ, List, [], ◌∷◌, ◌++◌, map, false, None, inl, inr, true≢false}
use Rattle.std.proofs.lemmas.Bool.{cases_Bool}
use Rattle.std.proofs.lemmas.Slice.Eq.{bytes_eq-Decides}
use Rattle.std.specs.List.{IsDistinct, AllByRecursion}
use Rattle.std.specs.Map.{lookup}
use Rattle.std.specs.Str.{bytes_eq}

abbrev names : {X : Type 0} → List (List ℕ × X) → List (List ℕ)
names given = map (λ entry. entry.0) given

abbrev pub AreGivenOnce : {X : Type 0} → List (List ℕ × X) → Type 0
AreGivenOnce given = IsDistinct bytes_eq (names given)

bytes_eq-flips : (xs ys : List ℕ) → bytes_eq xs ys ≡ false → bytes_eq ys xs ≡ false
bytes_eq-flips xs ys h = elim (cases_Bool (bytes_eq ys xs)) [
  | inl t ↦
      let same = (bytes_eq-Decides ys xs).0 t in
      let found = (bytes_eq-Decides xs ys).1 (sym same) in
      absurd (true≢false (sym found ∙ h))
  | inr f ↦ f
]

-- what holds of all names holds of one among them
all-among : {X : Type 0} (P : List ℕ → Type 0) (given rest : List (List ℕ × X)) (name : List ℕ) (what : X) → AllByRecursion P (names (given ++ (name, what) ∷ rest)) → P name
all-among P [] rest name what h = h.0
all-among P (entry ∷ given) rest name what h = all-among P given rest name what h.1

all-push : {X : Type 0} (P : List ℕ → Type 0) (given : List (List ℕ × X)) (name : List ℕ) (what : X) → AllByRecursion P (names given) → P name → AllByRecursion P (names (given ++ (name, what) ∷ []))
all-push P [] name what h p = (p, tt)
all-push P (entry ∷ given) name what h p = (h.0, all-push P given name what h.1 p)

pub given_once-absent : {X : Type 0} (given rest : List (List ℕ × X)) (name : List ℕ) (what : X) → AreGivenOnce (given ++ (name, what) ∷ rest) → lookup (bytes_eq name) given ≡ None
unfolding IsDistinct
given_once-absent [] rest name what h = refl
given_once-absent (entry ∷ given) rest name what h =
    let other = bytes_eq-flips entry.0 name (all-among (λ y. bytes_eq entry.0 y ≡ false) given rest name what h.0) in
    rw other (given_once-absent given rest name what h.1)

-- an absent name is none of the names
other-first : {X : Type 0} (entry : List ℕ × X) (given : List (List ℕ × X)) (name : List ℕ) → lookup (bytes_eq name) (entry ∷ given) ≡ None → (bytes_eq name entry.0 ≡ false) × (lookup (bytes_eq name) given ≡ None)
other-first entry given name h = elim (cases_Bool (bytes_eq name entry.0)) [
  | inl t ↦ let found = rw t at h in cc
  | inr f ↦ (f, rw f at h)
]

pub given_once-push : {X : Type 0} (given : List (List ℕ × X)) (name : List ℕ) (what : X) → AreGivenOnce given → lookup (bytes_eq name) given ≡ None → AreGivenOnce (given ++ (name, what) ∷ [])
unfolding IsDistinct
given_once-push [] name what h absent = (tt, tt)
given_once-push (entry ∷ given) name what h absent =
    let other = other-first entry given name absent in
    (all-push (λ y. bytes_eq entry.0 y ≡ false) given name what h.0 (bytes_eq-flips name entry.0 other.0), given_once-push given name what h.1 other.1)

pub given_once-none : (X : Type 0) → AreGivenOnce {X = X} []
unfolding IsDistinct
given_once-none X = tt
