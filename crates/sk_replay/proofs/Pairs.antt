-- Words that are compared pair by pair.
use Rattle.std.proofs.Common.{◌≡◌, ◌∙◌, ap, refl, sym, ℕ, Bool, List, [], ◌∷◌, true, false}
use Rattle.std.specs.Cmp.Lexicographic.{pointwise}
use Rattle.std.specs.Str.{bytes_eq}

compared : (word other : List ℕ) (words rest others more : List (List ℕ)) (total : Bool) → words ≡ word ∷ rest → others ≡ other ∷ more
    → pointwise bytes_eq words others ≡ total → pointwise bytes_eq (word ∷ rest) (other ∷ more) ≡ total
compared word other words rest others more total cut cut' so_far =
    sym (ap (λ w. pointwise bytes_eq w others) cut ∙ ap (pointwise bytes_eq (word ∷ rest)) cut') ∙ so_far

pub both : (word other : List ℕ) (words rest others more : List (List ℕ)) (total : Bool) → words ≡ word ∷ rest → others ≡ other ∷ more
    → bytes_eq word other ≡ true → pointwise bytes_eq words others ≡ total → pointwise bytes_eq rest more ≡ total
both word other words rest others more total cut cut' t so_far =
    sym (sym (compared word other words rest others more total cut cut' so_far) ∙ rw t refl)

pub apart : (word other : List ℕ) (words rest others more : List (List ℕ)) (total : Bool) → words ≡ word ∷ rest → others ≡ other ∷ more
    → bytes_eq word other ≡ false → pointwise bytes_eq words others ≡ total → false ≡ total
apart word other words rest others more total cut cut' f so_far =
    sym (sym (compared word other words rest others more total cut cut' so_far) ∙ rw f refl)

pub longer : (word : List ℕ) (words rest others : List (List ℕ)) (total : Bool) → words ≡ word ∷ rest → others ≡ []
    → pointwise bytes_eq words others ≡ total → false ≡ total
longer word words rest others total cut none so_far =
    sym (ap (λ w. pointwise bytes_eq w others) cut ∙ ap (pointwise bytes_eq (word ∷ rest)) none) ∙ so_far

pub shorter : (other : List ℕ) (words others more : List (List ℕ)) (total : Bool) → words ≡ [] → others ≡ other ∷ more
    → pointwise bytes_eq words others ≡ total → false ≡ total
shorter other words others more total none cut so_far =
    sym (ap (λ w. pointwise bytes_eq w others) none ∙ ap (pointwise bytes_eq []) cut) ∙ so_far
