-- The names at a place of a list.
use Rattle.std.proofs.Common.{◌≡◌, ℕ, zero, suc, ◌+◌, ◌-◌, List, [], ◌∷◌, map, take, drop, ap, ◌∙◌, refl, arith}

from-place : {X Y : Type 0} → (f : X → Y) (xs : List X) (n place : ℕ) → map f (take n (drop place xs)) ≡ take n (drop place (map f xs))
from-place f [] zero zero = refl
from-place f [] (suc n) zero = refl
from-place f [] zero (suc place) = refl
from-place f [] (suc n) (suc place) = refl
from-place f (x ∷ xs) zero zero = refl
from-place f (x ∷ xs) (suc n) zero = ap (λ ys. f x ∷ ys) (from-place f xs n zero)
from-place f (x ∷ xs) n (suc place) = from-place f xs n place

pub one_name : {X Y : Type 0} → (f : X → Y) (xs : List X) (place : ℕ) → map f (take (place + 1 - place) (drop place xs)) ≡ take 1 (drop place (map f xs))
one_name f xs place =
    let one : place + 1 - place ≡ 1 = omega arith in
    ap (λ n. map f (take n (drop place xs))) one ∙ from-place f xs 1 place
