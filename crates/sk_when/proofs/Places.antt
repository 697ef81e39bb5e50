-- Places in a list, of which a part was looked through.
use Rattle.std.proofs.Common.{◌≡◌, ℕ, ◌-◌, ◌||◌, ◌⊎◌, inl, inr, Bool, true, false, List, length, take, drop, ap, sym, ◌∙◌, refl, length-drop}
use Rattle.std.specs.List.{list_any}
use Rattle.std.proofs.lemmas.List.{take-append-drop}
use Rattle.std.proofs.lemmas.List.Folds.{list_any-append}
use Rattle.std.proofs.Math.Seq.{take-length}

pub whole_tail : {X : Type 0} → (xs : List X) (n : ℕ) → take (length xs - n) (drop n xs) ≡ drop n xs
whole_tail xs n = ap (λ k. take k (drop n xs)) (sym (length-drop n xs)) ∙ take-length (drop n xs)

-- an element that passes is before a place or behind it
of_either : (a b : Bool) → (a || b) ≡ true → (a ≡ true) ⊎ (b ≡ true)
of_either true b any = inl refl
of_either false b any = inr any

pub passes_either : {X : Type 0} (p : X → Bool) (xs : List X) (n : ℕ) → list_any p xs ≡ true → (list_any p (take n xs) ≡ true) ⊎ (list_any p (drop n xs) ≡ true)
passes_either p xs n any =
    of_either (list_any p (take n xs)) (list_any p (drop n xs)) (sym (list_any-append p (take n xs) (drop n xs)) ∙ ap (list_any p) (take-append-drop n xs) ∙ any)
