-- What was taken from a reader is the first of what it had left.
use Rattle.std.proofs.Common.{◌≡◌, ◌≤◌, ◌+◌, ℕ, List, [], ◌++◌, Option, Some, None, IfSome, length, take, sym, ap, ◌∙◌, arith, take_all, append-nil, length-append}
use Rattle.std.proofs.lemmas.List.{take-append-le}
use Rattle.std.specs.Io.KnownBytes.{Consumes, IsAtEnd, Keeps}
use Rattle.std.proofs.KnownBytes.{Consumes-nil, Consumes-kept, Consumes-trans}
use Rattle.sk_text.specs.Reading.{ConsumesUpTo}

-- as many as were wanted
pub first-full : (old new : Option (List ℕ)) (taken : List ℕ) (most : ℕ) → Consumes old new taken → length taken ≡ most → IfSome old (λ left. taken ≡ take most left)
first-full None new taken most h e = tt
first-full (Some left) None taken most h e = absurd h
first-full (Some left) (Some rest) taken most h e =
    let fits : most ≤ length taken = omega arith in
    sym (ap (take most) h ∙ take-append-le most taken rest fits ∙ take_all most taken (omega arith))

-- all that there was
pub first-ended : (old new : Option (List ℕ)) (taken : List ℕ) (most : ℕ) → Consumes old new taken → IsAtEnd new → length taken ≤ most → IfSome old (λ left. taken ≡ take most left)
first-ended None new taken most h end fits = tt
first-ended (Some left) None taken most h end fits = absurd h
first-ended (Some left) (Some rest) taken most h end fits =
    sym (ap (take most) (h ∙ ap (λ l. taken ++ l) end ∙ append-nil taken) ∙ take_all most taken fits)

-- nothing was taken
pub ConsumesUpTo-nothing : (most : ℕ) (now : Option (List ℕ)) → ConsumesUpTo most now now
ConsumesUpTo-nothing most now = record { gone = []; within = omega arith; consumed = Consumes-nil now }

-- the reader stands still afterwards
pub ConsumesUpTo-kept : (most : ℕ) (old now new : Option (List ℕ)) → ConsumesUpTo most old now → Keeps now new → ConsumesUpTo most old new
ConsumesUpTo-kept most old now new h kept =
    record { gone = h.gone; within = h.within; consumed = Consumes-kept old now new h.gone h.consumed kept }

-- what was taken, and a last piece behind it
pub ConsumesUpTo-piece : (most : ℕ) (old now new : Option (List ℕ)) (taken piece : List ℕ) → Consumes old now taken → Consumes now new piece → length taken + length piece ≤ most → ConsumesUpTo most old new
ConsumesUpTo-piece most old now new taken piece h g fits = record {
  gone = taken ++ piece;
  within = omega (arith, length-append taken piece);
  consumed = Consumes-trans old now new taken piece h g;
}

-- one taking after another
pub ConsumesUpTo-then : (m n : ℕ) (old now new : Option (List ℕ)) → ConsumesUpTo m old now → ConsumesUpTo n now new → ConsumesUpTo (m + n) old new
ConsumesUpTo-then m n old now new h g =
    let fits : length h.gone + length g.gone ≤ m + n = omega arith in
    ConsumesUpTo-piece (m + n) old now new h.gone g.gone h.consumed g.consumed fits
