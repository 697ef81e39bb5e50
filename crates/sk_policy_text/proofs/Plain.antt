-- A number in decimal has no 0 before other digits, and is read as itself.
use Rattle.std.proofs.Common.{◌≡◌, ◌==◌, ◌<◌, ◌≤◌, ◌^◌, ℕ, zero, suc, List, [], ◌∷◌, get_or, false, Some, arith, refl}
use Rattle.std.proofs.lemmas.Bool.{le-leb}
use Rattle.std.proofs.lemmas.Bool.Decides.{nat_tests}
use Rattle.std.proofs.lemmas.Fmt.{first_decimal}
use Rattle.std.specs.Fmt.{decimal, digits}
use Rattle.sk_asm.proofs.Numerals.{number_of-decimal}
use Rattle.sk_replay.specs.WordCalls.{begins_with_zero, plain_number}

above_zero : (digits : List ℕ) → 48 < get_or digits 0 0 → begins_with_zero digits ≡ false
above_zero [] h = refl
above_zero (first ∷ []) h = refl
above_zero (first ∷ second ∷ rest) h =
    let above : 48 < first = h in
    let no : (first == 48) ≡ false = grind (arith, nat_tests, above) in
    rw no refl

no_zero : (n : ℕ) → n < 2 ^ 64 → begins_with_zero (decimal n) ≡ false
unfolding digits
no_zero zero h = refl
no_zero (suc n) h = above_zero (decimal (suc n)) (first_decimal (suc n) (omega arith) h)

pub plain-decimal : (most n : ℕ) → n < 2 ^ 32 → n ≤ most → plain_number most (decimal n) ≡ Some n
unfolding plain_number
plain-decimal most n small fits =
    let none = no_zero n (omega (arith, small)) in
    let is = number_of-decimal n (omega (arith, small)) in
    let t = le-leb n most fits in
    rw (none, is, t) refl
