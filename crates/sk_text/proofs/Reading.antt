-- A number is read digit by digit.
use Rattle.std.proofs.Common.{◌≡◌, ◌<◌, ◌≤◌, ◌+◌, ◌*◌, ◌∙◌, ap, arith, sym, refl, suc, ℕ, List, [], ◌∷◌, Option, Some, None, length, drop, get_or, cond, drop-cons, add-one, inl, inr}
use Rattle.std.proofs.lemmas.Bool.{lt-ltb, lt-leb, le-leb, cases_Bool}
use Rattle.std.proofs.Math.Nat.{mul-le-mul_left}
use Rattle.std.specs.Char.{digit_value}
use Rattle.std.specs.List.{list_all}
use Rattle.std.specs.Str.Parse.{digits_value_after}
use Rattle.sk_text.specs.Numbers.{is_digit_in, up_to}

-- what digits write behind those of a value
abbrev pub number_after : ℕ → ℕ → List ℕ → Option ℕ
number_after radix value digits = cond (list_all (is_digit_in radix) digits) (Some (digits_value_after radix value digits)) None

pub number_after-digit : (radix value d : ℕ) (digits : List ℕ) → digit_value d < radix → number_after radix value (d ∷ digits) ≡ number_after radix (value * radix + digit_value d) digits
number_after-digit radix value d digits h = let t = lt-ltb (digit_value d) radix h in rw t refl

-- further digits make no value smaller
digits_value_after-le : (radix value : ℕ) (digits : List ℕ) → 1 ≤ radix → value ≤ digits_value_after radix value digits
digits_value_after-le radix value [] h = omega arith
digits_value_after-le radix value (d ∷ digits) h =
    let grown = mul-le-mul_left value h in
    let next = digits_value_after-le radix (value * radix + digit_value d) digits h in
    omega (arith, grown, next)

pub up_to-large : (most n : ℕ) → most < n → up_to most (Some n) ≡ None
up_to-large most n h = let f = lt-leb n most h in rw f refl

pub up_to-within : (most n : ℕ) → n ≤ most → up_to most (Some n) ≡ Some n
up_to-within most n h = let t = le-leb n most h in rw t refl

pub number_after-large : (radix value most : ℕ) (digits : List ℕ) → 1 ≤ radix → most < value → up_to most (number_after radix value digits) ≡ None
number_after-large radix value most digits h large =
    let grown = digits_value_after-le radix value digits h in
    elim (cases_Bool (list_all (is_digit_in radix) digits)) [
      | inl t ↦ rw t (up_to-large most (digits_value_after radix value digits) (omega (arith, grown)))
      | inr f ↦ rw f refl
    ]

-- ---- a turn of the loop that reads them

pub turn_digit : (radix value most i : ℕ) (digits : List ℕ) (total : Option ℕ) → i < length digits → digit_value (get_or digits i 0) < radix
    → up_to most (number_after radix value (drop i digits)) ≡ total
    → up_to most (number_after radix (value * radix + digit_value (get_or digits i 0)) (drop (i + 1) digits)) ≡ total
turn_digit radix value most i digits total within small h =
    rw add-one (ap (up_to most) (sym (number_after-digit radix value (get_or digits i 0) (drop (suc i) digits) small))
    ∙ rw (drop-cons digits i 0 within) at h)

pub turn_large : (radix value most i : ℕ) (digits : List ℕ) (total : Option ℕ) → i < length digits → 1 ≤ radix → digit_value (get_or digits i 0) < radix
    → most < value * radix + digit_value (get_or digits i 0)
    → up_to most (number_after radix value (drop i digits)) ≡ total → total ≡ None
turn_large radix value most i digits total within one small large h =
    sym (turn_digit radix value most i digits total within small h)
    ∙ number_after-large radix (value * radix + digit_value (get_or digits i 0)) most (drop (i + 1) digits) one large
