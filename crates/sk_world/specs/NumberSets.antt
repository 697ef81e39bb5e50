-- Sets of numbers below 32768.
use Rattle.std.specs.Prelude.{◌≡◌, ℕ, zero, suc, ◌/◌, ◌%◌, ◌<◌, ◌≤◌, ◌==◌, Bool, false, IsTrue, List, [], ◌∷◌, ◌++◌, filter, slice_index, Option, None, Some}
use Rattle.std.specs.Int.{bit_at}
use Rattle.std.specs.List.{list_any}

-- the numbers below n, in rising order
unfoldable pub numbers_below : ℕ → List ℕ
numbers_below zero = []
numbers_below (suc n) = numbers_below n ++ n ∷ []

-- a number is among these
unfoldable pub contains : List ℕ → ℕ → Bool
contains members n = list_any (λ member. member == n) members

-- the least number above this one that passes the test, or that there is none
abbrev pub IsLeastAbove : (ℕ → Bool) → ℕ → Option ℕ → Type 0
IsLeastAbove test after None = (n : ℕ) → after < n → test n ≡ false
IsLeastAbove test after (Some least) =
    (after < least) × IsTrue (test least) × ((n : ℕ) → after < n → n < least → test n ≡ false)

-- the least number not below this one that passes the test, or that there is none
abbrev pub IsLeastFrom : (ℕ → Bool) → ℕ → Option ℕ → Type 0
IsLeastFrom test start None = (n : ℕ) → start ≤ n → test n ≡ false
IsLeastFrom test start (Some least) =
    (start ≤ least) × IsTrue (test least) × ((n : ℕ) → start ≤ n → n < least → test n ≡ false)

-- the least number that passes the test, or that there is none
abbrev pub IsLeast : (ℕ → Bool) → Option ℕ → Type 0
IsLeast test None = (n : ℕ) → test n ≡ false
IsLeast test (Some least) = IsTrue (test least) × ((n : ℕ) → n < least → test n ≡ false)

-- whether the bits have the number: bit n % 64 of the word n / 64
abbrev pub has_bit : List ℕ → ℕ → Bool
has_bit words n = bit_at (slice_index words (n / 64)) (n % 64) == 1

-- the numbers that the bits stand for, in rising order
unfoldable pub members_of : List ℕ → List ℕ
members_of words = filter (has_bit words) (numbers_below 32768)
