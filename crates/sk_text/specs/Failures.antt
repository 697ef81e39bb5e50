-- How a reader or a writer counts the failures that it has answered.
use Rattle.std.specs.Prelude.{ℕ, ◌+◌, ◌-◌, ◌^◌, min, Result, Ok, Err}

-- one more, up to the largest count of 64 bits
abbrev pub one_more : ℕ → ℕ
one_more count = min (count + 1) (2 ^ 64 - 1)

-- the count after an answer: an error is one more, and nothing else is counted
abbrev pub count_after : {T E : Type 0} → ℕ → Result T E → ℕ
count_after count (Ok value) = count
count_after count (Err error) = one_more count
