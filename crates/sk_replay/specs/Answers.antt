-- What the code's answers to arguments say.
use Rattle.std.specs.Prelude.{ℕ, List, Result, Ok, Err}
use Rattle.std.specs.Borrow.{Bor}

abbrev pub number_or_part : Result ℕ (Bor (List ℕ)) → Result ℕ (List ℕ)
number_or_part (Ok number) = Ok number
number_or_part (Err part) = Err part.now
