-- The outcome of a call by what the function that performs it answers.
use Rattle.std.specs.Prelude.{ℕ, pos, neg_ℤ, Result, Ok, Err}
use Rattle.sk_world.specs.declared.errno.Errno.{Errno}
use Rattle.sk_world.specs.Errno.{number_of}
use Rattle.sk_machine.specs.declared.answer.Outcome.{Outcome}
use Rattle.sk_machine.specs.declared.answer.Outcome.TheVariants.{Returned}

-- what a call comes to that returns a number, or fails
abbrev pub returned : Result ℕ Errno → Outcome
returned (Ok n) = Returned (pos n)
returned (Err e) = Returned (neg_ℤ (pos (number_of e)))

-- what a call comes to that returns 0, or fails
abbrev pub done : Result (Unit {0}) Errno → Outcome
done (Ok _) = Returned (pos 0)
done (Err e) = Returned (neg_ℤ (pos (number_of e)))
