-- The registers and scratch words of the code as a state of the definition.
use Rattle.std.specs.Prelude.{ℕ, Option, Some, None, slice_get}
use Rattle.sk_filter.specs.Meaning.{State, Effect, GoesOn, Ends, Fails}
use Rattle.sk_show.specs.declared.execution.Held.{Held}
use Rattle.sk_show.specs.declared.execution.Next.{Next}
use Rattle.sk_show.specs.declared.execution.Next.TheVariants.{Skip, End, Stuck}
use Rattle.sk_show.specs.declared.execution.Run.{Run}

-- the number in a scratch word that was stored
abbrev pub number_in : Option (Option Held) → Option ℕ
number_in (Some (Some held)) = Some held.number
number_in word = None

abbrev pub state_of : Run → State
state_of run = record { a = run.a.number; x = run.x.number; stored = λ k. number_in (slice_get run.words k) }

-- what an instruction did, by what it answered and the state that it left
abbrev pub effect_of : Next → State → Effect
effect_of (Skip skip) s = GoesOn skip s
effect_of (End value) s = Ends value
effect_of Stuck s = Fails
