-- The numbers of the calls that logs have are those of their calls, and no others.
use Rattle.std.specs.Prelude.{ℕ, ◌≡◌, List}
use Rattle.sk_names.specs.declared.architecture.Architecture.{Architecture}
use Rattle.sk_replay.specs.Logged.{RiseFrom, is_among, is_made, numbers_in}

-- a number is among them where a line of a log is a call with it, and only there
abbrev pub NumbersAreMade : Type 0
NumbersAreMade = (by : Architecture) (logs : List (List ℕ)) (nr : ℕ) → is_among nr (numbers_in by logs) ≡ is_made by nr logs

-- each is less than those behind it
abbrev pub NumbersRise : Type 0
NumbersRise = (by : Architecture) (logs : List (List ℕ)) → RiseFrom 0 (numbers_in by logs)
