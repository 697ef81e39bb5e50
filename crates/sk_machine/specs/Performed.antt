-- What a performed call comes to: its outcome, and the world afterwards.
use Rattle.std.specs.Prelude.{ℕ, pos, neg_ℤ, Result, Ok, Err}
use Rattle.sk_world.specs.declared.errno.Errno.{Errno}
use Rattle.sk_world.specs.Errno.{number_of}
use Rattle.sk_world.specs.declared.process.Waiting.{Waiting}
use Rattle.sk_world.specs.declared.process.Body.{Body}
use Rattle.sk_world.specs.World.{World, changed}
use Rattle.sk_machine.specs.declared.answer.Outcome.{Outcome}
use Rattle.sk_machine.specs.declared.answer.Outcome.TheVariants.{Returned, Waits}
use Rattle.sk_machine.specs.Authority.{Authority, with_authority}

-- what a call comes to, and the world afterwards
pub record Performed : Type 0 where
  pub outcome : Outcome
  pub world : World

-- the call returns a number: syscalls(2)
abbrev pub returns : World → ℕ → Performed
returns w n = record { outcome = Returned (pos n); world = w }

-- a failed call returns the negated error, and changes nothing of the world that it is given
abbrev pub fails : World → Errno → Performed
fails w e = record { outcome = Returned (neg_ℤ (pos (number_of e))); world = w }

-- the number that a call returns, or its error, where the world stays as it is
abbrev pub asked : World → Result ℕ Errno → Performed
asked w (Ok n) = returns w n
asked w (Err e) = fails w e

-- a call that returns a number has made another world of this one, or has failed
abbrev pub changes : World → ℕ → Result World Errno → Performed
changes w n (Ok after) = returns after n
changes w n (Err e) = fails w e

-- a call gives the caller another authority, and returns 0, or fails
abbrev pub authorises : World → ℕ → Result Authority Errno → Performed
authorises w pid (Ok a) = returns (changed w pid (with_authority a)) 0
authorises w pid (Err e) = fails w e

-- the process waits in the call
abbrev pub waiting_in : Waiting → Body → Body
waiting_in what body = record body { waiting = what }

-- the call waits: the process asks again later
abbrev pub waits : World → ℕ → Waiting → Performed
waits w pid what = record { outcome = Waits; world = changed w pid (waiting_in what) }
