-- What a set of candidates owes to the processes. Only code and proofs look at this.
use Rattle.std.specs.Prelude.{◌≡◌, ◌≢◌, ℕ, ◌<◌, ◌≤◌, Bool, false, IsTrue, IsFalse, List, Option, None, Some}
use Rattle.sk_laws.specs.Common.{is_some, World, at}
use Rattle.sk_world.specs.NumberSets.{contains}
use Rattle.sk_world.specs.declared.process.TheConstants.{LAST_PID}
use Rattle.sk_kernel.specs.views.Blocked.{has_change_for, IsBlocked}

-- who is not noted is blocked
abbrev pub AllBlocked : World → List ℕ → Type 0
AllBlocked w noted = (pid : ℕ) → pid ≤ LAST_PID → IsFalse (contains noted pid) → IsBlocked w pid

-- so is everyone for whom this process has no status change
abbrev pub OthersBlocked : World → List ℕ → ℕ → Type 0
OthersBlocked w noted touched = (pid : ℕ) → pid ≤ LAST_PID → IsFalse (contains noted pid) → IsFalse (has_change_for pid (at w touched)) → IsBlocked w pid

-- who is noted is there, but for this process; of 0, which is nobody's pid, nothing is said
abbrev pub OthersAreThere : World → List ℕ → ℕ → Type 0
OthersAreThere w noted touched = (pid : ℕ) → 0 < pid → pid ≤ LAST_PID → pid ≢ touched → IsTrue (contains noted pid) → IsTrue (is_some (at w pid))

-- everyone is blocked who is not noted, and for whom the process that was touched last has no status change; nobody is noted
-- who is not there, but for that process
pub record IsNoted (w : World) (noted : List ℕ) (touched : ℕ) : Type 0 where
  pub nobody : at w 0 ≡ None
  pub others : OthersBlocked w noted touched
  pub there : OthersAreThere w noted touched

-- a process was noted, and no other
pub record Notes (pid : ℕ) (before now : List ℕ) : Type 0 where
  pub own : pid ≤ LAST_PID → IsTrue (contains now pid)
  pub others : (n : ℕ) → n ≢ pid → contains now n ≡ contains before n

-- the note of a process was taken off, and no other
pub record Forgets (pid : ℕ) (before now : List ℕ) : Type 0 where
  pub own : pid ≤ LAST_PID → IsFalse (contains now pid)
  pub others : (n : ℕ) → n ≢ pid → contains now n ≡ contains before n

-- a process that is not blocked was noted, and the note of one that is not there was taken off
pub record LooksAt (w : World) (pid : ℕ) (before now : List ℕ) : Type 0 where
  pub blocked : pid ≤ LAST_PID → IsFalse (contains now pid) → IsBlocked w pid
  pub there : pid ≤ LAST_PID → IsTrue (contains now pid) → IsTrue (is_some (at w pid))
  pub others : (n : ℕ) → n ≢ pid → contains now n ≡ contains before n

-- no number passes the test but these, and the waiter
abbrev pub NoOtherPasses : (ℕ → Bool) → List ℕ → Option ℕ → Type 0
NoOtherPasses test noted waiter = (n : ℕ) → IsFalse (contains noted n) → waiter ≢ Some n → test n ≡ false

-- no number that passes the test is passed over on the way to the next one, or where there is none
abbrev pub PassesOver : (ℕ → Bool) → ℕ → Option ℕ → Type 0
PassesOver test after None = (n : ℕ) → after < n → test n ≡ false
PassesOver test after (Some next) = (after < next) × ((n : ℕ) → after < n → n < next → test n ≡ false)
