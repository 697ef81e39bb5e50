-- The numbers that processes, groups and sessions have, and the next one that is free: fork(2),
-- credentials(7).
use Rattle.std.specs.Prelude.{ℕ, zero, suc, ◌+◌, ◌-◌, ◌<◌, ◌≤◌, ◌==◌, Bool, ◌||◌, nat_lt, IsTrue, IsFalse, if◌then◌else◌}
use Rattle.std.specs.List.{list_any}
use Rattle.sk_world.specs.declared.process.TheConstants.{LAST_PID}
use Rattle.sk_world.specs.declared.process.Proc.{Proc}
use Rattle.sk_world.specs.World.{World}

-- the number is the pid, the group or the session of this process
abbrev pub has_number : ℕ → ℕ × Proc → Bool
has_number n e = (e.0 == n) || (e.1.links.group == n) || (e.1.links.session == n)

-- the number is a pid, a group or a session of some process
abbrev pub is_used : World → ℕ → Bool
is_used w n = list_any (has_number n) w.procs.entries

-- the numbers from 2 to 32767 go round: after the last comes the first
abbrev pub next_number : ℕ → ℕ
next_number n = if nat_lt n LAST_PID then n + 1 else 2

-- how many numbers on from `last` a number comes, as they go round: the next one is 1 on
abbrev pub distance_from : ℕ → ℕ → ℕ
distance_from last n = if nat_lt last n then n - last else n + (LAST_PID - 1) - last

-- n is the next free number: nobody has it, and each number nearer on from the last one given is used
pub record IsNextFree (w : World) (n : ℕ) : Type 0 where
  pub number : (2 ≤ n) × (n ≤ LAST_PID)
  pub free : IsFalse (is_used w n)
  pub passed : (nearer : ℕ) → 2 ≤ nearer → nearer ≤ LAST_PID → distance_from w.last nearer < distance_from w.last n → IsTrue (is_used w nearer)

-- the first number that nobody has, from n on, where at most so many are asked
abbrev pub free_from : ℕ → World → ℕ → ℕ
free_from zero w n = n
free_from (suc more) w n = if is_used w n then free_from more w (next_number n) else n

-- the pid of the next child: the first number after the last pid given that nobody has, of all that there are
unfoldable pub fresh_of : World → ℕ
fresh_of w = free_from (LAST_PID - 1) w (next_number w.last)
