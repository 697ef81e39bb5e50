-- What holds of every world that a kernel can come to.
use Rattle.std.specs.Prelude.{ℕ, ◌≢◌, ◌≤◌, ◌==◌, Bool, true, false, not, ◌&&◌, nat_le, IsTrue, IsFalse, Option}
use Rattle.std.specs.Option.{is_some, option_map_or}
use Rattle.sk_world.specs.declared.process.TheConstants.{INIT, LAST_PID, PROCESSES}
use Rattle.sk_world.specs.declared.process.Links.{Links}
use Rattle.sk_world.specs.declared.process.Proc.{Proc}
use Rattle.sk_world.specs.Processes.{count}
use Rattle.sk_world.specs.World.{World, at, has_stopped, is_alive, is_halted, parent_of}

-- process 1 has no parent, and is never stopped
abbrev pub is_init : Option Proc → Bool
is_init o = option_map_or (λ p. (p.links.parent == 0) && not (has_stopped p.body.life)) o false

-- the numbers of a process are at most 32767, the largest pid. 0 passes too: it stands for no process, as
-- the parent of process 1
abbrev pub is_within : Links → Bool
is_within links = nat_le links.parent LAST_PID && nat_le links.group LAST_PID && nat_le links.session LAST_PID

-- so are those of the process, if there is one
abbrev pub has_links_within : Option Proc → Bool
has_links_within o = option_map_or (λ p. is_within p.links) o true

-- the rules of the world. Process 1 is there, with at most 1023 others. Until the system halts the
-- parent of every other process is there and has not ended: wait(2), "Notes". It asks more than these rules of the
-- manual, since code and proofs rely on more: process 1 has no parent and is not stopped, and every number, the last
-- pid given too, is one that a pid can be
pub record IsWorld (w : World) : Type 0 where
  pub init : IsTrue (is_init (at w INIT))
  pub room : count w.procs ≤ PROCESSES
  pub pids : (pid : ℕ) → IsTrue (is_some (at w pid)) → (1 ≤ pid) × (pid ≤ LAST_PID)
  pub links : (pid : ℕ) → IsTrue (has_links_within (at w pid))
  pub last : (1 ≤ w.last) × (w.last ≤ LAST_PID)
  pub parents : IsFalse (is_halted w) → (pid : ℕ) → pid ≢ INIT → IsTrue (is_some (at w pid)) → IsTrue (is_alive (at w (parent_of (at w pid))))
