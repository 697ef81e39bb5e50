-- Which processes can cease to tie their groups where a process ends. Only code and proofs look at this.
use Rattle.std.specs.Prelude.{◌≡◌, ℕ, ◌==◌, Bool, false, ◌||◌}
use Rattle.sk_world.specs.World.{World, at, is_halted, is_child_of}
use Rattle.sk_machine.specs.Orphans.{is_tie}

-- the process that ends, and its children; where the system has halted, when a parent may be a zombie, any
abbrev pub is_engaged : World → ℕ → ℕ → Bool
is_engaged w pid q = is_halted w || ((q == pid) || is_child_of pid (at w q))

-- the process ties no group to its session
abbrev pub TiesNone : World → ℕ → Type 0
TiesNone w q = (group : ℕ) → is_tie w group q ≡ false
