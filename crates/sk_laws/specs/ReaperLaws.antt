-- Laws on who the children of a process go to when it ends.
use Rattle.std.specs.Prelude.{ℕ, zero, suc, ◌≡◌, ◌≢◌, ◌<◌, ◌⊎◌, IsTrue, IsFalse}
use Rattle.sk_laws.specs.Common.{is_some, INIT, PROCESSES, World, at, is_alive, is_halted, parent_of, IsWorld, is_subreaper, takes_children, new_parent}

-- the ancestor of a process so many steps up: one step up is its parent
abbrev pub ancestor : ℕ → World → ℕ → ℕ
ancestor zero w pid = pid
ancestor (suc steps) w pid = ancestor steps w (parent_of (at w pid))

-- the new parent lives, and is another process
abbrev pub NewParentLives : Type 0
NewParentLives =
    (w : World) (pid : ℕ) → IsWorld w → IsFalse (is_halted w) → IsTrue (is_some (at w pid)) → pid ≢ INIT
    → IsTrue (is_alive (at w (new_parent w pid))) × (new_parent w pid ≢ pid)

-- where there is no subreaper it is process 1
abbrev pub WithoutSubreapers : Type 0
WithoutSubreapers = (w : World) (pid : ℕ) → ((q : ℕ) → IsFalse (is_subreaper (at w q))) → new_parent w pid ≡ INIT

-- a subreaper that is an ancestor is the new parent, if no nearer one is
abbrev pub NearestSubreaper : Type 0
NearestSubreaper =
    (w : World) (pid steps : ℕ) → IsWorld w → steps < PROCESSES → IsTrue (takes_children w pid (ancestor (suc steps) w pid))
    → ((nearer : ℕ) → nearer < steps → IsFalse (takes_children w pid (ancestor (suc nearer) w pid))) → new_parent w pid ≡ ancestor (suc steps) w pid

-- the new parent is process 1 or an ancestor
abbrev pub NewParentIsAncestor : Type 0
NewParentIsAncestor = (w : World) (pid : ℕ) → (new_parent w pid ≡ INIT) ⊎ ((steps : ℕ) × (steps < PROCESSES) × (new_parent w pid ≡ ancestor (suc steps) w pid))
