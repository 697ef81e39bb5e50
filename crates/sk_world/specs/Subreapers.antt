-- Who the children of a process go to when it ends: wait(2) "Notes", prctl(2) PR_SET_CHILD_SUBREAPER.
use Rattle.std.specs.Prelude.{ℕ, zero, suc, ◌==◌, Bool, false, not, ◌&&◌, if◌then◌else◌, List, [], ◌∷◌, find, Option}
use Rattle.std.specs.Option.{is_some, option_map_or, unwrap_or}
use Rattle.sk_world.specs.declared.process.TheConstants.{INIT, PROCESSES}
use Rattle.sk_world.specs.declared.process.Proc.{Proc}
use Rattle.sk_world.specs.World.{World, at, parent_of}

-- a process is there, and a subreaper
abbrev pub is_subreaper : Option Proc → Bool
is_subreaper o = option_map_or (λ p. p.body.subreaper) o false

-- a process, its parent, the parent of that, and so on up to process 1, so many at most
abbrev pub line_up : ℕ → World → ℕ → List ℕ
line_up zero w pid = []
line_up (suc more) w pid = if is_some (at w pid) then pid ∷ line_up more w (parent_of (at w pid)) else []

-- the ancestors of a process, the nearest first
unfoldable pub ancestors : World → ℕ → List ℕ
ancestors w pid = line_up PROCESSES w (parent_of (at w pid))

-- a process can take the children of the one that is dying: it is a subreaper, and not that one itself
abbrev pub takes_children : World → ℕ → ℕ → Bool
takes_children w dying pid = is_subreaper (at w pid) && not (pid == dying)

-- who the children of a process go to: the nearest subreaper among its ancestors, and process 1 where none is one
unfoldable pub new_parent : World → ℕ → ℕ
new_parent w pid = unwrap_or (find (takes_children w pid) (ancestors w pid)) INIT
