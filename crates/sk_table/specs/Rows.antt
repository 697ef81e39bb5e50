-- What a list of rows, each a pid and its process, says of the world.
use Rattle.std.specs.Prelude.{ℕ, ◌==◌, ◌≡◌, Bool, true, false, if◌then◌else◌, List, [], ◌∷◌, Option, None, Some}
use Rattle.sk_world.specs.Common.{option_map_or, Processes, none, store, has_number}
use Rattle.sk_world.specs.declared.process.Proc.{Proc}
use Rattle.sk_table.specs.declared.scan.Row.{Row}
use Rattle.sk_table.specs.declared.scan.Sought.{Sought}
use Rattle.sk_table.specs.declared.scan.Sought.TheVariants.{ChildOf, MemberOf, Anyone}

-- the processes of the rows
abbrev pub processes_of : List Row → Processes
processes_of [] = none
processes_of (row ∷ rows) = store (processes_of rows) row.pid (Some row.proc)

-- the process of the first row with this pid
abbrev pub proc_of : ℕ → List Row → Option Proc
proc_of pid [] = None
proc_of pid (row ∷ rows) = if pid == row.pid then Some row.proc else proc_of pid rows

-- no two rows have the same pid
abbrev pub Distinct : List Row → Type 0
Distinct [] = Unit {0}
Distinct (row ∷ rows) = (proc_of row.pid rows ≡ None) × Distinct rows

-- the number is the pid, the group or the session of the row's process
abbrev pub row_has_number : ℕ → Row → Bool
row_has_number n row = has_number n (row.pid, row.proc)

-- the process is one of those that are sought
abbrev pub is_sought : Sought → Proc → Bool
is_sought (ChildOf parent) p = p.links.parent == parent
is_sought (MemberOf group) p = p.links.group == group
is_sought Anyone p = true

-- the process of this pid is there, and one of those that are sought
abbrev pub is_sought_pid : Sought → List Row → ℕ → Bool
is_sought_pid sought rows pid = option_map_or (is_sought sought) (proc_of pid rows) false
