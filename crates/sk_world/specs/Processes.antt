-- The processes of the world: a finite map from a pid to its process, credentials(7). The map is the
-- list of its entries in the rising order of the pids, so that the checker can compute with it.
use Rattle.std.specs.Prelude.{ℕ, ◌==◌, not, T, List, [], ◌∷◌, map, length, Option, None, Some}
use Rattle.std.specs.Ordering.{nat_cmp}
use Rattle.std.specs.Cmp.{nat_cmp_total}
use Rattle.std.specs.FinMap.Entries.{find, put, where_key, is_sorted, is_sorted-put, is_sorted-where_key}
use Rattle.sk_world.specs.declared.process.Proc.{Proc}

-- the entries, each of a greater pid than the one before
pub record Processes : Type 0 where
  pub entries : List (ℕ × Proc)
  pub rising : T (is_sorted nat_cmp entries)

-- no process
abbrev pub none : Processes
none = record { entries = []; rising = tt }

-- the process of a pid, if there is one
abbrev pub get : Processes → ℕ → Option Proc
get procs pid = find nat_cmp pid procs.entries

-- the pids, in rising order
abbrev pub pids : Processes → List ℕ
pids procs = map (λ e. e.0) procs.entries

-- how many processes there are
abbrev pub count : Processes → ℕ
count procs = length procs.entries

-- the pid leads to this process, or to none; every other pid leads to what it led to
abbrev pub store : Processes → ℕ → Option Proc → Processes
store procs pid None = record {
  entries = where_key nat_cmp (λ k. not (k == pid)) procs.entries;
  rising = is_sorted-where_key nat_cmp (λ k. not (k == pid)) procs.entries procs.rising;
}
store procs pid (Some p) = record {
  entries = put nat_cmp pid p procs.entries;
  rising = is_sorted-put nat_cmp nat_cmp_total pid p procs.entries procs.rising;
}

-- every process changed: the one of each pid becomes what f says, or goes where f says none
abbrev pub each_of : (ℕ → Proc → Option Proc) → List (ℕ × Proc) → Processes
each_of f [] = none
each_of f (e ∷ es) = store (each_of f es) e.0 (f e.0 e.1)

-- the change of every process of a map
abbrev pub each : (ℕ → Proc → Option Proc) → Processes → Processes
each f procs = each_of f procs.entries
