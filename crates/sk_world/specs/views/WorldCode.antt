-- How a world is stored.
use Rattle.std.specs.Prelude.{◌≡◌, ℕ, List, T, refl}
use Rattle.std.specs.Ordering.{nat_cmp}
use Rattle.std.specs.FinMap.Entries.{is_sorted}
use Rattle.std.specs.Coded.{Coded, code_by, coded×, coded_list, coded_ℕ}
use base.Stored.{coded_via}
use mathlib.Core.HLevel.{Σ_prop_path}
use lib.Dec.{T_prop}
use Rattle.sk_world.specs.contracts.process.Proc.{the_row}
use Rattle.sk_world.specs.declared.process.Proc.{Proc}
use Rattle.sk_world.specs.Processes.{Processes}
use Rattle.sk_world.specs.World.{World}

-- processes with the same entries are the same
pub same_processes : (m n : Processes) → m.entries ≡ n.entries → m ≡ n
same_processes m n e =
    let pairs : ◌≡◌ {A = (es : List (ℕ × Proc)) × T (is_sorted nat_cmp es)} (m.entries, m.rising) (n.entries, n.rising) = Σ_prop_path (λ es. T_prop _) e in
    λ i. record { entries = (pairs i).0; rising = (pairs i).1 }

-- processes are stored as their entries
abbrev pub processes_code : Coded Processes
processes_code = coded_via (coded_list (coded× coded_ℕ the_row.coded)) (λ m. m.entries) same_processes

-- a world is stored as the pair of its fields
abbrev pub world_code : Coded World
world_code = code_by (Processes × ℕ) (coded× processes_code coded_ℕ) (λ w. (w.procs, w.last)) (λ p. record { procs = p.0; last = p.1 }) (λ _. refl)
