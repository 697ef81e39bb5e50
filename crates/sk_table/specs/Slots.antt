-- What a table of slots says of the world.
use Rattle.std.specs.Prelude.{ℕ, suc, List, [], ◌∷◌, map, filter, Option, None, Some, slice_index_or, refl}
use Rattle.sk_world.specs.Common.{Coded, code_by, coded×, coded_list, coded_option, coded_ℕ, Processes, none, store, pids, World, at, is_child_of, is_member_of, world_code}
use Rattle.slab.specs.Slab.{Slab, get as slot_get}
use Rattle.sk_world.specs.declared.process.Proc.{Proc}

-- a world, and the slot of each pid
pub record Slotted : Type 0 where
  pub world : World
  pub table : List (Option ℕ)

abbrev pub slotted_code : Coded Slotted
slotted_code = code_by (World × List (Option ℕ)) (coded× world_code (coded_list (coded_option coded_ℕ))) (λ s. (s.world, s.table)) (λ p. record { world = p.0; table = p.1 }) (λ _. refl)

-- the slot of a pid, if it has one
abbrev pub slot : List (Option ℕ) → ℕ → Option ℕ
slot table pid = slice_index_or table pid None

-- the process in a slot
abbrev pub in_slot : Slab Proc → Option ℕ → Option Proc
in_slot slots None = None
in_slot slots (Some i) = slot_get slots i

-- the processes in these slots, where the first is that of this pid
unfoldable pub processes_from : Slab Proc → ℕ → List (Option ℕ) → Processes
processes_from slots pid [] = none
processes_from slots pid (o ∷ os) = store (processes_from slots (suc pid) os) pid (in_slot slots o)

-- the children of a process in rising order, each beside its parent
abbrev pub children_of : World → ℕ → List (ℕ × ℕ)
children_of w parent = map (λ pid. (parent, pid)) (filter (λ pid. is_child_of parent (at w pid)) (pids w.procs))

-- the members of a process group in rising order, each beside the group
abbrev pub members_of : World → ℕ → List (ℕ × ℕ)
members_of w group = map (λ pid. (group, pid)) (filter (λ pid. is_member_of group (at w pid)) (pids w.procs))
