-- What a store of slots says of the world, and what holds of its parts.
use Rattle.std.specs.Prelude.{◌≡◌, ℕ, ◌+◌, ◌<◌, ◌≤◌, Some, vec_len, vec_capacity}
use Rattle.sk_world.specs.Common.{is_some, contains, Processes, count}
use Rattle.slab.specs.Slab.{slab_len}
use Rattle.sk_world.specs.declared.process.TheConstants.{LAST_PID, PROCESSES}
use Rattle.sk_table.specs.Beside.{IsBeside}
use Rattle.sk_table.specs.Slots.{Slotted, slot, in_slot, processes_from}
use Rattle.sk_table.specs.declared.slot_store.SlotStore.TheInside.{Inside}

abbrev pub procs_of : Inside → Processes
procs_of store = processes_from store.slots 0 store.table.items

abbrev pub slotted_of : Inside → Slotted
slotted_of store = record { world = record { procs = procs_of store; last = store.last }; table = store.table.items }

-- each pid has a slot of its own with a process, the numbers there are those with a slot, and what stands
-- beside the slots agrees
pub record IsStore (store : Inside) : Type 0 where
  pub wide : LAST_PID < vec_capacity store.table
  pub narrow : vec_len store.table ≤ LAST_PID + 1
  pub capacity : PROCESSES ≤ store.slots.capacity
  pub len : slab_len store.slots ≡ count (procs_of store)
  pub few : count (procs_of store) ≤ PROCESSES
  pub live : (pid : ℕ) → is_some (in_slot store.slots (slot store.table.items pid)) ≡ is_some (slot store.table.items pid)
  pub apart : (p q i : ℕ) → slot store.table.items p ≡ Some i → slot store.table.items q ≡ Some i → p ≡ q
  pub numbers : (pid : ℕ) → contains store.present pid ≡ is_some (slot store.table.items pid)
  pub beside : IsBeside (procs_of store) store.index.children store.index.members store.index.uses
  pub given : 1 ≤ store.last
