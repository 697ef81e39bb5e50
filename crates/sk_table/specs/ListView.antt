-- What a list store says of the world, and what holds of its rows.
use Rattle.std.specs.Prelude.{◌≤◌, vec_capacity}
use Rattle.sk_world.specs.Common.{World}
use Rattle.sk_world.specs.declared.process.TheConstants.{PROCESSES}
use Rattle.sk_table.specs.Rows.{processes_of, Distinct}
use Rattle.sk_table.specs.declared.list_store.ListStore.TheInside.{Inside}

abbrev pub world_of : Inside → World
world_of store = record { procs = processes_of store.rows.items; last = store.last }

-- there is room for as many processes as there can be, each has one row, and a pid was given
pub record IsStore (store : Inside) : Type 0 where
  pub room : PROCESSES ≤ vec_capacity store.rows
  pub distinct : Distinct store.rows.items
  pub given : 1 ≤ store.last
