-- The words and lemmas that these proofs cite, passed on from one place. Declares nothing.
pub use Rattle.sk_table.specs.Beside.{IsBeside, IsRow, uses_in}
unfoldable pub use Rattle.sk_table.specs.Free.{first_unused}
pub use Rattle.sk_table.specs.Rows.{Distinct, is_sought, is_sought_pid, proc_of, processes_of, row_has_number}
pub use Rattle.sk_table.specs.SlotView.{procs_of, slotted_of}
pub use Rattle.sk_table.specs.Slots.{Slotted, children_of, in_slot, members_of, slot}
unfoldable pub use Rattle.sk_table.specs.Slots.{processes_from}
pub use Rattle.sk_table.specs.declared.numbering.TheConstants.{NUMBERS}
pub use Rattle.sk_table.specs.declared.scan.Row.{Row}
pub use Rattle.sk_table.specs.declared.scan.Sought.TheVariants.{Anyone, ChildOf, MemberOf}
pub use Rattle.sk_world.proofs.Fresh.{fresh_absent, fresh_in_range, fresh_unused}
pub use Rattle.sk_world.proofs.Maps.{count_put, equal_numbers, get_store, same_map, same_number, store_twice}
pub use Rattle.sk_world.specs.Common.{IsLeastAbove, IsNext, Processes, World, at, below, below_all, body_changed, by_order, count, find, free_from, has_number, has_pair, inserted, is_child_of, is_member_of, is_rising, is_used, links_changed, list_any, next_number, none, option_map_or, pids, position_from, put, store, stored, with_body, with_links}
unfoldable pub use Rattle.sk_world.specs.Common.{contains, fresh_of}
pub use Rattle.sk_world.specs.declared.process.Body.{Body}
pub use Rattle.sk_world.specs.declared.process.Links.{Links}
pub use Rattle.sk_world.specs.declared.process.Proc.{Proc}
pub use Rattle.sk_world.specs.declared.process.TheConstants.{LAST_PID}
pub use Rattle.slab.specs.Slab.{Slab, Updates, get, slab_len, with_value}
pub use Rattle.std.proofs.lemmas.Bool.Decides.{nat_tests}
pub use Rattle.std.proofs.lemmas.Bool.{and_from, cases_eq, cases_lt, cases_order, eqb-false}
pub use Rattle.std.proofs.lemmas.List.{get_or_past, take_more}
pub use Rattle.std.proofs.lemmas.Option.{none-some, same_Some}
pub use Rattle.std.specs.declared.cmp.Ordering.TheVariants.{Equal, Greater, Less}
