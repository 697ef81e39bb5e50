use Rattle.std.proofs.Common.{◌≡◌, ◌∙◌, ◌+◌, ap, sym, subst, refl, arith, None, Some}
use Rattle.sk_world.specs.Common.{get}
use Rattle.sk_table.proofs.Common.{count, store, World, at, stored, IsBeside, procs_of, Slotted, processes_from}
use Rattle.sk_table.proofs.Indexing.{count_entered}
use Rattle.sk_table.proofs.Slotting.{not_empty, processes_changed, live_changed, apart_changed, numbers_inserted, only_it}
use Rattle.sk_table.proofs.slot_store.SlotStore.put.Goals as goal

pub enter-requires-clause-free : goal.enter-requires-clause-free
enter-requires-clause-free c = (
  procs_of c.self.inside,
  c.self.invariant.beside,
  ap (λ (s : Slotted). at s.world c.args.pid) c.self.view_is ∙ c.requires.free,
  omega (arith, c.requires.room, ap (λ (s : Slotted). count s.world.procs) c.self.view_is),
)

pub invariant_of-self : goal.invariant_of-self
invariant_of-self c =
    let old = c.self.inside in
    let is = c.self.invariant in
    let pid = c.args.pid in
    let i = c.insert_reserved-slot.result in
    let slots = c.insert_reserved-slot.new.self in
    let entered = c.insert_reserved-slot.ensures in
    let table = c.give_slot.new.table.items in
    let free : get (procs_of old) pid ≡ None = ap (λ (s : Slotted). at s.world pid) c.self.view_is ∙ c.requires.free in
    let there = c.give_slot.ensures.slots in
    let others = not_empty old.slots old.table.items pid i is.live entered.was_vacant in
    let changed : processes_from slots 0 table ≡ store (procs_of old) pid (Some c.args.proc) =
    processes_changed old.slots slots old.table.items table pid i (Some i) (Some c.args.proc) entered.updates there others entered.updates.changed in
    record {
      wide = omega (arith, is.wide, c.give_slot.ensures.room);
      narrow = c.give_slot.ensures.narrow;
      capacity = omega (arith, is.capacity, entered.capacity);
      len = entered.len ∙ ap (λ n. n + 1) is.len ∙ sym (count_entered (procs_of old) pid c.args.proc free) ∙ ap count (sym changed);
      few = omega (arith, c.requires.room, ap (λ (s : Slotted). count s.world.procs) c.self.view_is, ap count changed, count_entered (procs_of old) pid c.args.proc free);
      live = live_changed old.slots slots old.table.items table pid i (Some i) (Some c.args.proc) entered.updates there others entered.updates.changed is.live refl;
      apart = apart_changed old.slots slots old.table.items table pid i (Some i) (Some c.args.proc) entered.updates there others entered.updates.changed is.apart (only_it i);
      numbers = numbers_inserted old.slots slots old.table.items table pid i (Some i) (Some c.args.proc) entered.updates there others entered.updates.changed old.present _ is.numbers
          c.insert.ensures refl;
      beside = subst (λ m. IsBeside m c.enter.new.self.children c.enter.new.self.members c.enter.new.self.uses) (sym changed)
          (c.enter.ensures (procs_of old) c.args.proc refl free is.beside);
      given = is.given;
    }

pub returns : goal.returns
returns c =
    let old = c.self.inside in
    let is = c.self.invariant in
    let pid = c.args.pid in
    let i = c.insert_reserved-slot.result in
    let slots = c.insert_reserved-slot.new.self in
    let entered = c.insert_reserved-slot.ensures in
    let table = c.give_slot.new.table.items in
    let there = c.give_slot.ensures.slots in
    let others = not_empty old.slots old.table.items pid i is.live entered.was_vacant in
    let changed : processes_from slots 0 table ≡ store (procs_of old) pid (Some c.args.proc) =
    processes_changed old.slots slots old.table.items table pid i (Some i) (Some c.args.proc) entered.updates there others entered.updates.changed in
    ap (λ m. let w : World = record { procs = m; last = old.last } in w) changed ∙ ap (λ (s : Slotted). stored s.world pid (Some c.args.proc)) c.self.view_is
