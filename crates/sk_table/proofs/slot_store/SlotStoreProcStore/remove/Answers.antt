use Rattle.std.proofs.Common.{◌≡◌, ◌∙◌, ap, sym, subst, refl, arith, None, Some, length-set, set, is_some}
use Rattle.sk_world.specs.Common.{get}
use Rattle.sk_table.proofs.Common.{store, count, World, stored, IsBeside, Slotted, slot, processes_from, procs_of}
use Rattle.sk_table.proofs.Indexing.{count_left}
use Rattle.sk_table.proofs.Slotting.{slot_set, not_its, processes_changed, live_changed, apart_changed, numbers_removed, only_none}
use Rattle.sk_table.proofs.Writing.{entry_is, entry_within, absent, nothing_stored, here, found}
use Rattle.sk_table.proofs.slot_store.SlotStoreProcStore.remove.Goals as goal

pub returns-in_default-clause-found : goal.returns-in_default-clause-found
returns-in_default-clause-found c =
    sym (ap is_some (absent c.self.inside.slots c.self.inside.table.items _ _ c.args.pid (ap (λ (s : Slotted). s.world) c.self.view_is)
    (entry_is _ _ _ _ c.in_default.ensures c.deref.ensures.value)))

pub returns-in_default-clause-rest : goal.returns-in_default-clause-rest
returns-in_default-clause-rest c =
    sym (nothing_stored c.self.inside.slots c.self.inside.table.items _ _ c.args.pid (ap (λ (s : Slotted). s.world) c.self.view_is)
    (entry_is _ _ _ _ c.in_default.ensures c.deref.ensures.value))

pub leave-requires : goal.leave-requires
leave-requires c =
    let old = c.self.inside in
    let its = entry_is old.table.items _ c.args.pid _ c.in-Some.ensures c.deref.ensures.value in (
      procs_of old,
      c.index.result.now,
      c.self.invariant.beside,
      here old.slots old.table.items old.last _ c.args.pid refl c.in-Some.slot c.index.result.now its c.index.ensures,
      refl,
    )

pub invariant_of-self : goal.invariant_of-self
invariant_of-self c =
    let old = c.self.inside in
    let is = c.self.invariant in
    let pid = c.args.pid in
    let i = c.in-Some.slot in
    let p = c.index.result.now in
    let slots = c.remove-removed.new.self in
    let left = c.remove-removed.ensures in
    let table = set old.table.items pid None in
    let its : slot old.table.items pid ≡ Some i = entry_is old.table.items _ pid _ c.in-Some.ensures c.deref.ensures.value in
    let was : get (procs_of old) pid ≡ Some p = here old.slots old.table.items old.last _ pid refl i p its c.index.ensures in
    let there = slot_set old.table.items pid None (entry_within old.table.items pid i its) in
    let others = not_its old.slots old.table.items pid i is.apart its in
    let changed : processes_from slots 0 table ≡ store (procs_of old) pid None =
    processes_changed old.slots slots old.table.items table pid i None None left.updates there others refl in
    let fewer = count_left (procs_of old) pid p was in
    record {
      wide = is.wide;
      narrow = omega (arith, is.narrow, length-set old.table.items pid None);
      capacity = omega (arith, is.capacity, left.capacity);
      len = omega (arith, left.len, is.len, fewer, ap count changed);
      few = omega (arith, is.few, fewer, ap count changed);
      live = live_changed old.slots slots old.table.items table pid i None None left.updates there others refl is.live refl;
      apart = apart_changed old.slots slots old.table.items table pid i None None left.updates there others refl is.apart (only_none i);
      numbers = numbers_removed old.slots slots old.table.items table pid i None None left.updates there others refl old.present _ is.numbers
          c.remove.ensures refl;
      beside = subst (λ m. IsBeside m c.leave.new.self.children c.leave.new.self.members c.leave.new.self.uses) (sym changed)
          (c.leave.ensures (procs_of old) p refl was is.beside);
      given = is.given;
    }

pub returns-clause-found : goal.returns-clause-found
returns-clause-found c =
    let old = c.self.inside in
    let its = entry_is old.table.items _ c.args.pid _ c.in-Some.ensures c.deref.ensures.value in
    sym (ap is_some (found old.slots old.table.items old.last _ c.args.pid (ap (λ (s : Slotted). s.world) c.self.view_is) c.in-Some.slot c.index.result.now its c.index.ensures))

pub returns-clause-rest : goal.returns-clause-rest
returns-clause-rest c =
    let old = c.self.inside in
    let is = c.self.invariant in
    let pid = c.args.pid in
    let i = c.in-Some.slot in
    let its : slot old.table.items pid ≡ Some i = entry_is old.table.items _ pid _ c.in-Some.ensures c.deref.ensures.value in
    let there = slot_set old.table.items pid None (entry_within old.table.items pid i its) in
    let changed = processes_changed old.slots c.remove-removed.new.self old.table.items (set old.table.items pid None) pid i None None c.remove-removed.ensures.updates there
    (not_its old.slots old.table.items pid i is.apart its) refl in
    ap (λ m. let w : World = record { procs = m; last = old.last } in w) changed ∙ ap (λ (s : Slotted). stored s.world pid None) c.self.view_is
