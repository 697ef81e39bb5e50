use Rattle.std.proofs.Common.{◌≡◌, ◌∙◌, ap, sym, subst, refl, arith, None, Some, is_some, option_map}
use Rattle.sk_table.proofs.Common.{store, count, stored, links_changed, store_twice, IsBeside, Slotted, slot, procs_of}
use Rattle.sk_table.proofs.Indexing.{count_left, count_kept, gone_here}
use Rattle.sk_table.proofs.Writing.{entry_is, absent, nothing_stored, here, found, written, live_written, len_written, links_written}
use Rattle.sk_table.proofs.slot_store.SlotStoreProcStore.relink.Goals as goal

pub returns-in_default-clause-found : goal.returns-in_default-clause-found
returns-in_default-clause-found c =
    sym (ap is_some (absent c.self.inside.slots c.self.inside.table.items _ _ c.args.pid (ap (λ (s : Slotted). s.world) c.self.view_is)
    (entry_is _ _ _ _ c.in_default.ensures c.deref.ensures.value)))

pub returns-in_default-clause-links : goal.returns-in_default-clause-links
returns-in_default-clause-links c =
    let view = ap (λ (s : Slotted). s.world) c.self.view_is in
    let its = entry_is c.self.inside.table.items _ c.args.pid _ c.in_default.ensures c.deref.ensures.value in
    sym (ap (λ o. stored c.args.self.now.world c.args.pid (option_map (links_changed (λ old. c.args.links)) o)) (absent c.self.inside.slots c.self.inside.table.items _ _ c.args.pid view its)
    ∙ nothing_stored c.self.inside.slots c.self.inside.table.items _ _ c.args.pid view its)

pub leave-requires : goal.leave-requires
leave-requires c =
    let old = c.self.inside in
    let its = entry_is old.table.items _ c.args.pid _ c.in-Some.ensures c.deref.ensures.value in (
      procs_of old,
      c.index.result.now,
      c.self.invariant.beside,
      here old.slots old.table.items old.last _ c.args.pid refl c.in-Some.slot c.index.result.now its c.index.ensures,
      refl,
    )

pub enter-requires-clause-free : goal.enter-requires-clause-free
enter-requires-clause-free c =
    let old = c.self.inside in
    let pid = c.args.pid in
    let p = c.index.result.now in
    let its = entry_is old.table.items _ pid _ c.in-Some.ensures c.deref.ensures.value in
    let was = here old.slots old.table.items old.last _ pid refl c.in-Some.slot p its c.index.ensures in (
      store (procs_of old) pid None,
      c.leave.ensures (procs_of old) p refl was c.self.invariant.beside,
      gone_here (procs_of old) pid,
      omega (arith, count_left (procs_of old) pid p was, c.self.invariant.few),
    )

pub invariant_of-self : goal.invariant_of-self
invariant_of-self c =
    let old = c.self.inside in
    let is = c.self.invariant in
    let pid = c.args.pid in
    let i = c.in-Some.slot in
    let p = c.index_mut.result.now in
    let p' = record p { links = c.args.links } in
    let its : slot old.table.items pid ≡ Some i = entry_is old.table.items _ pid _ c.in-Some.ensures c.deref.ensures.value in
    let was = here old.slots old.table.items old.last _ pid refl i c.index.result.now its c.index.ensures in
    let has = c.index_mut.ensures.value in
    let there = here old.slots old.table.items old.last _ pid refl i p its has in
    let changed = written old.slots old.table.items old.last _ pid refl i p its has is.apart p' in
    let same = ap count changed ∙ count_kept (procs_of old) pid p p' there in
    record {
      wide = is.wide;
      narrow = is.narrow;
      capacity = is.capacity;
      len = len_written old.slots i p p' has ∙ is.len ∙ sym same;
      few = omega (arith, same, is.few);
      live = live_written old.slots old.table.items old.last _ pid refl i p its has is.apart p' is.live;
      apart = is.apart;
      numbers = is.numbers;
      beside = subst (λ m. IsBeside m c.enter.new.self.children c.enter.new.self.members c.enter.new.self.uses)
          (store_twice (procs_of old) pid None (Some p') ∙ sym changed)
          (c.enter.ensures (store (procs_of old) pid None) p' refl (gone_here (procs_of old) pid)
          (c.leave.ensures (procs_of old) c.index.result.now refl was is.beside));
      given = is.given;
    }

pub returns-clause-found : goal.returns-clause-found
returns-clause-found c =
    let old = c.self.inside in
    let its = entry_is old.table.items _ c.args.pid _ c.in-Some.ensures c.deref.ensures.value in
    sym (ap is_some (found old.slots old.table.items old.last _ c.args.pid (ap (λ (s : Slotted). s.world) c.self.view_is) c.in-Some.slot c.index.result.now its c.index.ensures))

pub returns-clause-links : goal.returns-clause-links
returns-clause-links c =
    let old = c.self.inside in
    let its = entry_is old.table.items _ c.args.pid _ c.in-Some.ensures c.deref.ensures.value in
    links_written old.slots old.table.items old.last _ c.args.pid (ap (λ (s : Slotted). s.world) c.self.view_is) c.in-Some.slot c.index_mut.result.now its c.index_mut.ensures.value c.self.invariant.apart c.args.links
