use Rattle.std.proofs.Common.{◌≡◌, ◌∙◌, ap, sym, subst, refl, Some, arith}
use Rattle.sk_table.proofs.Common.{count, IsBeside, Slotted, slot, procs_of}
use Rattle.sk_table.proofs.Indexing.{count_kept, beside_kept}
use Rattle.sk_table.proofs.Writing.{entry_is, absent, here, found, written, live_written, len_written, body_written}
use Rattle.sk_table.proofs.slot_store.SlotStoreProcStore.body_mut.Goals as goal

pub returns-in_default : goal.returns-in_default
returns-in_default c = (
  (refl, (λ w. tt), ap (λ (s : Slotted). s.world) c.self.view_is),
  record {
    writes_back = tt;
    there = tt;
    absent = absent c.self.inside.slots c.self.inside.table.items _ _ c.args.pid (ap (λ (s : Slotted). s.world) c.self.view_is)
        (entry_is _ _ _ _ c.in_default.ensures c.deref.ensures.value);
  },
)

pub invariant_of-self-lent : goal.invariant_of-self-lent
invariant_of-self-lent c w =
    let old = c.self.inside in
    let is = c.self.invariant in
    let pid = c.args.pid in
    let p = c.index_mut.result.now in
    let its : slot old.table.items pid ≡ Some c.in-Some.slot = entry_is _ _ _ _ c.in-Some.ensures c.deref.ensures.value in
    let has = c.index_mut.ensures.value in
    let there = here old.slots old.table.items old.last _ pid refl c.in-Some.slot p its has in
    let changed = written old.slots old.table.items old.last _ pid refl c.in-Some.slot p its has is.apart (record p { body = w }) in
    let same = ap count changed ∙ count_kept (procs_of old) pid p (record p { body = w }) there in
    record {
      wide = is.wide;
      narrow = is.narrow;
      capacity = is.capacity;
      len = len_written old.slots c.in-Some.slot p (record p { body = w }) has ∙ is.len ∙ sym same;
      few = omega (arith, same, is.few);
      live = live_written old.slots old.table.items old.last _ pid refl c.in-Some.slot p its has is.apart (record p { body = w }) is.live;
      apart = is.apart;
      numbers = is.numbers;
      beside = subst (λ m. IsBeside m old.index.children old.index.members old.index.uses) (sym changed)
          (beside_kept (procs_of old) _ _ _ pid p (record p { body = w }) is.beside there refl);
      given = is.given;
    }

pub returns : goal.returns
returns c =
    let old = c.self.inside in
    let view = ap (λ (s : Slotted). s.world) c.self.view_is in
    let p = c.index_mut.result.now in
    let its : slot old.table.items c.args.pid ≡ Some c.in-Some.slot = entry_is _ _ _ _ c.in-Some.ensures c.deref.ensures.value in
    let has = c.index_mut.ensures.value in (
      (refl, (λ w. body_written old.slots old.table.items old.last _ c.args.pid view c.in-Some.slot p its has c.self.invariant.apart w), refl),
      record {
        writes_back = tt;
        there = (p, found old.slots old.table.items old.last _ c.args.pid view c.in-Some.slot p its has, refl);
        absent = tt;
      },
    )
