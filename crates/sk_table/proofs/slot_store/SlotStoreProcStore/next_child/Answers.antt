use Rattle.std.proofs.Common.{◌∙◌, ap, sym}
use Rattle.sk_table.proofs.Common.{at, is_child_of, Slotted, has_pair}
use Rattle.sk_table.proofs.Freely.{next_is}
use Rattle.sk_table.proofs.slot_store.SlotStoreProcStore.next_child.Goals as goal

pub returns : goal.returns
returns c = record {
  next = next_is (has_pair c.self.inside.index.children c.args.parent) _ c.args.after c.next.result
      (λ q _. ap (λ (s : Slotted). is_child_of c.args.parent (at s.world q)) (sym c.self.view_is) ∙ sym (c.self.invariant.beside.by_parent.pairs c.args.parent q))
      c.next.ensures.next;
}
