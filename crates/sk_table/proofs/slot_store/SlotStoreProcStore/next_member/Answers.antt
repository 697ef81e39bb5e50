use Rattle.std.proofs.Common.{◌∙◌, ap, sym}
use Rattle.sk_table.proofs.Common.{at, is_member_of, Slotted, has_pair}
use Rattle.sk_table.proofs.Freely.{next_is}
use Rattle.sk_table.proofs.slot_store.SlotStoreProcStore.next_member.Goals as goal

pub returns : goal.returns
returns c = record {
  next = next_is (has_pair c.self.inside.index.members c.args.group) _ c.args.after c.next.result
      (λ q _. ap (λ (s : Slotted). is_member_of c.args.group (at s.world q)) (sym c.self.view_is) ∙ sym (c.self.invariant.beside.by_group.pairs c.args.group q))
      c.next.ensures.next;
}
