use Rattle.std.proofs.Common.{◌∙◌, ap, sym, is_some}
use Rattle.sk_table.proofs.Common.{contains, at, Slotted}
use Rattle.sk_table.proofs.Freely.{next_is}
use Rattle.sk_table.proofs.Slotting.{read}
use Rattle.sk_table.proofs.slot_store.SlotStoreProcStore.next_pid.Goals as goal

pub returns : goal.returns
returns c =
    let old = c.self.inside in
    record {
      next = next_is (contains old.present) _ c.args.after c.next.result
          (λ q _. ap (λ (s : Slotted). is_some (at s.world q)) (sym c.self.view_is) ∙ ap is_some (read old.slots old.table.items q) ∙ c.self.invariant.live q ∙ sym (c.self.invariant.numbers q))
          c.next.ensures.next;
    }
