use Rattle.std.proofs.Common.{◌∙◌, ap}
use Rattle.sk_table.proofs.Common.{is_used, Slotted, slotted_of}
use Rattle.sk_table.proofs.Freely.{used_is}
use Rattle.sk_table.proofs.slot_store.SlotStoreProcStore.used.Goals as goal

pub returns : goal.returns
returns c = record {
  used = c.has.ensures ∙ used_is (slotted_of c.self.inside).world _ c.self.invariant.beside.uses c.args.number
      ∙ ap (λ (s : Slotted). is_used s.world c.args.number) c.self.view_is;
}
