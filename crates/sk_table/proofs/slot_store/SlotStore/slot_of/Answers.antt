use Rattle.std.proofs.Common.{◌∙◌, ap, sym, is_some}
use Rattle.sk_table.proofs.Common.{at, Slotted, slot}
use Rattle.sk_table.proofs.Slotting.{read}
use Rattle.sk_table.proofs.slot_store.SlotStore.slot_of.Goals as goal

pub returns-clause-there : goal.returns-clause-there
returns-clause-there c =
    let old = c.self.inside in
    let pid = c.args.pid in
    ap is_some (c.slot_in.ensures ∙ ap (λ t. slot t pid) c.deref.ensures.value) ∙ sym (c.self.invariant.live pid)
    ∙ ap is_some (sym (read old.slots old.table.items pid)) ∙ ap (λ (s : Slotted). is_some (at s.world pid)) c.self.view_is
