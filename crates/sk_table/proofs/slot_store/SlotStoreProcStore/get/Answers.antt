use Rattle.std.proofs.Common.{ap}
use Rattle.sk_table.proofs.Common.{Slotted}
use Rattle.sk_table.proofs.Writing.{entry_is, absent, found}
use Rattle.sk_table.proofs.slot_store.SlotStoreProcStore.get.Goals as goal

pub returns-in_default-clause-absent : goal.returns-in_default-clause-absent
returns-in_default-clause-absent c =
    absent c.self.inside.slots c.self.inside.table.items _ _ c.args.pid (ap (λ (s : Slotted). s.world) c.self.view_is)
    (entry_is _ _ _ _ c.in_default.ensures c.deref.ensures.value)

pub returns-clause-there : goal.returns-clause-there
returns-clause-there c =
    found c.self.inside.slots c.self.inside.table.items _ _ c.args.pid (ap (λ (s : Slotted). s.world) c.self.view_is) c.in-Some.slot _
    (entry_is _ _ _ _ c.in-Some.ensures c.deref.ensures.value) c.index.ensures
