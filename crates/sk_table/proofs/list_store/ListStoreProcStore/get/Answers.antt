use Rattle.sk_table.proofs.Keeping.{placed, read, unread}
use Rattle.sk_table.proofs.list_store.ListStoreProcStore.get.Goals as goal

pub returns-clause-there : goal.returns-clause-there
returns-clause-there c =
    let row = c.index.result.now in
    let here = placed c.args.pid c.self.inside.rows.items _ _ row c.deref.ensures.value c.in-Some.ensures in
    read _ _ _ _ _ row c.self.view_is here c.index.ensures

pub returns-in_default-clause-absent : goal.returns-in_default-clause-absent
returns-in_default-clause-absent c = unread _ _ _ _ _ c.self.view_is c.deref.ensures.value c.in_default.ensures
