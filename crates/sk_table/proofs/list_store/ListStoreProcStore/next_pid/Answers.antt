use Rattle.std.proofs.Common.{is_some}
use Rattle.sk_table.proofs.Common.{Anyone}
use Rattle.sk_table.proofs.Seeking.{anyone, next_of_rows}
use Rattle.sk_table.proofs.list_store.ListStoreProcStore.next_pid.Goals as goal

pub returns : goal.returns
returns c = record {
  next = next_of_rows is_some Anyone c.self.inside.rows.items _ _ _ _ _ anyone c.deref.ensures.value c.self.view_is c.least_after.ensures;
}
