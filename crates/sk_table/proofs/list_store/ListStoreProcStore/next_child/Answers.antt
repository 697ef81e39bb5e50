use Rattle.std.proofs.Common.{refl}
use Rattle.sk_table.proofs.Common.{is_child_of, ChildOf}
use Rattle.sk_table.proofs.Seeking.{next_of_rows}
use Rattle.sk_table.proofs.list_store.ListStoreProcStore.next_child.Goals as goal

pub returns : goal.returns
returns c = record {
  next = next_of_rows (is_child_of c.args.parent) (ChildOf c.args.parent) c.self.inside.rows.items _ _ _ _ _ (λ o. refl) c.deref.ensures.value c.self.view_is c.least_after.ensures;
}
