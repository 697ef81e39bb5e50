use Rattle.std.proofs.Common.{refl}
use Rattle.sk_table.proofs.Common.{is_member_of, MemberOf}
use Rattle.sk_table.proofs.Seeking.{next_of_rows}
use Rattle.sk_table.proofs.list_store.ListStoreProcStore.next_member.Goals as goal

pub returns : goal.returns
returns c = record {
  next = next_of_rows (is_member_of c.args.group) (MemberOf c.args.group) c.self.inside.rows.items _ _ _ _ _ (λ o. refl) c.deref.ensures.value c.self.view_is c.least_after.ensures;
}
