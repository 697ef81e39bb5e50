use Rattle.std.proofs.Common.{◌∙◌, ap}
use Rattle.sk_table.proofs.Common.{World, is_used}
use Rattle.sk_table.proofs.Freeing.{used_rows}
use Rattle.sk_table.proofs.list_store.ListStoreProcStore.used.Goals as goal

pub returns : goal.returns
returns c = record {
  used = c.is_used.ensures ∙ used_rows c.args.number c.self.inside.rows.items c.self.invariant.distinct ∙ ap (λ (w : World). is_used w c.args.number) c.self.view_is;
}
