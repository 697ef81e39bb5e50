use Rattle.std.proofs.Common.{◌≡◌, ◌∙◌, ap, sym, length, vec_len}
use Rattle.sk_table.proofs.Common.{count, World}
use Rattle.sk_table.proofs.Keeping.{count_rows}
use Rattle.sk_table.proofs.list_store.ListStoreProcStore.count.Goals as goal

pub returns : goal.returns
returns c =
    let rows = c.self.inside.rows in
    let long : vec_len rows ≡ length rows.items = rows.ok.0 in record {
      count =
          c.len.ensures ∙ long
          ∙ sym (count_rows rows.items c.self.invariant.distinct)
          ∙ ap (λ (w : World). count w.procs) c.self.view_is;
    }
