use Rattle.std.proofs.Common.{◌≡◌, ◌∙◌, ap, sym, subst, arith, length, vec_len}
use Rattle.sk_table.proofs.Common.{count, World, Distinct}
use Rattle.sk_table.proofs.Keeping.{world, with_row, count_rows}
use Rattle.sk_table.proofs.list_store.ListStoreProcStore.insert.Goals as goal

pub push_reserved-requires : goal.push_reserved-requires
push_reserved-requires c =
    let rows = c.self.inside.rows in
    let long : vec_len rows ≡ length rows.items = rows.ok.0 in
    let same : count c.args.self.now.procs ≡ length rows.items =
    ap (λ (w : World). count w.procs) (sym c.self.view_is) ∙ count_rows rows.items c.self.invariant.distinct in
    omega (arith, long, same, c.requires.room, c.self.invariant.room)

pub invariant_of-self : goal.invariant_of-self
invariant_of-self c = record {
  room = omega (arith, c.push_reserved.ensures.capacity, c.self.invariant.room);
  distinct =
      subst Distinct (sym c.push_reserved.ensures.items)
      (with_row _ _ _ c.args.pid c.args.proc c.self.view_is c.requires.free c.self.invariant.distinct).1;
  given = omega (arith, c.requires.pid);
}

pub returns : goal.returns
returns c = record {
  inserted =
      ap (λ rows. world rows c.args.pid) c.push_reserved.ensures.items
      ∙ (with_row _ _ _ c.args.pid c.args.proc c.self.view_is c.requires.free c.self.invariant.distinct).0;
}
