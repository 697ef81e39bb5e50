use Rattle.std.proofs.Common.{refl}
use Rattle.sk_table.proofs.Keeping.{placed, distinct_replaced, body_replaced, read, unread}
use Rattle.sk_table.proofs.list_store.ListStoreProcStore.body_mut.Goals as goal

pub invariant_of-self-lent : goal.invariant_of-self-lent
invariant_of-self-lent c w =
    let row = c.index_mut.result.now in
    let here = placed c.args.pid c.self.inside.rows.items _ _ row c.deref.ensures.value c.in-Some.ensures in
    record {
      room = c.self.invariant.room;
      distinct = distinct_replaced _ _ _ _ _ row c.self.view_is here c.index_mut.ensures.value _ c.self.invariant.distinct;
      given = c.self.invariant.given;
    }

pub returns : goal.returns
returns c =
    let row = c.index_mut.result.now in
    let here = placed c.args.pid c.self.inside.rows.items _ _ row c.deref.ensures.value c.in-Some.ensures in (
      (refl, (λ w. body_replaced _ _ _ _ _ row c.self.view_is here c.index_mut.ensures.value w), refl),
      record {
        writes_back = tt;
        there = (row.proc, read _ _ _ _ _ row c.self.view_is here c.index_mut.ensures.value, refl);
        absent = tt;
      },
    )

pub returns-in_default : goal.returns-in_default
returns-in_default c = (
  (refl, (λ w. tt), c.self.view_is),
  record {
    writes_back = tt;
    there = tt;
    absent = unread _ _ _ _ _ c.self.view_is c.deref.ensures.value c.in_default.ensures;
  },
)
