use Rattle.std.proofs.Common.{ap, sym, ◌∙◌, is_some, option_map}
use Rattle.sk_table.proofs.Common.{stored, links_changed}
use Rattle.sk_table.proofs.Keeping.{placed, distinct_replaced, links_replaced, read, unread, nothing_stored}
use Rattle.sk_table.proofs.list_store.ListStoreProcStore.relink.Goals as goal

pub invariant_of-self : goal.invariant_of-self
invariant_of-self c =
    let row = c.index_mut.result.now in
    let here = placed c.args.pid c.self.inside.rows.items _ _ row c.deref.ensures.value c.in-Some.ensures in
    record {
      room = c.self.invariant.room;
      distinct = distinct_replaced _ _ _ _ _ row c.self.view_is here c.index_mut.ensures.value _ c.self.invariant.distinct;
      given = c.self.invariant.given;
    }

pub returns-in-Some-clause-found : goal.returns-in-Some-clause-found
returns-in-Some-clause-found c =
    let row = c.index_mut.result.now in
    let here = placed c.args.pid c.self.inside.rows.items _ _ row c.deref.ensures.value c.in-Some.ensures in
    sym (ap is_some (read _ _ _ _ _ row c.self.view_is here c.index_mut.ensures.value))

pub returns-in-Some-clause-links : goal.returns-in-Some-clause-links
returns-in-Some-clause-links c =
    let row = c.index_mut.result.now in
    let here = placed c.args.pid c.self.inside.rows.items _ _ row c.deref.ensures.value c.in-Some.ensures in
    links_replaced _ _ _ _ _ row c.self.view_is here c.index_mut.ensures.value c.args.links

pub returns-in-None-clause-found : goal.returns-in-None-clause-found
returns-in-None-clause-found c = sym (ap is_some (unread _ _ _ _ _ c.self.view_is c.deref.ensures.value c.in-None.ensures))

pub returns-in-None-clause-links : goal.returns-in-None-clause-links
returns-in-None-clause-links c =
    sym
    (
    ap (λ o. stored c.args.self.now c.args.pid (option_map (links_changed (λ old. c.args.links)) o)) (unread _ _ _ _ _ c.self.view_is c.deref.ensures.value c.in-None.ensures)
    ∙ nothing_stored _ _ _ _ _ c.self.view_is c.deref.ensures.value c.in-None.ensures
    )
