use Rattle.std.proofs.Common.{ap, sym, subst, ◌∙◌, arith, is_some}
use Rattle.sk_table.proofs.Common.{Distinct}
use Rattle.sk_table.proofs.Keeping.{world, placed, without_row, read, unread, nothing_stored}
use Rattle.sk_table.proofs.list_store.ListStoreProcStore.remove.Goals as goal

pub invariant_of-self : goal.invariant_of-self
invariant_of-self c =
    let row = c.remove-removed.result in
    let here = placed c.args.pid c.self.inside.rows.items _ _ row c.deref.ensures.value c.in-Some.ensures in
    let gone = without_row _ _ _ _ _ c.self.view_is here c.self.invariant.distinct in
    record {
      room = omega (arith, c.remove-removed.ensures.capacity, c.self.invariant.room);
      distinct = subst Distinct (sym c.remove-removed.ensures.items) gone.1;
      given = c.self.invariant.given;
    }

pub returns-clause-found : goal.returns-clause-found
returns-clause-found c =
    let row = c.remove-removed.result in
    let here = placed c.args.pid c.self.inside.rows.items _ _ row c.deref.ensures.value c.in-Some.ensures in
    sym (ap is_some (read _ _ _ _ _ row c.self.view_is here c.remove-removed.ensures.value))

pub returns-clause-rest : goal.returns-clause-rest
returns-clause-rest c =
    let row = c.remove-removed.result in
    let here = placed c.args.pid c.self.inside.rows.items _ _ row c.deref.ensures.value c.in-Some.ensures in
    ap (λ rows. world rows c.self.inside.last) c.remove-removed.ensures.items
    ∙ (without_row _ _ _ _ _ c.self.view_is here c.self.invariant.distinct).0

pub returns-in_default-clause-found : goal.returns-in_default-clause-found
returns-in_default-clause-found c = sym (ap is_some (unread _ _ _ _ _ c.self.view_is c.deref.ensures.value c.in_default.ensures))

pub returns-in_default-clause-rest : goal.returns-in_default-clause-rest
returns-in_default-clause-rest c = sym (nothing_stored _ _ _ _ _ c.self.view_is c.deref.ensures.value c.in_default.ensures)
