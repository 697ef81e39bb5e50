use Rattle.std.proofs.Common.{◌≡◌, ◌∙◌, ◌≤◌, IsFalse, None, ap, subst, sym}
use Rattle.sk_table.proofs.Common.{LAST_PID, World, at, is_used, fresh_unused, fresh_absent, fresh_in_range}
use Rattle.sk_table.proofs.Freeing.{used_rows}
use Rattle.sk_table.proofs.Freely.{fresh_is}
use Rattle.sk_table.proofs.list_store.ListStoreProcStore.fresh.Goals as goal

pub returns-clause-fresh : goal.returns-clause-fresh
returns-clause-fresh c =
    c.first_free.ensures
    ∙ fresh_is _ c.args.self.now _ (ap (λ (w : World). w.last) c.self.view_is)
    (λ n. used_rows n c.self.inside.rows.items c.self.invariant.distinct ∙ ap (λ (w : World). is_used w n) c.self.view_is)

pub returns-clause-free : goal.returns-clause-free
returns-clause-free c room =
    let world = c.args.self.now in
    let given = subst (λ (w : World). 1 ≤ w.last) c.self.view_is c.self.invariant.given in
    subst (λ n. IsFalse (is_used world n)) (sym (returns-clause-fresh c)) (fresh_unused world room given)

pub returns-clause-absent : goal.returns-clause-absent
returns-clause-absent c room =
    let world = c.args.self.now in
    let given = subst (λ (w : World). 1 ≤ w.last) c.self.view_is c.self.invariant.given in
    subst (λ n. at world n ≡ None) (sym (returns-clause-fresh c)) (fresh_absent world room given)

pub returns-clause-fits : goal.returns-clause-fits
returns-clause-fits c =
    let world = c.args.self.now in
    let given = subst (λ (w : World). 1 ≤ w.last) c.self.view_is c.self.invariant.given in
    subst (λ n. (2 ≤ n) × (n ≤ LAST_PID)) (sym (returns-clause-fresh c)) (fresh_in_range world given)
