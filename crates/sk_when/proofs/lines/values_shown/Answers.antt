use Rattle.std.proofs.Common.{Result, Ok, Err, IfOk, sym, subst, arith, ◌∙◌}
use Rattle.std.specs.List.{All}
use Rattle.sk_conditions.proofs.Spending.{not_spent, spares}
use Rattle.sk_when.specs.Verdicts.{HaveEachVerdict, IsShownOnceMet}
use Rattle.sk_when.proofs.lines.values_shown.Goals as goal

inside : {T E A B : Type 0} (r : Result T E) (Q : T → Type 0) → (A → B → IfOk r Q) → IfOk r (λ it. A → B → Q it)
inside (Ok it) Q h = h
inside (Err why) Q h = tt

pub returns-clause-each : goal.returns-clause-each
returns-clause-each c = inside c.found_among.result (λ shown. All (IsShownOnceMet c.args.chain.now c.args.row.now) shown.items) (λ follows unspent.
    let left = not_spent _ _ _ c.put_back.ensures.spent unspent in
    c.found_among.ensures.each (subst (HaveEachVerdict c.args.chain.now c.args.row.now.first c.args.row.now.last) (sym c.deref.ensures.value) (c.in_ok-calls.ensures.each follows left.1)))

pub returns-clause-one_way : goal.returns-clause-one_way
returns-clause-one_way c = λ all fresh.
    let given = c.row-left.ensures.row in
    let taken = c.in_ok-calls.ensures.one_way all in
    spares _ _ _ _ _ _ _ given taken (omega arith) c.put_back.ensures.spent (c.row-left.ensures.spent ∙ fresh)
