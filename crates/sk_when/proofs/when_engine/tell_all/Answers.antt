use Rattle.std.proofs.Common.{◌≡◌, rules, subst, sym}
use Rattle.std.specs.List.{All}
use Rattle.sk_survey.specs.declared.rows.Row.{Row}
use Rattle.sk_conditions.specs.Steps.{GoOneWay}
use Rattle.sk_when.specs.Lines.{IsExact, IsMet, IsTold}
use Rattle.sk_when.specs.Telling.{IsSurveyed}
use Rattle.sk_show.proofs.Holding.{first_holds, rest_holds}
use Rattle.sk_when.proofs.Rows.{one_row_more, still_told}
use Rattle.sk_when.proofs.when_engine.tell_all.Goals as goal

pub loop-row-preserved : goal.loop-row-preserved
loop-row-preserved c = record {
  rows = one_row_more _ _ c.in_ok-conditional.conditional c.in-Some.row _ _ _ c.in_ok-push.ensures.items c.in_ok-conditional.ensures.row c.in-Some.ensures.steps.0 c.loop-row.invariant.rows;
  told = still_told (IsTold c.args.chain.now) _ _ c.in_ok-conditional.conditional c.in_ok-push.ensures.items c.loop-row.invariant.told c.in_ok-conditional.ensures.told;
  met = still_told (IsMet c.args.chain.now) _ _ c.in_ok-conditional.conditional c.in_ok-push.ensures.items c.loop-row.invariant.met c.in_ok-conditional.ensures.met;
  exact = λ follows unspent.
      still_told (IsExact c.args.chain.now) _ _ c.in_ok-conditional.conditional c.in_ok-push.ensures.items (c.loop-row.invariant.exact follows (c.conditions_of_row.ensures.spent unspent))
      (c.in_ok-conditional.ensures.exact follows unspent);
  one_way = λ all.
      let so_far = c.loop-row.invariant.one_way all in
      let P : Row → Type 0 = λ row. All (GoOneWay row.first row.last) c.args.chain.now in (
        rest_holds P _ _ c.in-Some.row c.in-Some.ensures.steps.0 so_far.0,
        λ fresh. c.conditions_of_row.ensures.one_way (first_holds P _ _ c.in-Some.row c.in-Some.ensures.steps.0 so_far.0) (so_far.1 fresh),
      );
  rest = rest_holds (IsSurveyed c.args.chain.now) _ _ c.in-Some.row c.in-Some.ensures.steps.0 c.loop-row.invariant.rest;
}

pub returns-in_err-conditional-clause-one_way : goal.returns-in_err-conditional-clause-one_way
returns-in_err-conditional-clause-one_way c = λ all fresh.
    let same : c.into_iter-row-iterator.result.rest.items ≡ c.args.rows.items = search (rules, c.into_iter-row-iterator.ensures.into_iter_gives) in
    let so_far = c.loop-row.invariant.one_way (subst (All (λ row. All (GoOneWay row.first row.last) c.args.chain.now)) (sym same) all) in
    c.conditions_of_row.ensures.one_way (first_holds (λ row. All (GoOneWay row.first row.last) c.args.chain.now) _ _ c.in-Some.row c.in-Some.ensures.steps.0 so_far.0) (so_far.1 fresh)

pub returns-in_err-push-clause-one_way : goal.returns-in_err-push-clause-one_way
returns-in_err-push-clause-one_way c = λ all fresh.
    let same : c.into_iter-row-iterator.result.rest.items ≡ c.args.rows.items = search (rules, c.into_iter-row-iterator.ensures.into_iter_gives) in
    let so_far = c.loop-row.invariant.one_way (subst (All (λ row. All (GoOneWay row.first row.last) c.args.chain.now)) (sym same) all) in
    c.conditions_of_row.ensures.one_way (first_holds (λ row. All (GoOneWay row.first row.last) c.args.chain.now) _ _ c.in-Some.row c.in-Some.ensures.steps.0 so_far.0) (so_far.1 fresh)

pub returns-clause-one_way : goal.returns-clause-one_way
returns-clause-one_way c = λ all fresh.
    let same : c.into_iter-row-iterator.result.rest.items ≡ c.args.rows.items = search (rules, c.into_iter-row-iterator.ensures.into_iter_gives) in
    (c.loop-row.invariant.one_way (subst (All (λ row. All (GoOneWay row.first row.last) c.args.chain.now)) (sym same) all)).1 fresh
