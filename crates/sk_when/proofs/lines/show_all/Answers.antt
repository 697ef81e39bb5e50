use Rattle.std.proofs.Common.{◌≡◌, ◌≤◌, rules, subst, sym}
use Rattle.std.specs.List.{All}
use Rattle.sk_survey.specs.declared.rows.Row.{Row}
use Rattle.sk_conditions.specs.Steps.{GoOneWay}
use Rattle.sk_show.specs.Lines.{Shows}
use Rattle.sk_show.proofs.Holding.{still_hold, one_line_more, first_holds, rest_holds}
use Rattle.sk_when.specs.Verdicts.{ShowsEach}
use Rattle.sk_when.proofs.lines.show_all.Goals as goal

pub loop-row-preserved : goal.loop-row-preserved
loop-row-preserved c = record {
  rows = one_line_more _ _ c.in_ok-line.line c.in-Some.row _ _ _ c.in_ok-push.ensures.items c.in_ok-line.ensures.row c.in-Some.ensures.steps.0 c.loop-row.invariant.rows;
  shows = still_hold (λ line. Shows c.args.chain.now c.args.examples line.row line.shown.items) _ _ c.in_ok-line.line c.in_ok-push.ensures.items c.loop-row.invariant.shows c.in_ok-line.ensures.shows;
  each = λ follows unspent.
      still_hold (ShowsEach c.args.chain.now) _ _ c.in_ok-line.line c.in_ok-push.ensures.items (c.loop-row.invariant.each follows (c.line_of.ensures.spent unspent))
      (c.in_ok-line.ensures.each follows unspent);
  one_way = λ all.
      let so_far = c.loop-row.invariant.one_way all in
      let P : Row → Type 0 = λ row. All (GoOneWay row.first row.last) c.args.chain.now in (
        rest_holds P _ _ c.in-Some.row c.in-Some.ensures.steps.0 so_far.0,
        λ fresh. c.line_of.ensures.one_way (first_holds P _ _ c.in-Some.row c.in-Some.ensures.steps.0 so_far.0) (so_far.1 fresh),
      );
  rest = rest_holds (λ row. row.first ≤ row.last) _ _ c.in-Some.row c.in-Some.ensures.steps.0 c.loop-row.invariant.rest;
}

pub returns-in_err-line-clause-one_way : goal.returns-in_err-line-clause-one_way
returns-in_err-line-clause-one_way c = λ all fresh.
    let same : c.into_iter-row-iterator.result.rest.items ≡ c.args.rows.items = search (rules, c.into_iter-row-iterator.ensures.into_iter_gives) in
    let so_far = c.loop-row.invariant.one_way (subst (All (λ row. All (GoOneWay row.first row.last) c.args.chain.now)) (sym same) all) in
    c.line_of.ensures.one_way (first_holds (λ row. All (GoOneWay row.first row.last) c.args.chain.now) _ _ c.in-Some.row c.in-Some.ensures.steps.0 so_far.0) (so_far.1 fresh)

pub returns-in_err-push-clause-one_way : goal.returns-in_err-push-clause-one_way
returns-in_err-push-clause-one_way c = λ all fresh.
    let same : c.into_iter-row-iterator.result.rest.items ≡ c.args.rows.items = search (rules, c.into_iter-row-iterator.ensures.into_iter_gives) in
    let so_far = c.loop-row.invariant.one_way (subst (All (λ row. All (GoOneWay row.first row.last) c.args.chain.now)) (sym same) all) in
    c.line_of.ensures.one_way (first_holds (λ row. All (GoOneWay row.first row.last) c.args.chain.now) _ _ c.in-Some.row c.in-Some.ensures.steps.0 so_far.0) (so_far.1 fresh)

pub returns-clause-one_way : goal.returns-clause-one_way
returns-clause-one_way c = λ all fresh.
    let same : c.into_iter-row-iterator.result.rest.items ≡ c.args.rows.items = search (rules, c.into_iter-row-iterator.ensures.into_iter_gives) in
    (c.loop-row.invariant.one_way (subst (All (λ row. All (GoOneWay row.first row.last) c.args.chain.now)) (sym same) all)).1 fresh
