use Rattle.std.proofs.Common.{subst}
use Rattle.sk_ask.specs.Steps.{MayBeSpent}
use Rattle.sk_ask.proofs.InPlace.{is_none, is_there}
use Rattle.sk_ask.proofs.smaller.in_place_of.Goals as goal

pub returns : goal.returns
returns g c =
    let may_spend = g.A.Analysis.may_spend c.args.analysis.now in
    let is_spent = c.one_filter.new.budgets.is_spent in
    let spent = subst (λ steps. MayBeSpent may_spend steps is_spent) c.of_rows-budgets.ensures.steps (c.one_filter.ensures.spent c.of_rows-budgets.ensures.fresh) in
    record {
      found = is_there c.args.chain.now c.one_filter.result c.one_filter.ensures.same c.one_filter.ensures.valid;
      none = is_none may_spend c.args.chain.now is_spent c.one_filter.result c.one_filter.ensures.fault spent (λ ways. c.one_filter.ensures.one_way ways c.of_rows-budgets.ensures.fresh);
    }
