use Rattle.std.proofs.Common.{subst}
use Rattle.sk_ask.specs.Steps.{MayBeSpent}
use Rattle.sk_ask.proofs.calls.lines_of.Goals as goal

pub returns : goal.returns
returns g c = record {
  told = record {
    told = c.in_ok-lines.ensures.lines;
    is_spent = c.lines.new.budgets.is_spent;
    steps = subst (λ steps. MayBeSpent (g.A.Analysis.may_spend c.args.analysis.now) steps c.lines.new.budgets.is_spent) c.of_rows.ensures.steps (c.lines.ensures.spent c.of_rows.ensures.fresh);
    each = c.in_ok-lines.ensures.each;
    one_way = λ ways. c.lines.ensures.one_way ways c.of_rows.ensures.fresh;
  };
}
