use Rattle.std.proofs.Common.{subst}
use Rattle.sk_ask.specs.Steps.{MayBeSpent}
use Rattle.sk_ask.proofs.lint.linted.Goals as goal

pub returns : goal.returns
returns g c =
    let spent = subst (λ steps. MayBeSpent (g.A.Analysis.may_spend c.args.analysis.now) steps c.lint.new.budgets.is_spent)
    c.of_rows-budgets.ensures.steps (c.lint.ensures.spent c.of_rows-budgets.ensures.fresh) in
    record { linted = (c.lint.new.budgets.is_spent, c.in_ok-it.ensures.linted, spent, (λ ways. c.lint.ensures.one_way ways c.of_rows-budgets.ensures.fresh)) }
