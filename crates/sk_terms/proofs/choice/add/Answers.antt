use Rattle.std.proofs.Common.{◌<◌, List, length, sym, subst}
use Rattle.std.specs.List.{All}
use Rattle.std.proofs.lemmas.List.Elements.{All-get_or, All-push, All-set}
use Rattle.sk_terms.specs.declared.choice.Weight.{Weight}
use Rattle.sk_terms.specs.Lines.{IsValueOf}
use Rattle.sk_terms.proofs.choice.add.Goals as goal

pub returns-in_default-clause-values : goal.returns-in_default-clause-values
returns-in_default-clause-values c = λ lines all is.
    subst (All (λ (weight : Weight). IsValueOf lines weight.value)) (sym c.in_ok-push.ensures.items)
    (All-push (λ (weight : Weight). IsValueOf lines weight.value) c.args.weights.now.items (record { value = c.args.line.now.value; weight = c.weight_of-more.result }) all is)

pub returns-clause-values : goal.returns-clause-values
returns-clause-values c = λ lines all is.
    let seen = c.index-weight.result.now in
    let there = subst (λ (xs : List Weight). c.in-Some.at < length xs) c.deref.ensures.value c.in-Some.ensures.there in
    All-set (λ (weight : Weight). IsValueOf lines weight.value) c.args.weights.now.items c.in-Some.at (record { value = seen.value; weight = c.saturating_add.result })
    (subst (λ (weight : Weight). IsValueOf lines weight.value) (sym c.index-weight.ensures)
    (All-get_or (λ (weight : Weight). IsValueOf lines weight.value) c.args.weights.now.items c.in-Some.at seen there all)) all
