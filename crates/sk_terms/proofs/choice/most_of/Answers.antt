use Rattle.std.proofs.Common.{inl, inr, sym, subst}
use Rattle.std.specs.List.{All}
use Rattle.std.proofs.lemmas.List.Elements.{All-head, All-tail}
use Rattle.sk_terms.specs.declared.choice.Weight.{Weight}
use Rattle.sk_terms.specs.Lines.{IsValueOf}
use Rattle.sk_terms.proofs.choice.most_of.Goals as goal

pub loop-weight-init : goal.loop-weight-init
loop-weight-init c = λ lines all.
    All-head (λ (weight : Weight). IsValueOf lines weight.value) c.in-Some.first.now c.in-Some.others.now
    (subst (All (λ (weight : Weight). IsValueOf lines weight.value)) c.in-Some.ensures.cases.0 all)

pub loop-weight-preserved : goal.loop-weight-preserved
loop-weight-preserved c = λ lines all.
    let others =
    All-tail (λ (weight : Weight). IsValueOf lines weight.value) c.in-Some.first.now c.in-Some.others.now
    (subst (All (λ (weight : Weight). IsValueOf lines weight.value)) c.in-Some.ensures.cases.0 all) in
    elim c.heavier-most.ensures.one [
      | inl same ↦ subst (λ (weight : Weight). IsValueOf lines weight.value) (sym same) (c.loop-weight.invariant lines all)
      | inr same ↦ subst (λ (weight : Weight). IsValueOf lines weight.value) (sym same) (others c.loop-weight.weight-index _ c.loop-weight-test.true)
    ]
