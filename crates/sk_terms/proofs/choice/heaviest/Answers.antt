use Rattle.std.proofs.Common.{◌<◌, List, length, arith, refl, sym, subst}
use Rattle.std.specs.List.{All}
use Rattle.sk_terms.specs.declared.choice.Weight.{Weight}
use Rattle.sk_terms.specs.Lines.{IsValueOf}
use Rattle.sk_terms.proofs.choice.heaviest.Goals as goal

pub loop-line-preserved : goal.loop-line-preserved
loop-line-preserved c = record {
  values = c.in_ok-add.ensures.values c.args.lines.now c.loop-line.invariant.values (c.loop-line.line-index, c.line-item.result, c.loop-line-test.true, sym c.line-item.is, refl);
  some = λ more. c.in_ok-add.ensures.some;
}

pub returns : goal.returns
returns c = record {
  found = λ some.
      c.most_of.ensures.found c.args.lines.now
      (subst (All (λ (weight : Weight). IsValueOf c.args.lines.now weight.value)) (sym c.deref.ensures.value) c.loop-line.invariant.values)
      (subst (λ (all : List Weight). 0 < length all) (sym c.deref.ensures.value)
      (c.loop-line.invariant.some (let end = c.loop-line-test.false in omega arith)));
}
