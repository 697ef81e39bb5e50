use Rattle.std.proofs.Common.{◌∙◌, ap, is_some, sym}
use Rattle.sk_asm.proofs.Marks.{marked-again, marked-new}
use Rattle.sk_asm.proofs.found.mark.Goals as goal

pub returns-then-is_some : goal.returns-then-is_some
returns-then-is_some c = record {
  exact = marked-again _ _ c.args.name _ (ap is_some (sym c.in_ok-given.ensures.old) ∙ sym c.is_some.ensures ∙ c.if-is_some.true);
}

pub returns : goal.returns
returns c = record {
  exact = marked-new c.args.n c.args.at c.args.name c.args.labels.now.entries _ (ap is_some (sym c.in_ok-given.ensures.old) ∙ sym c.is_some.ensures ∙ c.if-is_some.false) c.in_ok-given.ensures.entries;
}
