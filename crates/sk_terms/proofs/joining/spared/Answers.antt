use Rattle.std.proofs.Common.{sym, ◌∙◌}
use Rattle.sk_terms.proofs.Together.{told_by_others}
use Rattle.sk_terms.proofs.joining.spared.Goals as goal

pub returns : goal.returns
returns c = record {
  both = λ call.
      told_by_others c.args.one c.args.other call c.requires.register c.requires.other c.requires.bits (sym c.takes.ensures.takes ∙ c.if-takes.false);
}
