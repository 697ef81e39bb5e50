use Rattle.std.proofs.Common.{◌∙◌, ap, sym}
use Rattle.sk_world.specs.Common.{signals_of, number_of, number_of-signals_of}
use Rattle.sk_world.proofs.signal_set.SigSet.bits.Goals as goal

pub returns-clause-value : goal.returns-clause-value
returns-clause-value c =
    c.bits.ensures tt
    ∙ sym (number_of-signals_of c.self.inside.flags.0 c.self.invariant)
    ∙ ap number_of c.self.view_is

pub returns-clause-back : goal.returns-clause-back
returns-clause-back c = ap signals_of (c.bits.ensures tt) ∙ c.self.view_is
