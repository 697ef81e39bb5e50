use Rattle.std.proofs.Common.{◌∙◌, ap, arith}
use Rattle.std.proofs.lemmas.Nat.{and_le_l}
use Rattle.sk_world.specs.Sets as set
use Rattle.sk_world.specs.SignalSet.{signals_of}
use Rattle.sk_world.proofs.SignalSets.{without_is}
use Rattle.sk_world.proofs.signal_set.SigSet.without.Goals as goal

pub invariant_of-result : goal.invariant_of-result
invariant_of-result c = omega (arith, c.difference.ensures tt, and_le_l)

pub returns : goal.returns
returns c =
    ap signals_of (c.difference.ensures tt)
    ∙ without_is c.self.inside.flags.0 c.args.signal c.flag.result.0 c.requires c.flag.ensures.bit
    ∙ ap (λ s. set.remove s c.args.signal) c.self.view_is
