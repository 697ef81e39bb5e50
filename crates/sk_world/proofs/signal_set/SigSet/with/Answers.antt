use Rattle.std.proofs.Common.{◌∙◌, ap, arith}
use Rattle.std.proofs.lemmas.Nat.{or_lt}
use Rattle.sk_world.specs.Sets as set
use Rattle.sk_world.specs.SignalSet.{signals_of}
use Rattle.sk_world.proofs.SignalSets.{with_is}
use Rattle.sk_world.proofs.signal_set.SigSet.with.Goals as goal

pub invariant_of-result : goal.invariant_of-result
invariant_of-result c = omega (arith, c.union.ensures tt, or_lt 31 _ _ c.self.invariant c.flag.ensures.small)

pub returns : goal.returns
returns c =
    ap signals_of (c.union.ensures tt)
    ∙ with_is c.self.inside.flags.0 c.args.signal c.flag.result.0 c.requires c.flag.ensures.bit
    ∙ ap (λ s. set.insert s c.args.signal) c.self.view_is
