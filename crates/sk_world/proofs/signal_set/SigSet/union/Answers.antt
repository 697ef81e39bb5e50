use Rattle.std.proofs.Common.{◌∙◌, ap, arith}
use Rattle.std.proofs.lemmas.Nat.{or_lt}
use Rattle.sk_world.specs.Sets as set
use Rattle.sk_world.specs.SignalSet.{signals_of}
use Rattle.sk_world.proofs.SignalSets.{signals_of-or}
use Rattle.sk_world.proofs.signal_set.SigSet.union.Goals as goal

pub invariant_of-result : goal.invariant_of-result
invariant_of-result c = omega (arith, c.union.ensures tt, or_lt 31 _ _ c.self.invariant c.other.invariant)

pub returns : goal.returns
returns c =
    ap signals_of (c.union.ensures tt)
    ∙ signals_of-or c.self.inside.flags.0 c.other.inside.flags.0
    ∙ (λ i. set.union (c.self.view_is i) (c.other.view_is i))
