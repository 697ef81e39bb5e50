use Rattle.std.proofs.Common.{◌∙◌, ap, arith}
use Rattle.std.proofs.lemmas.Nat.{and_le_l}
use Rattle.sk_world.specs.Sets as set
use Rattle.sk_world.specs.SignalSet.{signals_of}
use Rattle.sk_world.proofs.SignalSets.{signals_of-without}
use Rattle.sk_world.proofs.signal_set.SigSet.difference.Goals as goal

pub invariant_of-result : goal.invariant_of-result
invariant_of-result c = omega (arith, c.difference.ensures tt, and_le_l)

pub returns : goal.returns
returns c =
    ap signals_of (c.difference.ensures tt)
    ∙ signals_of-without c.self.inside.flags.0 c.other.inside.flags.0 (omega (arith, c.other.invariant))
    ∙ (λ i. set.difference (c.self.view_is i) (c.other.view_is i))
