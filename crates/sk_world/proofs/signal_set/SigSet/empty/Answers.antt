use Rattle.std.proofs.Common.{◌∙◌, ap}
use Rattle.sk_world.specs.SignalSet.{signals_of}
use Rattle.sk_world.proofs.SignalSets.{signals_of-zero}
use Rattle.sk_world.proofs.signal_set.SigSet.empty.Goals as goal

pub returns : goal.returns
returns c = ap signals_of (c.empty.ensures tt) ∙ signals_of-zero
