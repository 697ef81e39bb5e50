use Rattle.std.proofs.Common.{rules}
use Rattle.sk_world.proofs.SignalSets.{same_number}
use Rattle.sk_world.proofs.signal_set.SigSetPartialEq.eq.Goals as goal

pub returns : goal.returns
returns c = search (rules, same_number)
