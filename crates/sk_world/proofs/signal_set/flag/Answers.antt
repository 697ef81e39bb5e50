use Rattle.std.proofs.Common.{arith, ◌-◌}
use Rattle.std.proofs.lemmas.Nat.{one_shl}
use Rattle.sk_world.proofs.SignalSets.{flag_below}
use Rattle.sk_world.proofs.signal_set.flag.Goals as goal

pub returns-clause-small : goal.returns-clause-small
returns-clause-small c = omega (arith, one_shl (c.args.signal - 1) 32 (omega arith), flag_below c.args.signal c.requires)
