use Rattle.std.proofs.Common.{arith}
use Rattle.sk_world.specs.Signalling.{opening}
use Rattle.sk_world.proofs.Frames.{blockable_empty}
use Rattle.sk_world.proofs.signal_state.SigState.new.Goals as goal

pub invariant_of-result : goal.invariant_of-result
invariant_of-result c = rw c.empty.ensures (omega arith, blockable_empty)

pub returns : goal.returns
unfolding opening
returns c = cc
