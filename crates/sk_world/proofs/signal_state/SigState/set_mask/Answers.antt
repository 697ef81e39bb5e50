use Rattle.sk_world.proofs.Frames.{mask_set}
use Rattle.sk_world.proofs.signal_state.SigState.set_mask.Goals as goal

pub invariant_of-self : goal.invariant_of-self
invariant_of-self c =
    rw c.blockable-self-inside.ensures (c.self.invariant.0, mask_set c.self.inside.mask _ _ c.self.invariant.1)
