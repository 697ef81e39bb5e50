use Rattle.sk_world.proofs.Frames.{mask_without}
use Rattle.sk_world.proofs.signal_state.SigState.force.Goals as goal
use Rattle.sk_world.proofs.signal_state.SigState.force.Goals.{then-holds_back_sigsys, else-holds_back_sigsys}

pub invariant_of-self : goal.invariant_of-self
invariant_of-self c =
    elim c.if-holds_back_sigsys.branch [
      | then-holds_back_sigsys w ↦ rw (w.self-inside-is, w.without-self-inside.ensures)
          (c.self.invariant.0, mask_without c.self.inside.mask _ _ c.self.invariant.1)
      | else-holds_back_sigsys w ↦ rw w.self-inside-is c.self.invariant
    ]
