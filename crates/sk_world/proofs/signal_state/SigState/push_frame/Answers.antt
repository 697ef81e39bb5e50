use Rattle.std.proofs.Common.{ap, arith}
use Rattle.sk_world.specs.Delivery.{popped}
use Rattle.sk_world.proofs.Frames.{frame_pushed, frames_of-push, has_room}
use Rattle.sk_world.proofs.signal_state.SigState.push_frame.Goals as goal

pub invariant_of-self : goal.invariant_of-self
invariant_of-self c =
    rw (c.blockable-self-inside.ensures, frames_of-push c.self.inside.depth c.self.inside.frames c.self.inside.mask (omega arith))
    (omega arith, frame_pushed c.self.inside.mask _ _ c.self.invariant.1)

pub returns-clause-room : goal.returns-clause-room
returns-clause-room c = has_room _ _ _ _ (ap (λ s. s.frames) c.self.view_is) c.if-self-eq-FRAMES.false

pub returns-clause-state : goal.returns-clause-state
returns-clause-state c =
    rw (frames_of-push c.self.inside.depth c.self.inside.frames c.self.inside.mask (omega arith), ← c.self.view_is) cc

pub returns-clause-undone : goal.returns-clause-undone
returns-clause-undone c = ap popped (returns-clause-state c)
