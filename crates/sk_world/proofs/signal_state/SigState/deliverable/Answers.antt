use Rattle.std.proofs.Common.{◌∙◌, ap, sym}
use Rattle.sk_world.specs.Sets as set
use Rattle.sk_world.proofs.SignalsReady.{ready_is, least_is_ready, some_member}
use Rattle.sk_world.proofs.signal_state.SigState.deliverable.Goals as goal

pub returns-then-contains-clause-unblocked : goal.returns-then-contains-clause-unblocked
returns-then-contains-clause-unblocked c =
    rw (← c.self.view_is)
    (ready_is c.self.inside.pending c.self.inside.mask 9
    (sym (ap (λ s. set.contains s 9) c.difference-ready.ensures) ∙ sym c.contains.ensures ∙ c.if-contains.true))

pub returns-then-contains-clause-none : goal.returns-then-contains-clause-none
returns-then-contains-clause-none c =
    rw (← c.self.view_is, ← c.difference-ready.ensures)
    (λ e. cc, some_member c.difference-ready.result 9 (sym c.contains.ensures ∙ c.if-contains.true))

pub returns-clause-unblocked : goal.returns-clause-unblocked
returns-clause-unblocked c =
    rw (← c.self.view_is)
    (least_is_ready c.self.inside.pending c.self.inside.mask c.lowest.result (rw c.difference-ready.ensures at c.lowest.ensures.least))
