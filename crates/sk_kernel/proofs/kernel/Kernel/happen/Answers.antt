use Rattle.std.proofs.Common.{subst, sym}
use Rattle.sk_kernel.proofs.Common.{IsWorld, HasAccepted}
use Rattle.sk_kernel.proofs.Runs.{kept_by}
use Rattle.sk_kernel.proofs.kernel.Kernel.happen.Goals as goal

pub invariant_of-self : goal.invariant_of-self
invariant_of-self g c =
    subst (λ w. IsWorld w × HasAccepted w) (sym c.update.ensures)
    (kept_by c.self.inside.declared c.self.inside.store c.step_possible-answer.new.store c.args.event.now c.step_possible-answer.result c.step_possible-answer.ensures.world
    c.step_possible-answer.ensures.kept c.self.invariant)
