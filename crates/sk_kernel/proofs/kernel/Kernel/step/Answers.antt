use Rattle.std.proofs.Common.{subst, sym}
use Rattle.sk_kernel.proofs.Common.{IsWorld, HasAccepted}
use Rattle.sk_kernel.proofs.Runs.{kept_by}
use Rattle.sk_kernel.proofs.kernel.Kernel.step.Goals as goal

pub invariant_of-self : goal.invariant_of-self
invariant_of-self g c =
    subst (λ w. IsWorld w × HasAccepted w) (sym c.update.ensures)
    (kept_by c.self.inside.declared c.self.inside.store c.step-answer.new.store c.args.event c.step-answer.result c.step-answer.ensures.world
    c.step-answer.ensures.kept c.self.invariant)
