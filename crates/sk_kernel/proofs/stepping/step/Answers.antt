use Rattle.std.proofs.Common.{◌∙◌, ap, sym}
use Rattle.sk_kernel.proofs.Common.{stepped, step_of}
use Rattle.sk_kernel.proofs.stepping.step.Goals as goal

pub returns-in-Some-clause-answer : goal.returns-in-Some-clause-answer
unfolding step_of
returns-in-Some-clause-answer g c =
    ap (λ r. (stepped c.args.declared.now (g.S.ProcStore.contents c.args.store.now) c.args.event.now r).answer) (sym c.in-Some.is ∙ c.reason.ensures)

pub returns-in-Some-clause-world : goal.returns-in-Some-clause-world
unfolding step_of
returns-in-Some-clause-world g c =
    ap (λ r. (stepped c.args.declared.now (g.S.ProcStore.contents c.args.store.now) c.args.event.now r).world) (sym c.in-Some.is ∙ c.reason.ensures)
