use Rattle.std.proofs.Common.{◌≡◌, sym, subst, IfOk, OnOk}
use Rattle.sk_kernel.proofs.Common.{stepped, step_of}
use Rattle.sk_kernel.proofs.stepping.step_possible.Goals as goal

pub returns-clause-answer : goal.returns-clause-answer
unfolding step_of
returns-clause-answer g c =
    subst (λ r. IfOk c.happen.result (λ answer. answer ≡ (stepped c.args.declared.now (g.S.ProcStore.contents c.args.store.now) c.args.event.now r).answer))
    (sym c.requires.possible) c.happen.ensures.answer

pub returns-clause-world : goal.returns-clause-world
unfolding step_of
returns-clause-world g c =
    subst (λ r. OnOk c.happen.result (g.S.ProcStore.contents c.happen.new.store ≡ (stepped c.args.declared.now (g.S.ProcStore.contents c.args.store.now) c.args.event.now r).world))
    (sym c.requires.possible) c.happen.ensures.world
