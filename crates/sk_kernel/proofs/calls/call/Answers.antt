use Rattle.std.proofs.Common.{◌∙◌, ap}
use Rattle.sk_kernel.proofs.Common.{IfOk-at_ok, at, judged, called_with}
use Rattle.sk_kernel.proofs.OfCaller.{under, of}
use Rattle.sk_machine.specs.declared.answer.Answer.TheVariants as answer
use Rattle.sk_kernel.proofs.calls.call.Goals as goal

pub returns-clause-answer : goal.returns-clause-answer
returns-clause-answer g c =
    let w = g.S.ProcStore.contents c.args.store.now in
    under (at w c.args.pid) _ (λ p there.
    ap (λ o. answer.Call c.verdict-verdict.result o) (of (at w c.args.pid) _ p (IfOk-at_ok _ c.in_ok-outcome.was c.judge.ensures.answer) there
    ∙ ap (λ a. (judged c.args.declared.now w c.args.pid p.body c.args.call.now c.verdict-verdict.result a).outcome) c.of-action.ensures.action)
    ∙ ap (λ v. (called_with c.args.declared.now w c.args.pid p.body c.args.call.now v).answer) (of (at w c.args.pid) _ p c.verdict-verdict.ensures there))

pub returns-clause-world : goal.returns-clause-world
returns-clause-world g c =
    let w = g.S.ProcStore.contents c.args.store.now in
    under (at w c.args.pid) _ (λ p there.
    of (at w c.args.pid) _ p (rw c.in_ok-outcome.was at c.judge.ensures.world) there
    ∙ ap (λ a. (judged c.args.declared.now w c.args.pid p.body c.args.call.now c.verdict-verdict.result a).world) c.of-action.ensures.action
    ∙ ap (λ v. (called_with c.args.declared.now w c.args.pid p.body c.args.call.now v).world) (of (at w c.args.pid) _ p c.verdict-verdict.ensures there))
