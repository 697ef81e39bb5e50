use Rattle.sk_kernel.proofs.Common.{unsigned, signed, after_kill}
use Rattle.sk_kernel.proofs.Registers.{handed_on}
use Rattle.sk_kernel.proofs.Rows.{has_changed_by}
use Rattle.sk_kernel.proofs.processes.kill.Goals as goal

pub returns-clause-performed : goal.returns-clause-performed
returns-clause-performed g c =
    let w = g.S.ProcStore.contents c.args.store.now in
    let call = c.args.call.now in
    has_changed_by w c.args.pid 0 (λ creds. after_kill w c.args.pid creds (signed call 0) (unsigned call 1)) c.caller.result.now _ _ _ _ c.caller.ensures
    (λ i. after_kill w c.args.pid c.caller.result.now.body.creds (handed_on call 0 c.signed.result c.signed.ensures i) (c.unsigned.ensures i))
    c.kill.ensures.answer c.kill.ensures.world c.returned.ensures
