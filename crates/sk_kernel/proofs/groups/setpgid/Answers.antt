use Rattle.sk_kernel.proofs.Common.{after_setpgid, signed}
use Rattle.sk_kernel.proofs.Registers.{handed_on}
use Rattle.sk_kernel.proofs.Rows.{has_changed}
use Rattle.sk_kernel.proofs.groups.setpgid.Goals as goal

pub returns-clause-performed : goal.returns-clause-performed
returns-clause-performed g c =
    let w = g.S.ProcStore.contents c.args.store.now in
    let call = c.args.call.now in
    has_changed w c.args.pid 0 (after_setpgid w c.args.pid (signed call 0) (signed call 1)) _ _ _ _
    (λ i. after_setpgid w c.args.pid (handed_on call 0 c.signed-process.result c.signed-process.ensures i) (handed_on call 1 c.signed-group.result c.signed-group.ensures i))
    c.setpgid.ensures.answer c.setpgid.ensures.world c.returned.ensures
