use Rattle.std.proofs.Common.{◌∙◌, ap, sym, is_some}
use Rattle.sk_kernel.proofs.Common.{at}
use Rattle.sk_kernel.proofs.Why.{reason_there, halted_by_status}
use Rattle.sk_kernel.proofs.reasons.reason.Goals as goal

pub returns-in-Some : goal.returns-in-Some
returns-in-Some g c =
    let w = g.S.ProcStore.contents c.args.store.now in
    c.reason_for.ensures
    ∙ reason_there w c.args.event.now c.in-Some.process.now
    (sym (halted_by_status w) ∙ ap is_some (sym c.halted.ensures) ∙ sym c.is_some.ensures ∙ c.if-is_some.false)
    (ap (at w) (sym c.pid.ensures) ∙ c.in-Some.ensures.there)
