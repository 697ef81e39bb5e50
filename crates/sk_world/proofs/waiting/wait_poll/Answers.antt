use Rattle.std.proofs.Common.{◌∙◌, ap, sym, subst}
use Rattle.sk_world.specs.Common.{IsWorld, told}
use Rattle.sk_world.proofs.KeptTold.{kept_told}
use Rattle.sk_world.proofs.waiting.wait_poll.Goals as goal

pub returns-clause-rules : goal.returns-clause-rules
returns-clause-rules g c =
    let w = g.S.ProcStore.contents c.args.store.now in
    subst IsWorld (sym (c.tell.ensures ∙ ap (told w) c.ready-poll.ensures.answer)) (kept_told w c.args.caller c.args.request.now c.requires.rules c.requires.there)
