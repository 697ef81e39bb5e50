use Rattle.std.proofs.Common.{◌∙◌, ap, sym, cond, ne_eqb}
use Rattle.sk_kernel.proofs.Common.{sent_to_each, reached}
use Rattle.sk_kernel.proofs.Reaching.{sending_begins, sent_further, sending_ends}
use Rattle.sk_kernel.proofs.killing.send_to_permitted.Goals as goal

pub loop-next-init : goal.loop-next-init
loop-next-init g c = sending_begins (g.S.ProcStore.contents c.args.store.now) c.args.caller c.args.creds c.args.who c.args.signal c.requires.rules

pub loop-next-preserved : goal.loop-next-preserved
loop-next-preserved g c =
    sent_further (g.S.ProcStore.contents c.args.store.now) (g.S.ProcStore.contents c.loop-next.store) c.args.caller c.args.creds c.args.who c.args.signal c.loop-next.after c.loop-next.invariant c.in-Some.next
    (g.S.ProcStore.contents c.send.new.store) c.in-Some.ensures.next (c.send.ensures.rules c.loop-next.invariant.rules) c.send.ensures.world

pub returns-clause-world : goal.returns-clause-world
returns-clause-world g c =
    let w = g.S.ProcStore.contents c.args.store.now in
    sending_ends w (g.S.ProcStore.contents c.loop-next.store) c.args.caller c.args.creds c.args.who c.args.signal c.loop-next.after c.loop-next.invariant c.in_default.ensures.next
    ∙ sym (ap (λ b. cond b w (sent_to_each w (reached w c.args.caller c.args.creds c.args.who c.args.signal) c.args.signal)) (ne_eqb c.args.signal 0 c.if-signal-eq0.false))
