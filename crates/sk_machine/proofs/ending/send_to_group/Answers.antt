use Rattle.std.proofs.Common.{◌∙◌, sym}
use Rattle.sk_machine.proofs.Hanging.{sending_begins, sent_further, passed_over, sending_ends}
use Rattle.sk_machine.proofs.ending.send_to_group.Goals as goal

pub loop-pid-init : goal.loop-pid-init
loop-pid-init g c = sending_begins (g.S.ProcStore.contents c.args.store.now) c.args.group c.args.signal c.requires.rules

pub loop-pid-preserved-then-is_alive : goal.loop-pid-preserved-then-is_alive
loop-pid-preserved-then-is_alive g c =
    sent_further (g.S.ProcStore.contents c.args.store.now) (g.S.ProcStore.contents c.loop-pid.store) c.args.group c.args.signal c.loop-pid.after c.in-Some.pid c.loop-pid.invariant c.in-Some.ensures.next
    (g.S.ProcStore.contents c.send.new.store) (sym c.is_alive.ensures ∙ c.if-is_alive.true) (c.send.ensures.rules c.loop-pid.invariant.rules) c.send.ensures.world

pub loop-pid-preserved : goal.loop-pid-preserved
loop-pid-preserved g c =
    passed_over (g.S.ProcStore.contents c.args.store.now) (g.S.ProcStore.contents c.loop-pid.store) c.args.group c.args.signal c.loop-pid.after c.in-Some.pid c.loop-pid.invariant c.in-Some.ensures.next
    (sym c.is_alive.ensures ∙ c.if-is_alive.false)

pub returns-clause-world : goal.returns-clause-world
returns-clause-world g c =
    sending_ends (g.S.ProcStore.contents c.args.store.now) (g.S.ProcStore.contents c.loop-pid.store) c.args.group c.args.signal c.loop-pid.after c.loop-pid.invariant c.in_default.ensures.next
