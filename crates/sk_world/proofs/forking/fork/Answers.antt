use Rattle.std.proofs.Common.{◌∙◌, ap, Ok, subst, sym}
use Rattle.sk_world.specs.Common.{inserted, IsWorld, is_within}
use Rattle.sk_world.proofs.KeptFork.{kept_forked}
use Rattle.sk_world.proofs.Children.{full_answer, room, room_answer, room_forked, child_within}
use Rattle.sk_world.proofs.forking.fork.Goals as goal

pub returns-then-count-ge-PROCESSES-clause-answer : goal.returns-then-count-ge-PROCESSES-clause-answer
returns-then-count-ge-PROCESSES-clause-answer g c = full_answer (g.S.ProcStore.contents c.args.store.now) _ c.count.ensures.count c.if-count-ge-PROCESSES.true

pub insert-requires-clause-within : goal.insert-requires-clause-within
insert-requires-clause-within g c =
    ap (λ p. is_within p.links) c.child-child.ensures.child
    ∙ child_within (g.S.ProcStore.contents c.args.store.now) _ c.in-Some.parent.now c.requires.world c.in-Some.ensures.there

pub returns-clause-answer : goal.returns-clause-answer
returns-clause-answer g c =
    ap Ok c.fresh-pid.ensures.fresh ∙ room_answer (g.S.ProcStore.contents c.args.store.now) (room (g.S.ProcStore.contents c.args.store.now) _ c.count.ensures.count c.if-count-ge-PROCESSES.false)

pub returns-clause-world : goal.returns-clause-world
returns-clause-world g c =
    c.insert.ensures.inserted
    ∙ (λ i. inserted (g.S.ProcStore.contents c.args.store.now) (c.fresh-pid.ensures.fresh i) (c.child-child.ensures.child i))
    ∙ room_forked (g.S.ProcStore.contents c.args.store.now) _ c.in-Some.parent.now c.in-Some.ensures.there (room (g.S.ProcStore.contents c.args.store.now) _ c.count.ensures.count c.if-count-ge-PROCESSES.false)

pub returns-clause-rules : goal.returns-clause-rules
returns-clause-rules g c =
    let w = g.S.ProcStore.contents c.args.store.now in
    subst IsWorld (sym (returns-clause-world g c)) (kept_forked w c.args.caller c.requires.world c.requires.alive)
