use Rattle.sk_world.specs.World.{at, is_child_of}
use Rattle.sk_machine.proofs.Ties.{none_before, none_tie, nobody_before}
use Rattle.sk_machine.proofs.ending.has_child_that_ties.Goals as goal

pub loop-child-init : goal.loop-child-init
loop-child-init g c =
    let w = g.S.ProcStore.contents c.args.store.now in
    nobody_before w c.requires.rules c.args.parent

pub loop-child-preserved : goal.loop-child-preserved
loop-child-preserved g c =
    let w = g.S.ProcStore.contents c.args.store.now in
    none_before w (λ q. is_child_of c.args.parent (at w q)) c.loop-child.after c.in-Some.child c.loop-child.invariant c.in-Some.ensures.next.2 (c.ties_a_group.ensures c.if-ties_a_group.false)

pub returns : goal.returns
returns g c none =
    let w = g.S.ProcStore.contents c.args.store.now in
    none_tie w (λ q. is_child_of c.args.parent (at w q)) c.loop-child.after c.loop-child.invariant c.in_default.ensures.next
