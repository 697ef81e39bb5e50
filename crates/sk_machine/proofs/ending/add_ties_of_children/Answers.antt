use Rattle.sk_world.specs.World.{at, is_child_of}
use Rattle.sk_machine.proofs.Ties.{still_tied, still_there, more_ties}
use Rattle.sk_machine.proofs.ending.add_ties_of_children.Goals as goal

pub loop-child-preserved : goal.loop-child-preserved
loop-child-preserved g c =
    let w = g.S.ProcStore.contents c.args.store.now in
    record {
      tied = still_tied w c.in-Some.child _ _ c.loop-child.invariant.tied c.add_tie.ensures;
      kept = λ group member. still_there w c.in-Some.child _ _ c.add_tie.ensures group (c.loop-child.invariant.kept group member);
      whole = more_ties w (λ q. is_child_of c.args.parent (at w q)) c.loop-child.after c.in-Some.child _ _ c.loop-child.invariant.whole c.in-Some.ensures.next.2 c.add_tie.ensures;
    }
