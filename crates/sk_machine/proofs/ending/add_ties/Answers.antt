use Rattle.std.specs.Option.{is_some}
use Rattle.sk_world.specs.World.{at}
use Rattle.sk_machine.proofs.Ties.{still_tied, more_ties}
use Rattle.sk_machine.proofs.ending.add_ties.Goals as goal

pub loop-pid-preserved : goal.loop-pid-preserved
loop-pid-preserved g c =
    let w = g.S.ProcStore.contents c.args.store.now in
    record {
      tied = still_tied w c.in-Some.pid _ _ c.loop-pid.invariant.tied c.add_tie.ensures;
      whole = more_ties w (λ q. is_some (at w q)) c.loop-pid.after c.in-Some.pid _ _ c.loop-pid.invariant.whole c.in-Some.ensures.next.2 c.add_tie.ensures;
    }
