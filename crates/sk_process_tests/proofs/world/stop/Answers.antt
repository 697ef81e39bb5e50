use Rattle.std.proofs.Common.{sym, subst}
use Rattle.sk_world.specs.Rules.{IsWorld}
use Rattle.sk_world.proofs.Bodies.{kept_body}
use Rattle.sk_process_tests.proofs.world.stop.Goals as goal

pub returns-in-Some : goal.returns-in-Some
returns-in-Some g c =
    let there = c.in-Some.ensures.there in
    subst IsWorld (sym (rw c.in-Some.is at (c.body_mut.follows.holds c.stop_body.new.body)))
    (kept_body (g.S.ProcStore.contents c.args.store.now) c.args.pid there.0 _ c.stop_body.new.body c.requires.world there.1 there.2 c.stop_body.ensures (λ is. absurd (c.requires.other is)))
