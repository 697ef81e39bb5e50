use Rattle.std.proofs.Common.{ap, sym, subst, IsTrue}
use Rattle.sk_world.specs.World.{has_ended, has_stopped}
use Rattle.sk_world.specs.Rules.{IsWorld}
use Rattle.sk_world.proofs.Bodies.{kept_body}
use Rattle.sk_process_tests.proofs.stores.testing.mark.Goals as goal

pub returns-in-Some : goal.returns-in-Some
returns-in-Some g c =
    let there = c.in-Some.ensures.there in
    subst IsWorld (sym (rw c.in-Some.is at (c.body_mut.follows.holds c.mark_body.new.body)))
    (kept_body (g.S.ProcStore.contents c.args.store.now) c.args.pid there.0 _ c.mark_body.new.body c.requires there.1 there.2
    (ap has_ended c.mark_body.ensures) (λ _. subst (λ x. IsTrue (has_stopped x)) c.mark_body.ensures))
