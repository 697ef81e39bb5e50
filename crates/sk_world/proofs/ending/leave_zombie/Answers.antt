use Rattle.std.proofs.Common.{◌∙◌, ap}
use Rattle.sk_world.specs.Common.{with_body, zombie}
use Rattle.sk_world.proofs.Bodies.{given_back, nobody_there}
use Rattle.sk_world.proofs.ending.leave_zombie.Goals as goal

pub returns-in-Some : goal.returns-in-Some
returns-in-Some g c =
    let w = g.S.ProcStore.contents c.args.store.now in
    let there = c.in-Some.ensures.there in
    rw c.in-Some.is at (c.body_mut.follows.holds c.become_zombie.new.body)
    ∙ ap (with_body w c.args.pid) c.become_zombie.ensures
    ∙ given_back w c.args.pid (zombie c.args.status) there.0 _ there.1 there.2

pub returns-in_default : goal.returns-in_default
returns-in_default g c =
    c.body_mut.follows.holds-at-none
    ∙ nobody_there (g.S.ProcStore.contents c.args.store.now) c.args.pid _ c.in_default.ensures.absent
