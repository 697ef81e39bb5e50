use Rattle.std.proofs.Common.{◌∙◌}
use Rattle.sk_world.specs.Common.{Note, without_note}
use Rattle.sk_world.proofs.Bodies.{given_back, nobody_there}
use Rattle.sk_world.proofs.waiting.forget_note.Goals as goal

pub returns-in-Some : goal.returns-in-Some
returns-in-Some g c =
    let there = c.in-Some.ensures.there in
    rw c.in-Some.is at (c.body_mut.follows.holds (record c.in-Some.body.now { note = Note.Nothing }))
    ∙ given_back (g.S.ProcStore.contents c.args.store.now) c.args.pid without_note there.0 _ there.1 there.2

pub returns-in_default : goal.returns-in_default
returns-in_default g c =
    c.body_mut.follows.holds-at-none
    ∙ nobody_there (g.S.ProcStore.contents c.args.store.now) c.args.pid _ c.in_default.ensures.absent
