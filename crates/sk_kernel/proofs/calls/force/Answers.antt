use Rattle.std.proofs.Common.{◌∙◌, ap}
use Rattle.sk_kernel.proofs.Common.{sigsys_forced, Body, with_body, given_back, nobody_there}
use Rattle.sk_kernel.proofs.calls.force.Goals as goal

trapped : Body → Body
trapped body = record body { signals = sigsys_forced body.signals }

pub returns-in-Some : goal.returns-in-Some
unfolding trapped
returns-in-Some g c =
    let w = g.S.ProcStore.contents c.args.store.now in
    let there = c.in-Some.ensures.there in
    rw c.in-Some.is at (c.body_mut.follows.holds (record c.in-Some.body.now { signals = c.force.new.self }))
    ∙ ap (λ signals. with_body w c.args.pid (record c.in-Some.body.now { signals = signals })) c.force.ensures
    ∙ given_back w c.args.pid trapped there.0 _ there.1 there.2

pub returns-in_default : goal.returns-in_default
unfolding trapped
returns-in_default g c =
    c.body_mut.follows.holds-at-none ∙ nobody_there (g.S.ProcStore.contents c.args.store.now) c.args.pid trapped c.in_default.ensures.absent
