use Rattle.std.proofs.Common.{◌∙◌, sym, subst}
use Rattle.sk_kernel.proofs.Common.{IsWorld, given_back, nobody_there, stopping}
use Rattle.sk_kernel.proofs.Taking.{kept_stopped}
use Rattle.sk_world.specs.declared.process.Life.TheVariants as life
use Rattle.sk_world.specs.declared.process.Note.TheVariants as note
use Rattle.sk_kernel.proofs.delivering.set_stopped.Goals as goal

pub returns-in-Some-clause-world : goal.returns-in-Some-clause-world
returns-in-Some-clause-world g c =
    let there = c.in-Some.ensures.there in
    rw c.in-Some.is at (c.body_mut.follows.holds (record c.in-Some.body.now { life = life.Stopped; note = note.Stopped c.args.signal }))
    ∙ given_back (g.S.ProcStore.contents c.args.store.now) c.args.pid (stopping c.args.signal) there.0 _ there.1 there.2

pub returns-in-Some-clause-rules : goal.returns-in-Some-clause-rules
returns-in-Some-clause-rules g c =
    subst IsWorld (sym (returns-in-Some-clause-world g c)) (kept_stopped (g.S.ProcStore.contents c.args.store.now) c.args.pid c.args.signal c.requires.rules c.requires.alive c.requires.other)

pub returns-in_default-clause-world : goal.returns-in_default-clause-world
returns-in_default-clause-world g c =
    c.body_mut.follows.holds-at-none
    ∙ nobody_there (g.S.ProcStore.contents c.args.store.now) c.args.pid (stopping c.args.signal) c.in_default.ensures.absent

pub returns-in_default-clause-rules : goal.returns-in_default-clause-rules
returns-in_default-clause-rules g c = subst IsWorld (sym c.body_mut.follows.holds-at-none) c.requires.rules
