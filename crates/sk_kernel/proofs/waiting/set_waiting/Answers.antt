use Rattle.std.proofs.Common.{◌∙◌, sym, refl, subst}
use Rattle.sk_kernel.proofs.Common.{IsWorld, given_back, nobody_there, waiting_in}
use Rattle.sk_kernel.proofs.Taking.{kept_with_life}
use Rattle.sk_kernel.proofs.waiting.set_waiting.Goals as goal

pub returns-in-Some-clause-world : goal.returns-in-Some-clause-world
returns-in-Some-clause-world g c =
    let there = c.in-Some.ensures.there in
    rw c.in-Some.is at (c.body_mut.follows.holds (record c.in-Some.body.now { waiting = c.args.waiting }))
    ∙ given_back (g.S.ProcStore.contents c.args.store.now) c.args.pid (waiting_in c.args.waiting) there.0 _ there.1 there.2

pub returns-in_default-clause-world : goal.returns-in_default-clause-world
returns-in_default-clause-world g c =
    c.body_mut.follows.holds-at-none
    ∙ nobody_there (g.S.ProcStore.contents c.args.store.now) c.args.pid (waiting_in c.args.waiting) c.in_default.ensures.absent

pub returns-in-Some-clause-rules : goal.returns-in-Some-clause-rules
returns-in-Some-clause-rules g c =
    subst IsWorld (sym (returns-in-Some-clause-world g c)) (kept_with_life (g.S.ProcStore.contents c.args.store.now) c.args.pid (waiting_in c.args.waiting) (λ body. refl) c.requires.rules)

pub returns-in_default-clause-rules : goal.returns-in_default-clause-rules
returns-in_default-clause-rules g c = subst IsWorld (sym c.body_mut.follows.holds-at-none) c.requires.rules
