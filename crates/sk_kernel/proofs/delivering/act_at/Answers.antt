use Rattle.std.proofs.Common.{◌≡◌, ◌∙◌, ap, sym, subst, IfSome}
use Rattle.sk_kernel.proofs.Common.{at, with_body, delivered, acted, left}
use Rattle.sk_kernel.proofs.Deeds.{left_is}
use Rattle.sk_kernel.proofs.Taking.{kept_alike, alive_alike}
use Rattle.sk_kernel.proofs.delivering.act_at.Goals as goal

pub returns-clause-left : goal.returns-clause-left
returns-clause-left g c =
    let w = g.S.ProcStore.contents c.args.store.now in
    let pid = c.args.pid in
    let n = c.args.signal in
    let there = c.in-Some.ensures.there in
    let made = rw c.in-Some.is at (c.body_mut.follows.holds c.act.new.body) ∙ ap (with_body w pid) c.act.ensures.body in
    subst (λ v. IfSome (at w pid) (λ p. left v pid n c.act.result ≡ delivered w pid p.body n)) (sym made)
    (subst (λ o. IfSome o (λ p. left (with_body w pid (acted pid c.in-Some.body.now n).body) pid n c.act.result ≡ delivered w pid p.body n)) (sym there.1)
    (ap (left (with_body w pid (acted pid c.in-Some.body.now n).body) pid n) c.act.ensures.deed
    ∙ left_is w pid n there.0 c.in-Some.body.now there.1 there.2
    ∙ ap (λ x. delivered w pid x n) (sym there.2)))

pub returns-clause-alive : goal.returns-clause-alive
returns-clause-alive g c =
    let there = c.in-Some.ensures.there in
    alive_alike (g.S.ProcStore.contents c.args.store.now) c.args.pid there.0 c.in-Some.body.now c.act.new.body _ c.requires.alive there.1 there.2 c.act.ensures.life (rw c.in-Some.is at (c.body_mut.follows.holds c.act.new.body))

pub returns-clause-rules : goal.returns-clause-rules
returns-clause-rules g c =
    let there = c.in-Some.ensures.there in
    kept_alike (g.S.ProcStore.contents c.args.store.now) c.args.pid there.0 c.in-Some.body.now c.act.new.body _ c.requires.rules there.1 there.2 c.act.ensures.life (rw c.in-Some.is at (c.body_mut.follows.holds c.act.new.body))
