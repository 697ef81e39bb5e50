use Rattle.std.proofs.Common.{◌≡◌, ◌∙◌, ℕ, ap, cond, sym, subst}
use Rattle.sk_world.proofs.Common.{eq-eqb}
use Rattle.sk_world.specs.Common.{INIT, Zombie, World, changed, IsWorld, reparented, left_to_parent, ended}
use Rattle.sk_world.proofs.KeptEnd.{kept_ended, ended_later}
use Rattle.sk_world.proofs.ending.end.Goals as goal

ended_first : (w : World) (pid status : ℕ) → pid ≡ INIT → ended w pid status ≡ changed w INIT (λ body. record body { life = Zombie status })
ended_first w pid status is =
    ap (λ b. cond b (changed w INIT (λ body. record body { life = Zombie status })) (left_to_parent (reparented w pid) pid status)) (eq-eqb pid INIT is)

pub returns-then-pid-eq-INIT-clause-rules : goal.returns-then-pid-eq-INIT-clause-rules
returns-then-pid-eq-INIT-clause-rules g c =
    let w = g.S.ProcStore.contents c.args.store.now in
    subst IsWorld (ended_first w c.args.pid c.args.status c.if-pid-eq-INIT.true ∙ sym c.halt.ensures) (kept_ended w c.args.pid c.args.status c.requires.rules c.requires.alive)

pub returns-else-pid-eq-INIT-clause-rules : goal.returns-else-pid-eq-INIT-clause-rules
returns-else-pid-eq-INIT-clause-rules g c =
    let w = g.S.ProcStore.contents c.args.store.now in
    subst IsWorld (ended_later w c.args.pid c.args.status c.if-pid-eq-INIT.false ∙ sym (c.leave_to_parent.ensures ∙ ap (λ v. left_to_parent v c.args.pid c.args.status) c.reparent.ensures.world))
    (kept_ended w c.args.pid c.args.status c.requires.rules c.requires.alive)
