use Rattle.std.proofs.Common.{◌∙◌, ap, sym, subst}
use Rattle.sk_kernel.proofs.Common.{IfOk-weaker, on_err_weaker, Body, World, with_body, ComesTo, own_row}
use Rattle.sk_kernel.proofs.Taking.{kept_alike}
use Rattle.sk_kernel.proofs.Rows.{put_back}
use Rattle.sk_kernel.proofs.own.perform_own.Goals as goal

pub returns-clause-performed : goal.returns-clause-performed
returns-clause-performed g c =
    let w = g.S.ProcStore.contents c.args.store.now in
    let there = c.in-Some.ensures.there in
    let row = λ (v : World) (b : Body). own_row c.args.declared.now v c.args.pid b c.args.which c.args.call.now in
    let made = rw c.in-Some.is at (c.body_mut.follows.holds c.act.new.body) in
    IfOk-weaker c.act.result _ _ (λ outcome acts. subst (ComesTo w c.args.pid row outcome) (sym made) (acts w there.0 there.1 there.2)) c.act.ensures.performed

pub returns-clause-kept : goal.returns-clause-kept
returns-clause-kept g c =
    let w = g.S.ProcStore.contents c.args.store.now in
    let there = c.in-Some.ensures.there in
    let made = rw c.in-Some.is at (c.body_mut.follows.holds c.act.new.body) in
    on_err_weaker c.act.result (λ kept. made ∙ ap (with_body w c.args.pid) kept ∙ put_back w c.args.pid there.0 c.in-Some.body.now there.1 there.2) c.act.ensures.kept

pub returns-clause-rules : goal.returns-clause-rules
returns-clause-rules g c =
    let there = c.in-Some.ensures.there in
    kept_alike (g.S.ProcStore.contents c.args.store.now) c.args.pid there.0 c.in-Some.body.now c.act.new.body _ c.requires.rules there.1 there.2 c.act.ensures.life (rw c.in-Some.is at (c.body_mut.follows.holds c.act.new.body))
