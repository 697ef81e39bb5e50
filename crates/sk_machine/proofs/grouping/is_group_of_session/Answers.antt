use Rattle.std.proofs.Common.{◌∙◌, sym}
use Rattle.std.proofs.lemmas.Bool.{eq-eqb, ne_eqb}
use Rattle.sk_world.specs.Processes.{pids}
use Rattle.sk_world.specs.World.{at, is_member_of}
use Rattle.sk_world.proofs.Walks.{none_any, up_to, beyond}
use Rattle.sk_machine.proofs.Walking.{shares, shared, no_member_shares, no_sharing}
use Rattle.sk_machine.proofs.grouping.is_group_of_session.Goals as goal

pub returns-then-session_of-session : goal.returns-then-session_of-session
returns-then-session_of-session g c =
    let w = g.S.ProcStore.contents c.args.store.now in
    shared w c.args.session c.args.group c.in-Some.pid c.in-Some.ensures.next.1 (eq-eqb _ c.args.session (sym c.session_of.ensures ∙ c.if-session_of-session.true))

pub loop-pid-preserved : goal.loop-pid-preserved
loop-pid-preserved g c =
    let w = g.S.ProcStore.contents c.args.store.now in
    up_to (shares w c.args.session c.args.group) (λ q. is_member_of c.args.group (at w q)) c.loop-pid.after c.in-Some.pid (no_member_shares w c.args.session c.args.group) c.loop-pid.invariant
    c.in-Some.ensures.next.2
    (no_sharing w c.args.session c.args.group c.in-Some.pid (ne_eqb _ c.args.session (λ same. c.if-session_of-session.false (c.session_of.ensures ∙ same))))

pub returns : goal.returns
returns g c =
    let w = g.S.ProcStore.contents c.args.store.now in
    sym (none_any (shares w c.args.session c.args.group) (pids w.procs)
    (beyond (shares w c.args.session c.args.group) (λ q. is_member_of c.args.group (at w q)) c.loop-pid.after (no_member_shares w c.args.session c.args.group) c.loop-pid.invariant
    c.in_default.ensures.next))
