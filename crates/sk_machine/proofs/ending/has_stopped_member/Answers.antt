use Rattle.std.proofs.Common.{◌∙◌, ◌&&◌, sym}
use Rattle.sk_world.specs.Processes.{pids}
use Rattle.sk_world.specs.World.{at, is_stopped, is_member_of}
use Rattle.sk_world.proofs.Walks.{any_here, none_any, up_to, beyond}
use Rattle.sk_machine.proofs.Walking.{member_is_there, no_member_stopped, not_stopped}
use Rattle.sk_machine.proofs.ending.has_stopped_member.Goals as goal

pub returns-then-is_stopped : goal.returns-then-is_stopped
returns-then-is_stopped g c =
    let w = g.S.ProcStore.contents c.args.store.now in
    let member = c.in-Some.ensures.next.1 in
    let stopped = sym c.is_stopped.ensures ∙ c.if-is_stopped.true in
    sym (any_here (λ q. is_stopped (at w q) && is_member_of c.args.group (at w q)) w.procs.entries c.in-Some.pid (member_is_there c.args.group (at w c.in-Some.pid) member) (λ i. stopped i && member i))

pub loop-pid-preserved : goal.loop-pid-preserved
loop-pid-preserved g c =
    let w = g.S.ProcStore.contents c.args.store.now in
    up_to (λ q. is_stopped (at w q) && is_member_of c.args.group (at w q)) (λ q. is_member_of c.args.group (at w q)) c.loop-pid.after c.in-Some.pid (no_member_stopped w c.args.group) c.loop-pid.invariant
    c.in-Some.ensures.next.2 (not_stopped w c.args.group c.in-Some.pid (sym c.is_stopped.ensures ∙ c.if-is_stopped.false))

pub returns : goal.returns
returns g c =
    let w = g.S.ProcStore.contents c.args.store.now in
    sym (none_any (λ q. is_stopped (at w q) && is_member_of c.args.group (at w q)) (pids w.procs)
    (beyond (λ q. is_stopped (at w q) && is_member_of c.args.group (at w q)) (λ q. is_member_of c.args.group (at w q)) c.loop-pid.after (no_member_stopped w c.args.group) c.loop-pid.invariant
    c.in_default.ensures.next))
