use Rattle.std.proofs.Common.{◌∙◌, sym}
use Rattle.sk_world.specs.World.{at, is_member_of}
use Rattle.sk_world.proofs.Walks.{up_to, beyond}
use Rattle.sk_machine.specs.Orphans.{is_tie}
use Rattle.sk_machine.proofs.Walking.{no_member_ties, tied, untied}
use Rattle.sk_machine.proofs.orphans.orphaned.Goals as goal

pub returns-then-is_tie : goal.returns-then-is_tie
returns-then-is_tie g c =
    tied (g.S.ProcStore.contents c.args.store.now) c.args.group c.in-Some.pid c.in-Some.ensures.next.1 (sym c.is_tie.ensures ∙ c.if-is_tie.true)

pub loop-pid-preserved : goal.loop-pid-preserved
loop-pid-preserved g c =
    let w = g.S.ProcStore.contents c.args.store.now in
    up_to (is_tie w c.args.group) (λ q. is_member_of c.args.group (at w q)) c.loop-pid.after c.in-Some.pid (no_member_ties w c.args.group) c.loop-pid.invariant
    c.in-Some.ensures.next.2 (sym c.is_tie.ensures ∙ c.if-is_tie.false)

pub returns : goal.returns
returns g c =
    let w = g.S.ProcStore.contents c.args.store.now in
    untied w c.args.group
    (beyond (is_tie w c.args.group) (λ q. is_member_of c.args.group (at w q)) c.loop-pid.after (no_member_ties w c.args.group) c.loop-pid.invariant c.in_default.ensures.next)
