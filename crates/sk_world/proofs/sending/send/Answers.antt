use Rattle.std.proofs.Common.{sym, subst}
use Rattle.sk_world.specs.Common.{SIGCHLD, IsWorld}
use Rattle.sk_world.proofs.Kept.{kept_generated}
use Rattle.sk_world.proofs.sending.send.Goals as goal

pub returns-then-is_stopped-clause-rules : goal.returns-then-is_stopped-clause-rules
returns-then-is_stopped-clause-rules g c rules =
    let first = kept_generated (g.S.ProcStore.contents c.args.store.now) c.args.pid c.args.signal rules in
    subst IsWorld (sym c.generate_at-then-is_stopped.ensures)
    (kept_generated (g.S.ProcStore.contents c.generate_at.new.store) c.parent_of-parent.result SIGCHLD (subst IsWorld (sym c.generate_at.ensures) first))

pub returns-else-signal-eq-SIGCONT-clause-rules : goal.returns-else-signal-eq-SIGCONT-clause-rules
returns-else-signal-eq-SIGCONT-clause-rules g c rules =
    subst IsWorld (sym c.generate_at-else-signal-eq-SIGCONT.ensures) (kept_generated (g.S.ProcStore.contents c.args.store.now) c.args.pid c.args.signal rules)
