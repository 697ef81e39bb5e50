use Rattle.std.proofs.Common.{sym, subst}
use Rattle.sk_world.specs.Rules.{IsWorld}
use Rattle.sk_machine.proofs.KeptLinks.{kept_regrouped, kept_left}
use Rattle.sk_machine.proofs.grouping.setpgid.Goals as goal

pub returns-clause-rules : goal.returns-clause-rules
returns-clause-rules g c =
    let w = g.S.ProcStore.contents c.args.store.now in
    subst IsWorld (sym c.regroup.ensures.world)
    (kept_left w _ c.requires.rules (kept_regrouped w c.args.caller c.pid_named-target.result c.pid_named.result c.requires.rules c.requires.there))
