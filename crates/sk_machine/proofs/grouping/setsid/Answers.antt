use Rattle.std.proofs.Common.{sym, subst}
use Rattle.sk_world.specs.Rules.{IsWorld}
use Rattle.sk_machine.proofs.KeptLinks.{kept_leading}
use Rattle.sk_machine.proofs.grouping.setsid.Goals as goal

pub returns-clause-rules : goal.returns-clause-rules
returns-clause-rules g c =
    subst IsWorld (sym c.lead.ensures) (kept_leading (g.S.ProcStore.contents c.args.store.now) c.args.caller c.requires.rules c.requires.there)
