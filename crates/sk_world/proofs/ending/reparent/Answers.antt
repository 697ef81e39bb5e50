use Rattle.std.proofs.Common.{sym, subst}
use Rattle.sk_world.specs.Rules.{IsWorld}
use Rattle.sk_world.proofs.KeptEnd.{kept_reparented}
use Rattle.sk_world.proofs.ending.reparent.Goals as goal

pub returns-clause-rules : goal.returns-clause-rules
returns-clause-rules g c =
    subst IsWorld (sym c.hand_on_and_announce.ensures) (kept_reparented (g.S.ProcStore.contents c.args.store.now) c.args.pid c.requires.rules c.requires.there)
