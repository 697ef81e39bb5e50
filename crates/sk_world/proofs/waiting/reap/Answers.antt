use Rattle.std.proofs.Common.{sym, subst}
use Rattle.sk_world.specs.Rules.{IsWorld}
use Rattle.sk_world.proofs.Stored.{kept_removed}
use Rattle.sk_world.proofs.waiting.reap.Goals as goal

pub returns-clause-rules : goal.returns-clause-rules
returns-clause-rules g c =
    subst IsWorld (sym c.remove.ensures.rest) (kept_removed (g.S.ProcStore.contents c.args.store.now) c.args.pid c.requires.rules c.requires.other c.requires.zombie)
