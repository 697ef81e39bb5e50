use Rattle.std.proofs.Common.{◌∙◌, sym}
use Rattle.sk_kernel.proofs.Walking.{goes_on_waiting, ends_by_child, ends_by_none}
use Rattle.sk_kernel.proofs.turns.asks_no_more.Goals as goal

pub returns-in-Told : goal.returns-in-Told
returns-in-Told g c =
    ends_by_child (g.S.ProcStore.contents c.args.store.now) c.args.pid c.args.request.now c.in-Told.pid c.in-Told.status (sym c.ready.ensures.answer ∙ c.in-Told.is)

pub returns-in-NoMatch : goal.returns-in-NoMatch
returns-in-NoMatch g c =
    ends_by_none (g.S.ProcStore.contents c.args.store.now) c.args.pid c.args.request.now (sym c.ready.ensures.answer ∙ c.in-NoMatch.is)

pub returns-in-NotReady : goal.returns-in-NotReady
returns-in-NotReady g c =
    goes_on_waiting (g.S.ProcStore.contents c.args.store.now) c.args.pid c.args.request.now (sym c.ready.ensures.answer ∙ c.in-NotReady.is)
