use Rattle.std.proofs.Common.{◌∙◌, sym}
use Rattle.sk_machine.proofs.Ties.{ties_none}
use Rattle.sk_machine.proofs.ending.ties_a_group.Goals as goal

pub returns-in-Some : goal.returns-in-Some
returns-in-Some g c none = ties_none (g.S.ProcStore.contents c.args.store.now) c.args.pid c.in-Some.process.now c.in-Some.ensures.there (sym c.is_tie.ensures ∙ none)
