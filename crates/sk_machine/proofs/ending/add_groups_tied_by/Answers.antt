use Rattle.sk_machine.proofs.Ties.{empty_tied, still_tied}
use Rattle.sk_machine.proofs.ending.add_groups_tied_by.Goals as goal

pub add_ties-requires-clause-tied : goal.add_ties-requires-clause-tied
add_ties-requires-clause-tied g c = empty_tied (g.S.ProcStore.contents c.args.store.now) _ c.requires.empty

pub add_ties_of_children-requires-clause-tied : goal.add_ties_of_children-requires-clause-tied
add_ties_of_children-requires-clause-tied g c =
    let w = g.S.ProcStore.contents c.args.store.now in
    still_tied w c.args.pid _ _ (empty_tied w _ c.requires.empty) c.add_tie.ensures
