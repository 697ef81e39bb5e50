use Rattle.std.proofs.Common.{◌∙◌, ap}
use Rattle.sk_table.proofs.Common.{Slotted, children_of, procs_of}
use Rattle.sk_table.proofs.Listing.{row_lists}
use Rattle.sk_table.proofs.slot_store.SlotStore.children.Goals as goal

pub returns : goal.returns
returns c =
    let old = c.self.inside in
    c.slice_of.ensures.pairs
    ∙ row_lists (λ p. p.links.parent) (procs_of old) old.index.children c.args.parent c.slice_of.ensures.rising c.self.invariant.beside.by_parent
    ∙ ap (λ (s : Slotted). children_of s.world c.args.parent) c.self.view_is
