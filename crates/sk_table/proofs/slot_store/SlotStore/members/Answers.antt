use Rattle.std.proofs.Common.{◌∙◌, ap}
use Rattle.sk_table.proofs.Common.{Slotted, members_of, procs_of}
use Rattle.sk_table.proofs.Listing.{row_lists}
use Rattle.sk_table.proofs.slot_store.SlotStore.members.Goals as goal

pub returns : goal.returns
returns c =
    let old = c.self.inside in
    c.slice_of.ensures.pairs
    ∙ row_lists (λ p. p.links.group) (procs_of old) old.index.members c.args.group c.slice_of.ensures.rising c.self.invariant.beside.by_group
    ∙ ap (λ (s : Slotted). members_of s.world c.args.group) c.self.view_is
