use Rattle.std.proofs.Common.{◌≡◌, sym, subst, None}
use Rattle.sk_kernel.proofs.Common.{at, with_links, IsNoted, LooksAt}
use Rattle.sk_kernel.proofs.Changing.{nobody_relinked, noted_relinked}
use Rattle.sk_kernel.proofs.candidates.CandidatesProcStore.relink.Goals as goal

pub look_at-requires : goal.look_at-requires
look_at-requires g c =
    record {
      nobody =
          subst (λ v. at v 0 ≡ None) (sym c.relink-is_there.ensures.links)
          (nobody_relinked (g.S.ProcStore.contents c.self.inside.store) c.args.pid c.args.links c.self.invariant.nobody);
    }

pub invariant_of-self : goal.invariant_of-self
invariant_of-self g c =
    let w = g.S.ProcStore.contents c.self.inside.store in
    let links = c.args.links in
    let pid = c.args.pid in
    subst (λ v. IsNoted v c.look_at.new.noted links.parent) (sym c.relink-is_there.ensures.links)
    (noted_relinked w c.self.invariant.nobody c.update.new.noted c.update.ensures.blocked c.note.new.noted c.look_at.new.noted pid links
    c.update.ensures.there c.note.ensures
    (subst (λ k. LooksAt (with_links w pid links) k c.note.new.noted c.look_at.new.noted) c.parent_of-former.ensures
    (subst (λ v. LooksAt v c.parent_of-former.result c.note.new.noted c.look_at.new.noted) c.relink-is_there.ensures.links c.look_at.ensures)))
