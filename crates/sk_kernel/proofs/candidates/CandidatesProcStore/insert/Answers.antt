use Rattle.std.proofs.Common.{◌≡◌, ◌∙◌, ap, sym, subst, None}
use Rattle.sk_kernel.proofs.Common.{at, IsNoted, LooksAt}
use Rattle.sk_kernel.proofs.Changing.{nobody_inserted, noted_inserted}
use Rattle.sk_kernel.proofs.candidates.CandidatesProcStore.insert.Goals as goal

pub look_at-requires : goal.look_at-requires
look_at-requires g c =
    record {
      nobody =
          subst (λ v. at v 0 ≡ None) (sym c.insert.ensures.inserted)
          (nobody_inserted (g.S.ProcStore.contents c.self.inside.store) c.args.pid c.args.proc c.self.invariant.nobody c.requires.pid.0);
    }

pub invariant_of-self : goal.invariant_of-self
invariant_of-self g c =
    let w = g.S.ProcStore.contents c.self.inside.store in
    let pid = c.args.pid in
    let proc = c.args.proc in
    subst (λ v. IsNoted v c.look_at.new.noted pid) (sym c.insert.ensures.inserted)
    (noted_inserted w c.self.invariant.nobody c.update.new.noted c.update.ensures.blocked c.note.new.noted c.look_at.new.noted pid proc
    (ap (λ v. at v pid) c.self.view_is ∙ c.requires.free) c.requires.pid.0 c.update.ensures.there c.note.ensures
    (subst (λ v. LooksAt v proc.links.parent c.note.new.noted c.look_at.new.noted) c.insert.ensures.inserted c.look_at.ensures))
