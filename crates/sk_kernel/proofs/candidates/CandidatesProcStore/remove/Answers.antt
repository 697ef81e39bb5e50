use Rattle.std.proofs.Common.{sym, subst, None}
use Rattle.sk_kernel.proofs.Common.{stored, OthersAreThere, IsNoted, Notes}
use Rattle.sk_kernel.proofs.Changing.{noted_removed}
use Rattle.sk_kernel.proofs.candidates.CandidatesProcStore.remove.Goals as goal

pub invariant_of-self : goal.invariant_of-self
invariant_of-self g c =
    let w = g.S.ProcStore.contents c.self.inside.store in
    let pid = c.args.pid in
    let same = c.parent_of-parent.ensures in
    subst (λ v. IsNoted v c.forget.new.noted c.parent_of-parent.result) (sym c.remove.ensures.rest)
    (subst (IsNoted (stored w pid None) c.forget.new.noted) (sym same)
    (noted_removed w c.self.invariant.nobody c.update.new.noted c.update.ensures.blocked c.note.new.noted c.forget.new.noted pid
    (subst (OthersAreThere w c.update.new.noted) same c.update.ensures.there)
    (subst (λ k. Notes k c.update.new.noted c.note.new.noted) same c.note.ensures)
    c.forget.ensures))
