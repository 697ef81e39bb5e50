use Rattle.std.proofs.Common.{◌∙◌, ap, refl, sym, subst}
use Rattle.sk_kernel.proofs.Common.{at, with_body, IsNoted}
use Rattle.sk_kernel.proofs.Changing.{noted_lent}
use Rattle.sk_kernel.proofs.candidates.CandidatesProcStore.body_mut.Goals as goal

pub invariant_of-self-lent : goal.invariant_of-self-lent
invariant_of-self-lent g c body =
    let pid = c.args.pid in
    subst (λ v. IsNoted v c.note.new.noted pid) (sym (rw c.in-Some.is at (c.body_mut.follows.holds body)))
    (noted_lent (g.S.ProcStore.contents c.self.inside.store) c.self.invariant.nobody c.update.new.noted c.update.ensures.blocked c.note.new.noted pid body c.update.ensures.there c.note.ensures)

pub returns-in-Some : goal.returns-in-Some
returns-in-Some g c =
    let pid = c.args.pid in
    let there = c.in-Some.ensures.there in (
      (refl, (λ body. (rw c.in-Some.is at (c.body_mut.follows.holds body)) ∙ ap (λ v. with_body v pid body) c.self.view_is), refl),
      record {
        writes_back = tt;
        there = (there.0, ap (λ v. at v pid) (sym c.self.view_is) ∙ there.1, there.2);
        absent = tt;
      },
    )
