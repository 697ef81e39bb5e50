use Rattle.std.proofs.Common.{◌≡◌, ◌∙◌, ℕ, ap, sym, refl, subst, false, ◌&&◌, IsTrue, Option, None, Some, is_some}
use Rattle.sk_kernel.proofs.Common.{false≢true, is_child_of, is_match, status_of}
use Rattle.sk_world.proofs.Polling.{unready_up_to}
use Rattle.sk_kernel.proofs.blocked.is_still_asking.Goals as goal

nothing : (o : Option ℕ) → is_some o ≡ false → o ≡ None
nothing None is = refl
nothing (Some n) is = absurd (false≢true (sym is))

pub loop-child-preserved-else-has_status : goal.loop-child-preserved-else-has_status
loop-child-preserved-else-has_status g c =
    let w = g.S.ProcStore.contents c.args.store.now in
    let pid = c.args.pid in
    let child = c.in-Some.child in
    let there = c.in-Some-get.ensures.there in
    let is_child = subst (λ o. IsTrue (is_child_of pid o)) there c.in-Some.ensures.next.1 in
    let is_asked = sym c.is_asked_for.ensures ∙ c.if-is_asked_for.true in
    record {
      unready = unready_up_to w pid c.args.request c.loop-child.after child c.loop-child.invariant.unready c.in-Some.ensures.next.2
          (ap (status_of c.args.request.options) there ∙ nothing _ (sym c.has_status.ensures ∙ c.if-has_status.false));
      matched = λ _. (child, subst (λ o. IsTrue (is_match pid c.args.request child o)) (sym there) (λ i. is_child i && is_asked i));
    }
