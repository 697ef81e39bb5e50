use Rattle.std.proofs.Common.{◌≡◌, ◌∙◌, ap, sym, subst, None, is_some}
use Rattle.sk_kernel.proofs.Common.{IsWorld, next_of}
use Rattle.sk_kernel.proofs.Passing.{passed_over, none_is_next}
use Rattle.sk_kernel.proofs.candidates.Candidates.next_runner.Goals as goal

pub returns-then-is_some-clause-pid : goal.returns-then-is_some-clause-pid
returns-then-is_some-clause-pid g c =
    let w = g.S.ProcStore.contents c.self.inside.store in
    subst (λ v. None ≡ next_of v c.args.last) c.self.view_is
    (none_is_next w (ap is_some (sym c.halted.ensures) ∙ sym c.is_some.ensures ∙ c.if-is_some.true) c.args.last)

pub next_in_turn-requires-clause-others : goal.next_in_turn-requires-clause-others
next_in_turn-requires-clause-others g c =
    let w = g.S.ProcStore.contents c.self.inside.store in
    passed_over w (subst IsWorld (sym c.self.view_is) c.requires) c.self.inside.noted c.self.inside.touched c.self.invariant.others None (λ q change. sym c.in-None.is ∙ c.waiter.ensures q change)

pub next_beside_waiter-requires-clause-others : goal.next_beside_waiter-requires-clause-others
next_beside_waiter-requires-clause-others g c =
    let w = g.S.ProcStore.contents c.self.inside.store in
    passed_over w (subst IsWorld (sym c.self.view_is) c.requires) c.self.inside.noted c.self.inside.touched c.self.invariant.others c.waiter.result c.waiter.ensures
