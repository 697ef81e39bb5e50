use Rattle.std.proofs.Common.{◌≡◌, ◌∙◌, ◌≤◌, IsFalse, None, ap, refl, subst, sym}
use Rattle.sk_table.proofs.Common.{LAST_PID, is_used, fresh_of, at, fresh_unused, fresh_absent, fresh_in_range, Slotted, slotted_of}
use Rattle.sk_table.proofs.Freely.{fresh_is, used_is}
use Rattle.sk_table.proofs.slot_store.SlotStoreProcStore.fresh.Goals as goal

pub returns-clause-fresh : goal.returns-clause-fresh
returns-clause-fresh c =
    let w = (slotted_of c.self.inside).world in
    c.first_free.ensures ∙ fresh_is _ w _ refl (used_is w _ c.self.invariant.beside.uses) ∙ ap (λ (s : Slotted). fresh_of s.world) c.self.view_is

given : (s s' : Slotted) → s ≡ s' → 1 ≤ s.world.last → 1 ≤ s'.world.last
given s s' = subst (λ (s : Slotted). 1 ≤ s.world.last)

pub returns-clause-free : goal.returns-clause-free
returns-clause-free c room =
    let w = c.args.self.now.world in
    subst (λ n. IsFalse (is_used w n)) (sym (returns-clause-fresh c)) (fresh_unused w room (given _ _ c.self.view_is c.self.invariant.given))

pub returns-clause-absent : goal.returns-clause-absent
returns-clause-absent c room =
    let w = c.args.self.now.world in
    subst (λ n. at w n ≡ None) (sym (returns-clause-fresh c)) (fresh_absent w room (given _ _ c.self.view_is c.self.invariant.given))

pub returns-clause-fits : goal.returns-clause-fits
returns-clause-fits c =
    let w = c.args.self.now.world in
    subst (λ n. (2 ≤ n) × (n ≤ LAST_PID)) (sym (returns-clause-fresh c)) (fresh_in_range w (given _ _ c.self.view_is c.self.invariant.given))
