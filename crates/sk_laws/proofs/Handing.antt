-- What becomes of the children of a process that ends, and of itself.
use Rattle.std.proofs.Common.{◌≡◌, ◌≢◌, ◌∙◌, ◌==◌, ℕ, ap, sym, refl, Bool, true, false, cond, not, ◌&&◌, inl, inr, IsTrue, Option, None, Some}
use Rattle.sk_laws.specs.Common.{is_some, option_map, option_and_then, SIGCHLD, SIGCONT, is_handler, is_ignored, is_ignore, SignalState, disposition_of, left_pending, generated, INIT, Running, Continued, Body, Proc, World, at, has_ended, has_stopped, is_stopped, is_alive, parent_of, stored, body_changed, changed, continued, signalled, generated_at, sent, new_parent, ignores_children, handed_on, with_children_handed_on, has_zombie_child, reparented, zombie, left_to_parent}
use Rattle.sk_world.proofs.Common.{false≢true, eq-eqb, not-true, cond_both}
use Rattle.sk_world.specs.Sets as set
use Rattle.sk_laws.specs.ChangeLaws.{EndHandsChildrenOn, EndLeavesZombie}
use Rattle.sk_world.proofs.Stored.{everywhere, at_here}
use Rattle.sk_world.proofs.Ancestors.{new_parent_other}
use Rattle.sk_world.proofs.KeptEnd.{handed_cases, handed_at, ended_later}
use Rattle.sk_laws.proofs.Locality.{sent_touches, sigchld_only, reparented_touches, left_touches, parent_reparented}

-- a child is handed on
handed_child : (pid parent : ℕ) (removes : Bool) (p : Proc) → p.links.parent ≡ pid
    → handed_on pid parent removes p ≡ cond (removes && has_ended p.body.life) None (Some (record p { links = record p.links { parent = parent } }))
handed_child pid parent removes p is =
    ap (λ b. cond (not b) (Some p) (cond (removes && has_ended p.body.life) None (Some (record p { links = record p.links { parent = parent } })))) (eq-eqb p.links.parent pid is)

reparented_child : (w : World) (pid q : ℕ) (p : Proc) → q ≢ new_parent w pid → at w q ≡ Some p → p.links.parent ≡ pid
    → at (reparented w pid) q ≡ cond (ignores_children (at w (new_parent w pid)) && has_ended p.body.life) None (Some (record p { links = record p.links { parent = new_parent w pid } }))
reparented_child w pid q p ne is child =
    let parent : ℕ = new_parent w pid in
    let handed : World = with_children_handed_on w pid in
    let removes : Bool = ignores_children (at w parent) in
    let same : at handed q ≡ cond (removes && has_ended p.body.life) None (Some (record p { links = record p.links { parent = parent } })) =
    handed_at w pid q ∙ ap (option_and_then (handed_on pid parent removes)) is ∙ handed_child pid parent removes p child in
    cond_both (has_zombie_child w pid && not removes) (sent handed parent SIGCHLD) handed
    (λ v. at v q ≡ cond (removes && has_ended p.body.life) None (Some (record p { links = record p.links { parent = parent } })))
    (λ _. sent_touches handed parent SIGCHLD q ne sigchld_only ∙ same) (λ _. same)

pub children_handed_on : EndHandsChildrenOn
children_handed_on w pid status q p alive ne is child other not_new not_parent =
    let apart : q ≢ parent_of (at (reparented w pid) pid) = λ e. elim (parent_reparented w pid alive) [ inl is ↦ not_parent (e ∙ is) | inr is ↦ not_new (e ∙ is) ] in
    ap (λ v. at v q) (ended_later w pid status ne) ∙ left_touches (reparented w pid) pid status q other apart ∙ reparented_child w pid q p not_new is child

-- a signal changes no disposition
generated_keeps : (n : ℕ) (init : Bool) (s : SignalState) → (generated n init s).dispositions ≡ s.dispositions
generated_keeps n init s =
    let dropped : SignalState = record s { pending = left_pending n s.pending } in
    let pends : SignalState = record s { pending = set.insert (left_pending n s.pending) n } in
    let drops : Bool = is_ignored n init (disposition_of s n) && not (set.contains s.mask n) in
    cond_both (init && not (is_handler (disposition_of s n))) s (cond drops dropped pends) (λ x. x.dispositions ≡ s.dispositions) (λ _. refl)
    (λ _. cond_both drops dropped pends (λ x. x.dispositions ≡ s.dispositions) (λ _. refl) (λ _. refl))

signalled_keeps : (n : ℕ) (init : Bool) (body : Body) → (signalled n init body).signals.dispositions ≡ body.signals.dispositions
signalled_keeps n init body =
    let after : Body = record body { signals = generated n init body.signals } in
    let same : after.signals.dispositions ≡ body.signals.dispositions = generated_keeps n init body.signals in
    cond_both (has_ended body.life) body (cond (n == SIGCONT) (continued after) after) (λ x. x.signals.dispositions ≡ body.signals.dispositions) (λ _. refl)
    (λ _. cond_both (n == SIGCONT) (continued after) after (λ x. x.signals.dispositions ≡ body.signals.dispositions)
    (λ _. cond_both (has_stopped body.life) (record after { life = Running; note = Continued }) after (λ x. x.signals.dispositions ≡ body.signals.dispositions) (λ _. same) (λ _. same))
    (λ _. same))

ignoring : (n : ℕ) (init : Bool) (o : Option Proc) → ignores_children (option_map (body_changed (signalled n init)) o) ≡ ignores_children o
ignoring n init None = refl
ignoring n init (Some p) = ap (λ all. is_ignore (disposition_of (record p.body.signals { dispositions = all }) SIGCHLD)) (signalled_keeps n init p.body)

generated_ignores : (w : World) (k n q : ℕ) → ignores_children (at (generated_at w k n) q) ≡ ignores_children (at w q)
generated_ignores w k n =
    everywhere w k (option_map (body_changed (signalled n (k == INIT))) (at w k)) (λ q x. ignores_children x ≡ ignores_children (at w q)) (ignoring n (k == INIT) (at w k)) (λ q ne. refl)

sent_ignores : (w : World) (k n q : ℕ) → ignores_children (at (sent w k n) q) ≡ ignores_children (at w q)
sent_ignores w k n q =
    cond_both ((n == SIGCONT) && is_stopped (at w k)) (generated_at (generated_at w k n) (parent_of (at w k)) SIGCHLD) (generated_at w k n) (λ v. ignores_children (at v q) ≡ ignores_children (at w q))
    (λ _. generated_ignores (generated_at w k n) (parent_of (at w k)) SIGCHLD q ∙ generated_ignores w k n q) (λ _. generated_ignores w k n q)

handed_ignores : (pid parent : ℕ) (removes : Bool) (o : Option Proc) → IsTrue (is_alive o) → ignores_children (option_and_then (handed_on pid parent removes) o) ≡ ignores_children o
handed_ignores pid parent removes None alive = refl
handed_ignores pid parent removes (Some p) alive =
    handed_cases pid parent removes p (λ x. ignores_children x ≡ ignores_children (Some p)) (λ _. refl)
    (λ _ ended. absurd (false≢true (sym (not-true (has_ended p.body.life) alive) ∙ ended))) (λ _. refl)

reparented_ignores : (w : World) (pid k : ℕ) → IsTrue (is_alive (at w k)) → ignores_children (at (reparented w pid) k) ≡ ignores_children (at w k)
reparented_ignores w pid k alive =
    let parent : ℕ = new_parent w pid in
    let handed : World = with_children_handed_on w pid in
    let same : ignores_children (at handed k) ≡ ignores_children (at w k) = ap ignores_children (handed_at w pid k) ∙ handed_ignores pid parent (ignores_children (at w parent)) (at w k) alive in
    cond_both (has_zombie_child w pid && not (ignores_children (at w parent))) (sent handed parent SIGCHLD) handed (λ v. ignores_children (at v k) ≡ ignores_children (at w k))
    (λ _. sent_ignores handed parent SIGCHLD k ∙ same) (λ _. same)

-- a process without children, and which is not its own parent, ends
left_leaves : (w : World) (pid status : ℕ) (p : Proc) → at w pid ≡ Some p → p.links.parent ≢ pid
    → at (left_to_parent w pid status) pid ≡ cond (ignores_children (at w p.links.parent)) None (Some (record p { body = zombie status p.body }))
left_leaves w pid status p is ne =
    let parent : ℕ = p.links.parent in
    let by : ℕ → World = λ k. cond (ignores_children (at w k)) (stored w pid None) (sent (changed w pid (zombie status)) k SIGCHLD) in
    let left : Option Proc = Some (record p { body = zombie status p.body }) in
    ap (λ k. at (by k) pid) (ap parent_of is)
    ∙ elim (ignores_children (at w parent)) as (λ b. at (cond b (stored w pid None) (sent (changed w pid (zombie status)) parent SIGCHLD)) pid ≡ cond b None left) [
      | true ↦ at_here w pid None
      | false ↦
          sent_touches (changed w pid (zombie status)) parent SIGCHLD pid (λ e. ne (sym e)) sigchld_only
          ∙ at_here w pid (option_map (body_changed (zombie status)) (at w pid))
          ∙ ap (option_map (body_changed (zombie status))) is
    ]

pub zombie_left : EndLeavesZombie
zombie_left w pid status p rules going ne is alive own =
    let here : at (reparented w pid) pid ≡ Some p = reparented_touches w pid pid (λ e. new_parent_other w pid ne (sym e)) (λ e. own (sym (ap parent_of is) ∙ e)) ∙ is in
    let parent_alive : IsTrue (is_alive (at w p.links.parent)) = ap (λ k. is_alive (at w k)) (sym (ap parent_of is)) ∙ rules.parents going pid ne (ap is_some is) in
    ap (λ v. at v pid) (ended_later w pid status ne)
    ∙ left_leaves (reparented w pid) pid status p here own
    ∙ ap (λ b. cond b None (Some (record p { body = zombie status p.body }))) (reparented_ignores w pid p.links.parent parent_alive)
