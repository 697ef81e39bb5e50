-- Whom a change of the world touches, and what a signal leaves of every process.
use Rattle.std.proofs.Common.{◌≡◌, ◌≢◌, ◌∙◌, ◌==◌, ℕ, arith, ap, sym, refl, subst, Bool, true, false, cond, not, ◌&&◌, ◌⊎◌, inl, inr, IsTrue, Option, None, Some}
use Rattle.sk_laws.specs.Common.{is_some, option_map, option_map_or, option_and_then, SIGCHLD, SIGCONT, generated, sigsys_forced, INIT, Life, Running, Stopped, Zombie, Note, Continued, Body, Proc, World, at, has_ended, has_stopped, is_stopped, is_zombie, is_alive, parent_of, stored, body_changed, changed, inserted, fresh_of, continued, signalled, generated_at, sent, has_room, child_of, new_parent, ignores_children, handed_on, with_children_handed_on, has_zombie_child, reparented, zombie, left_to_parent, without_note}
use Rattle.sk_world.proofs.Common.{false≢true, eqb-true, and_parts, cond_both, cond-false}
use Rattle.sk_world.proofs.SignalLaws.{generated_twice, settled_by_chld}
use Rattle.sk_laws.specs.ChangeLaws.{SignalIsNotQueued, SignalTouches, ForceTouches, without_signals, unsignalled, SignalKeepsAllElse, ForceKeepsAllElse, TellingTouches, ForkTouches, EndTouches, EndLeavesNoOrphan, ForkGivesChild}
use Rattle.sk_world.proofs.Stored.{everywhere, at_here, at_other, changed_twice}
use Rattle.sk_world.proofs.Bodies.{kept_at}
use Rattle.sk_world.proofs.KeptEnd.{IsAlone, alone_changed, alone_sent, alone_reparented, handed_cases, handed_at, handed_alive, handed_parent, alive_is_there}

settled : (f : Body → Body) → ((body : Body) → f (f body) ≡ f body) → (o : Option Proc) → option_map (body_changed f) (option_map (body_changed f) o) ≡ option_map (body_changed f) o
settled f twice None = refl
settled f twice (Some p) = ap (λ body. Some (record p { body = body })) (twice p.body)

changed_once : (w : World) (pid : ℕ) (f : Body → Body) → ((body : Body) → f (f body) ≡ f body) → changed (changed w pid f) pid f ≡ changed w pid f
changed_once w pid f twice = changed_twice w pid f f ∙ λ i. changed w pid (λ body. twice body i)

-- what `signalled` does, by whether the signal is SIGCONT
as_tested : ℕ → Bool → Bool → Body → Body
as_tested n init cont b =
    cond (has_ended b.life) b (cond cont (continued (record b { signals = generated n init b.signals })) (record b { signals = generated n init b.signals }))

-- a signal that is generated again changes nothing: SIGCONT has continued the process already
signalled_twice : (n : ℕ) (init : Bool) (body : Body) → signalled n init (signalled n init body) ≡ signalled n init body
unfolding as_tested
signalled_twice n init body = by_life body.life
  where
    again : (life : Life) (note : Note)
        → record body { life = life; note = note; signals = generated n init (generated n init body.signals) }
        ≡ record body { life = life; note = note; signals = generated n init body.signals }
    again life note = ap (λ s. record body { life = life; note = note; signals = s }) (generated_twice n init body.signals)

    by_life : (life : Life) → signalled n init (signalled n init (record body { life = life })) ≡ signalled n init (record body { life = life })
    by_life (Zombie status) = refl
    by_life Running = elim (n == SIGCONT) as (λ cont. as_tested n init cont (as_tested n init cont (record body { life = Running })) ≡ as_tested n init cont (record body { life = Running })) [
      | true ↦ again Running body.note
      | false ↦ again Running body.note
    ]
    by_life Stopped = elim (n == SIGCONT) as (λ cont. as_tested n init cont (as_tested n init cont (record body { life = Stopped })) ≡ as_tested n init cont (record body { life = Stopped })) [
      | true ↦ again Running Continued
      | false ↦ again Stopped body.note
    ]

generated_at_twice : (w : World) (pid n : ℕ) → generated_at (generated_at w pid n) pid n ≡ generated_at w pid n
generated_at_twice w pid n = changed_once w pid (signalled n (pid == INIT)) (signalled_twice n (pid == INIT))

-- nobody is stopped once SIGCONT is generated for it
none_stopped : (init : Bool) (o : Option Proc) → is_stopped (option_map (body_changed (signalled SIGCONT init)) o) ≡ false
none_stopped init None = refl
none_stopped init (Some p) = by_life p.body.life
  where
    by_life : (life : Life) → has_stopped (signalled SIGCONT init (record p.body { life = life })).life ≡ false
    by_life (Zombie status) = refl
    by_life Running = refl
    by_life Stopped = refl

-- nor does SIGCHLD stop anybody
still_unstopped : (init : Bool) (o : Option Proc) → is_stopped o ≡ false → is_stopped (option_map (body_changed (signalled SIGCHLD init)) o) ≡ false
still_unstopped init None running = refl
still_unstopped init (Some p) running =
    cond_both (has_ended p.body.life) p.body (record p.body { signals = generated SIGCHLD init p.body.signals }) (λ b. has_stopped b.life ≡ false) (λ _. running) (λ _. running)

with_life : Proc → Life → Proc
with_life p life = record p { body = record p.body { life = life } }

-- SIGCONT has nothing left to do for a process that SIGCHLD is generated for
settled_again : (init : Bool) (o : Option Proc) → is_stopped o ≡ false → option_map (body_changed (signalled SIGCONT init)) o ≡ o
    → option_map (body_changed (signalled SIGCONT init)) (option_map (body_changed (signalled SIGCHLD init)) o) ≡ option_map (body_changed (signalled SIGCHLD init)) o
unfolding with_life
settled_again init None running is = refl
settled_again init (Some p) running is = by_life p.body.life running (ap (λ o. option_map_or (λ (q : Proc). q.body.signals) o p.body.signals) is)
  where
    by_life : (life : Life) → has_stopped life ≡ false → (signalled SIGCONT init (with_life p life).body).signals ≡ p.body.signals
        → Some (body_changed (signalled SIGCONT init) (body_changed (signalled SIGCHLD init) (with_life p life))) ≡ Some (body_changed (signalled SIGCHLD init) (with_life p life))
    by_life (Zombie status) running is = refl
    by_life Running running is = ap (λ s. Some (record p { body = record p.body { life = Running; signals = s } })) (settled_by_chld init p.body.signals is)
    by_life Stopped running is = absurd (false≢true (sym running))

-- what SIGCHLD is generated for is as it was, or has it
told_at : (w : World) (pid parent : ℕ) (P : Option Proc → Type 0) → P (at w pid) → P (option_map (body_changed (signalled SIGCHLD (pid == INIT))) (at w pid)) → P (at (generated_at w parent SIGCHLD) pid)
told_at w pid parent P same told =
    everywhere w parent (option_map (body_changed (signalled SIGCHLD (parent == INIT))) (at w parent)) (λ k x. k ≡ pid → P x)
    (λ is. subst (λ k. P (option_map (body_changed (signalled SIGCHLD (k == INIT))) (at w k))) (sym is) told)
    (λ k _ is. subst (λ k. P (at w k)) (sym is) same) pid refl

-- what is sent to one who is not stopped is only generated
sent_once : (w : World) (pid n : ℕ) → ((n == SIGCONT) && is_stopped (at w pid)) ≡ false → sent w pid n ≡ generated_at w pid n
sent_once w pid n running = cond-false ((n == SIGCONT) && is_stopped (at w pid)) _ (generated_at w pid n) running

-- one whom SIGCONT has continued, while its parent was told
continued_again : (w : World) (pid parent : ℕ) → sent (generated_at (generated_at w pid SIGCONT) parent SIGCHLD) pid SIGCONT ≡ generated_at (generated_at w pid SIGCONT) parent SIGCHLD
continued_again w pid parent =
    let cont : Body → Body = signalled SIGCONT (pid == INIT) in
    let once : World = generated_at w pid SIGCONT in
    let told : World = generated_at once parent SIGCHLD in
    let here : at once pid ≡ option_map (body_changed cont) (at w pid) = at_here w pid (option_map (body_changed cont) (at w pid)) in
    let was_running : is_stopped (at once pid) ≡ false = ap is_stopped here ∙ none_stopped (pid == INIT) (at w pid) in
    let was_settled : option_map (body_changed cont) (at once pid) ≡ at once pid =
    ap (option_map (body_changed cont)) here ∙ settled cont (signalled_twice SIGCONT (pid == INIT)) (at w pid) ∙ sym here in
    let running : is_stopped (at told pid) ≡ false = told_at once pid parent (λ x. is_stopped x ≡ false) was_running (still_unstopped (pid == INIT) (at once pid) was_running) in
    let is_settled : option_map (body_changed cont) (at told pid) ≡ at told pid =
    told_at once pid parent (λ x. option_map (body_changed cont) x ≡ x) was_settled (settled_again (pid == INIT) (at once pid) was_running was_settled) in
    sent_once told pid SIGCONT running ∙ kept_at told pid (option_map (body_changed cont) (at told pid)) (sym is_settled)

-- nobody continues twice
sent_generated : (w : World) (pid n : ℕ) → sent (generated_at w pid n) pid n ≡ generated_at w pid n
sent_generated w pid n = sent_once (generated_at w pid n) pid n (by_signal (n == SIGCONT) refl) ∙ generated_at_twice w pid n
  where
    by_signal : (cont : Bool) → (n == SIGCONT) ≡ cont → (cont && is_stopped (at (generated_at w pid n) pid)) ≡ false
    by_signal false is = refl
    by_signal true is =
        ap is_stopped (at_here w pid (option_map (body_changed (signalled n (pid == INIT))) (at w pid)))
        ∙ ap (λ k. is_stopped (option_map (body_changed (signalled k (pid == INIT))) (at w pid))) (eqb-true n SIGCONT is)
        ∙ none_stopped (pid == INIT) (at w pid)

pub not_queued : SignalIsNotQueued
not_queued w pid n =
    let parent : ℕ = parent_of (at w pid) in
    elim ((n == SIGCONT) && is_stopped (at w pid)) as (λ b. ((n == SIGCONT) && is_stopped (at w pid)) ≡ b
    → sent (cond b (generated_at (generated_at w pid n) parent SIGCHLD) (generated_at w pid n)) pid n ≡ cond b (generated_at (generated_at w pid n) parent SIGCHLD) (generated_at w pid n)) [
      | true ↦ λ is.
          subst (λ k. sent (generated_at (generated_at w pid k) parent SIGCHLD) pid k ≡ generated_at (generated_at w pid k) parent SIGCHLD)
          (sym (eqb-true n SIGCONT (and_parts (n == SIGCONT) (is_stopped (at w pid)) is).0)) (continued_again w pid parent)
      | false ↦ λ _. sent_generated w pid n
    ] refl

pub sent_touches : SignalTouches
sent_touches w pid n q ne not_parent =
    let once : at (generated_at w pid n) q ≡ at w q = at_other w pid _ q ne in
    cond_both ((n == SIGCONT) && is_stopped (at w pid)) (generated_at (generated_at w pid n) (parent_of (at w pid)) SIGCHLD) (generated_at w pid n) (λ v. at v q ≡ at w q)
    (λ cont. at_other (generated_at w pid n) (parent_of (at w pid)) _ q (not_parent (eqb-true n SIGCONT (and_parts (n == SIGCONT) (is_stopped (at w pid)) cont).0)) ∙ once)
    (λ _. once)

pub forced_touches : ForceTouches
forced_touches w pid q ne = at_other w pid _ q ne

-- all but its signals, its life and its note
signalled_leaves : (n : ℕ) (init : Bool) (p : Proc) → unsignalled (body_changed (signalled n init) p) ≡ unsignalled p
signalled_leaves n init p =
    let after : Body = record p.body { signals = generated n init p.body.signals } in
    let Same : Body → Type 0 = λ body. unsignalled (record p { body = body }) ≡ unsignalled p in
    cond_both (has_ended p.body.life) p.body (cond (n == SIGCONT) (continued after) after) Same (λ _. refl)
    (λ _. cond_both (n == SIGCONT) (continued after) after Same
    (λ _. cond_both (has_stopped p.body.life) (record after { life = Running; note = Continued }) after Same (λ _. refl) (λ _. refl))
    (λ _. refl))

-- a change of a body that a view of processes does not show
changed_leaves : (view : Proc → Proc) (f : Body → Body) → ((p : Proc) → view (body_changed f p) ≡ view p)
    → (w : World) (pid q : ℕ) → option_map view (at (changed w pid f) q) ≡ option_map view (at w q)
changed_leaves view f same w pid = everywhere w pid (option_map (body_changed f) (at w pid)) (λ q x. option_map view x ≡ option_map view (at w q)) (here (at w pid)) (λ q ne. refl)
  where
    here : (o : Option Proc) → option_map view (option_map (body_changed f) o) ≡ option_map view o
    here None = refl
    here (Some p) = ap Some (same p)

generated_leaves : (w : World) (pid n q : ℕ) → option_map unsignalled (at (generated_at w pid n) q) ≡ option_map unsignalled (at w q)
generated_leaves w pid n = changed_leaves unsignalled (signalled n (pid == INIT)) (signalled_leaves n (pid == INIT)) w pid

pub sent_leaves : SignalKeepsAllElse
sent_leaves w pid n q =
    cond_both ((n == SIGCONT) && is_stopped (at w pid)) (generated_at (generated_at w pid n) (parent_of (at w pid)) SIGCHLD) (generated_at w pid n)
    (λ v. option_map unsignalled (at v q) ≡ option_map unsignalled (at w q))
    (λ _. generated_leaves (generated_at w pid n) (parent_of (at w pid)) SIGCHLD q ∙ generated_leaves w pid n q)
    (λ _. generated_leaves w pid n q)

pub forced_leaves : ForceKeepsAllElse
forced_leaves w pid = changed_leaves without_signals (λ body. record body { signals = sigsys_forced body.signals }) (λ p. refl) w pid

pub told_touches : TellingTouches
told_touches w pid status q ne =
    cond_both (is_zombie (at w pid)) (stored w pid None) (changed w pid without_note) (λ v. at v q ≡ at w q) (λ _. at_other w pid None q ne) (λ _. at_other w pid _ q ne)

inserted_touches : (w : World) (caller q : ℕ) (o : Option Proc) → q ≢ fresh_of w → at (option_map_or (λ p. inserted w (fresh_of w) (child_of caller p)) o w) q ≡ at w q
inserted_touches w caller q None ne = refl
inserted_touches w caller q (Some p) ne = at_other w (fresh_of w) (Some (child_of caller p)) q ne

pub forked_touches : ForkTouches
forked_touches w caller q ne =
    cond_both (has_room w) (option_map_or (λ p. inserted w (fresh_of w) (child_of caller p)) (at w caller) w) w (λ v. at v q ≡ at w q)
    (λ _. inserted_touches w caller q (at w caller) ne) (λ _. refl)

pub forked_child : ForkGivesChild
forked_child w caller p there room =
    ap (λ b. at (cond b (option_map_or (λ p. inserted w (fresh_of w) (child_of caller p)) (at w caller) w) w) (fresh_of w)) room
    ∙ ap (λ o. at (option_map_or (λ p. inserted w (fresh_of w) (child_of caller p)) o w) (fresh_of w)) there
    ∙ at_here w (fresh_of w) (Some (child_of caller p))

-- ends
pub sigchld_only : {A : Type 0} → SIGCHLD ≡ SIGCONT → A
sigchld_only is = absurd (omega arith)

stays : (dying parent : ℕ) (removes : Bool) (o : Option Proc) → parent_of o ≢ dying → option_and_then (handed_on dying parent removes) o ≡ o
stays dying parent removes None other = refl
stays dying parent removes (Some p) other = handed_cases dying parent removes p (λ x. x ≡ Some p) (λ _. refl) (λ is _. absurd (other is)) (λ is. absurd (other is))

pub reparented_touches : (w : World) (pid q : ℕ) → q ≢ new_parent w pid → parent_of (at w q) ≢ pid → at (reparented w pid) q ≡ at w q
reparented_touches w pid q ne other =
    let parent : ℕ = new_parent w pid in
    let handed : World = with_children_handed_on w pid in
    let same : at handed q ≡ at w q = handed_at w pid q ∙ stays pid parent (ignores_children (at w parent)) (at w q) other in
    cond_both (has_zombie_child w pid && not (ignores_children (at w parent))) (sent handed parent SIGCHLD) handed (λ v. at v q ≡ at w q)
    (λ _. sent_touches handed parent SIGCHLD q ne sigchld_only ∙ same) (λ _. same)

pub left_touches : (w : World) (pid status q : ℕ) → q ≢ pid → q ≢ parent_of (at w pid) → at (left_to_parent w pid status) q ≡ at w q
left_touches w pid status q ne not_parent =
    let parent : ℕ = parent_of (at w pid) in
    cond_both (ignores_children (at w parent)) (stored w pid None) (sent (changed w pid (zombie status)) parent SIGCHLD) (λ v. at v q ≡ at w q)
    (λ _. at_other w pid None q ne)
    (λ _. sent_touches (changed w pid (zombie status)) parent SIGCHLD q not_parent sigchld_only ∙ at_other w pid _ q ne)

-- the parent of the process that ends, once its children are handed on: it may have been its own
parent_is : (o : Option Proc) → parent_of o ≡ parent_of (option_map unsignalled o)
parent_is None = refl
parent_is (Some p) = refl

looks_sent : (w : World) (k n q : ℕ) → parent_of (at (sent w k n) q) ≡ parent_of (at w q)
looks_sent w k n q = parent_is (at (sent w k n) q) ∙ ap parent_of (sent_leaves w k n q) ∙ sym (parent_is (at w q))

pub parent_reparented : (w : World) (pid : ℕ) → IsTrue (is_alive (at w pid)) → (parent_of (at (reparented w pid) pid) ≡ parent_of (at w pid)) ⊎ (parent_of (at (reparented w pid) pid) ≡ new_parent w pid)
parent_reparented w pid alive =
    let parent : ℕ = new_parent w pid in
    let handed : World = with_children_handed_on w pid in
    let removes : Bool = ignores_children (at w parent) in
    let there : IsTrue (is_some (option_and_then (handed_on pid parent removes) (at w pid))) = alive_is_there _ (handed_alive pid parent removes (at w pid) alive) in
    let same : parent_of (at (reparented w pid) pid) ≡ parent_of (option_and_then (handed_on pid parent removes) (at w pid)) =
    cond_both (has_zombie_child w pid && not removes) (sent handed parent SIGCHLD) handed (λ v. parent_of (at v pid) ≡ parent_of (option_and_then (handed_on pid parent removes) (at w pid)))
    (λ _. looks_sent handed parent SIGCHLD pid ∙ ap parent_of (handed_at w pid pid)) (λ _. ap parent_of (handed_at w pid pid)) in
    elim (handed_parent pid parent removes (at w pid) there) [ inl is ↦ inl (same ∙ is) | inr is ↦ inr (same ∙ is) ]

pub ended_touches : EndTouches
ended_touches w pid status q alive ne not_new not_parent not_child =
    cond_both (pid == INIT) (changed w INIT _) (left_to_parent (reparented w pid) pid status) (λ v. at v q ≡ at w q)
    (λ is. at_other w INIT _ q (λ e. ne (e ∙ sym (eqb-true pid INIT is))))
    (λ _.
    let apart : q ≢ parent_of (at (reparented w pid) pid) = λ e. elim (parent_reparented w pid alive) [ inl is ↦ not_parent (e ∙ is) | inr is ↦ not_new (e ∙ is) ] in
    left_touches (reparented w pid) pid status q ne apart ∙ reparented_touches w pid q not_new not_child)

-- nobody is left with the dead parent
alone_left : (w : World) (pid status : ℕ) → IsAlone w pid → IsAlone (left_to_parent w pid status) pid
unfolding IsAlone
alone_left w pid status alone =
    let parent : ℕ = parent_of (at w pid) in
    cond_both (ignores_children (at w parent)) (stored w pid None) (sent (changed w pid (zombie status)) parent SIGCHLD) (λ v. IsAlone v pid)
    (λ _. everywhere w pid None (λ k x. IsTrue (is_some x) → parent_of x ≢ pid) (λ there. absurd (false≢true there)) (λ k _. alone k))
    (λ _. alone_sent (changed w pid (zombie status)) parent SIGCHLD pid (alone_changed w pid (zombie status) pid alone))

pub no_orphan : EndLeavesNoOrphan
unfolding IsAlone
no_orphan w pid status q ne =
    cond_both (pid == INIT) (changed w INIT _) (left_to_parent (reparented w pid) pid status) (λ v. IsTrue (is_some (at v q)) → parent_of (at v q) ≢ pid)
    (λ is. absurd (ne (eqb-true pid INIT is)))
    (λ _. alone_left (reparented w pid) pid status (alone_reparented w pid ne) q)
