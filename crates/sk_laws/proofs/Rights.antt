-- No change but a call of the process itself gives it rights, or takes them.
use Rattle.std.proofs.Common.{◌≡◌, ◌∙◌, ◌==◌, ℕ, ap, sym, refl, subst, Bool, true, false, cond, not, ◌&&◌, IsTrue, Option, None, Some}
use Rattle.sk_laws.specs.Common.{is_some, option_map, option_map_or, option_and_then, SIGCHLD, SIGCONT, generated, sigsys_forced, INIT, Running, Zombie, Continued, Body, Proc, World, at, has_ended, has_stopped, is_stopped, is_zombie, is_alive, parent_of, stored, body_changed, changed, inserted, fresh_of, continued, signalled, generated_at, sent, forked, has_room, child_of, new_parent, ignores_children, handed_on, with_children_handed_on, has_zombie_child, reparented, zombie, left_to_parent, without_note}
use Rattle.sk_world.proofs.Common.{false≢true, eq-eqb, eqb-true, and_parts, and_from, cond_both}
use Rattle.sk_laws.specs.ChangeLaws.{HasSameRights, StaysInRights, KeepsRights, SignalKeepsRights, ForceKeepsRights, ReparentKeepsRights, EndKeepsRights, TellingKeepsRights, ForkKeepsRights}
use Rattle.sk_world.proofs.Stored.{everywhere}
use Rattle.sk_world.proofs.KeptEnd.{handed_cases, handed_at}
use Rattle.sk_laws.proofs.Locality.{forked_touches, forked_child}

-- the change of a body leaves its rights
record KeepsBody (f : Body → Body) : Type 0 where
  filters : (body : Body) → (f body).chain ≡ body.chain
  creds : (body : Body) → (f body).creds ≡ body.creds

same_rights : (p : Proc) → HasSameRights p p
same_rights p = record { filters = refl; creds = refl }

pub stays : (o : Option Proc) → StaysInRights o o
stays o = λ p is. (p, is, same_rights p)

-- a process with these rights
rights_at : (now p old : Proc) → Some now ≡ Some p → HasSameRights now old → HasSameRights p old
rights_at now p old is rights = record {
  filters = sym (ap (λ o. option_map_or (λ x. x.body.chain) o now.body.chain) is) ∙ rights.filters;
  creds = sym (ap (λ o. option_map_or (λ x. x.body.creds) o now.body.creds) is) ∙ rights.creds;
}

nobody_stays : (o : Option Proc) → StaysInRights None o
nobody_stays o = λ p is. absurd (false≢true (ap is_some is))

pub kept_twice : (a b c : Option Proc) → StaysInRights b a → StaysInRights c b → StaysInRights c a
kept_twice a b c first later = λ p is.
    let middle = later p is in
    let old = first middle.0 middle.1 in
    (old.0, old.1, record { filters = middle.2.filters ∙ old.2.filters; creds = middle.2.creds ∙ old.2.creds })

body_stays : (f : Body → Body) → KeepsBody f → (o : Option Proc) → StaysInRights (option_map (body_changed f) o) o
body_stays f keeps None = nobody_stays None
body_stays f keeps (Some old) = λ p is. (old, refl, rights_at (body_changed f old) p old is (record { filters = keeps.filters old.body; creds = keeps.creds old.body }))

changed_rights : (w : World) (pid : ℕ) (f : Body → Body) → KeepsBody f → KeepsRights w (changed w pid f)
changed_rights w pid f keeps = everywhere w pid (option_map (body_changed f) (at w pid)) (λ k x. StaysInRights x (at w k)) (body_stays f keeps (at w pid)) (λ q ne. stays (at w q))

removed_rights : (w : World) (pid : ℕ) → KeepsRights w (stored w pid None)
removed_rights w pid = everywhere w pid None (λ k x. StaysInRights x (at w k)) (nobody_stays (at w pid)) (λ q ne. stays (at w q))

twice : (v w x : World) → KeepsRights v w → KeepsRights w x → KeepsRights v x
twice v w x first later = λ q. kept_twice (at v q) (at w q) (at x q) (first q) (later q)

-- signals
signalled_by : {A : Type 0} (part : Body → A) → ((body : Body) (life : _) (note : _) (signals : _) → part (record body { life = life; note = note; signals = signals }) ≡ part body)
    → (n : ℕ) (init : Bool) (body : Body) → part (signalled n init body) ≡ part body
signalled_by part same n init body =
    let after : Body = record body { signals = generated n init body.signals } in
    cond_both (has_ended body.life) body (cond (n == SIGCONT) (continued after) after) (λ x. part x ≡ part body) (λ _. refl)
    (λ _. cond_both (n == SIGCONT) (continued after) after (λ x. part x ≡ part body)
    (λ _. cond_both (has_stopped body.life) (record after { life = Running; note = Continued }) after (λ x. part x ≡ part body)
    (λ _. same body Running Continued after.signals) (λ _. same body body.life body.note after.signals))
    (λ _. same body body.life body.note after.signals))

signalled_keeps : (n : ℕ) (init : Bool) → KeepsBody (signalled n init)
signalled_keeps n init = record {
  filters = signalled_by (λ b. b.chain) (λ body life note signals. refl) n init;
  creds = signalled_by (λ b. b.creds) (λ body life note signals. refl) n init;
}

generated_rights : (w : World) (pid n : ℕ) → KeepsRights w (generated_at w pid n)
generated_rights w pid n = changed_rights w pid (signalled n (pid == INIT)) (signalled_keeps n (pid == INIT))

pub sent_rights : SignalKeepsRights
sent_rights w pid n =
    cond_both ((n == SIGCONT) && is_stopped (at w pid)) (generated_at (generated_at w pid n) (parent_of (at w pid)) SIGCHLD) (generated_at w pid n) (λ v. KeepsRights w v)
    (λ _. twice w (generated_at w pid n) (generated_at (generated_at w pid n) (parent_of (at w pid)) SIGCHLD) (generated_rights w pid n) (generated_rights (generated_at w pid n) (parent_of (at w pid)) SIGCHLD))
    (λ _. generated_rights w pid n)

pub forced_rights : ForceKeepsRights
forced_rights w pid = changed_rights w pid (λ body. record body { signals = sigsys_forced body.signals }) (record { filters = λ _. refl; creds = λ _. refl })

pub told_rights : TellingKeepsRights
told_rights w pid status =
    cond_both (is_zombie (at w pid)) (stored w pid None) (changed w pid without_note) (λ v. KeepsRights w v) (λ _. removed_rights w pid)
    (λ _. changed_rights w pid without_note (record { filters = λ _. refl; creds = λ _. refl }))

-- ends
handed_stays : (dying parent : ℕ) (removes : Bool) (o : Option Proc) → StaysInRights (option_and_then (handed_on dying parent removes) o) o
handed_stays dying parent removes None = nobody_stays None
handed_stays dying parent removes (Some p) =
    handed_cases dying parent removes p (λ x. StaysInRights x (Some p)) (λ _. stays (Some p)) (λ _ _. nobody_stays (Some p))
    (λ _ moved is. (p, refl, rights_at (record p { links = record p.links { parent = parent } }) moved p is (record { filters = refl; creds = refl })))

handed_rights : (w : World) (pid : ℕ) → KeepsRights w (with_children_handed_on w pid)
handed_rights w pid q = subst (λ x. StaysInRights x (at w q)) (sym (handed_at w pid q)) (handed_stays pid (new_parent w pid) (ignores_children (at w (new_parent w pid))) (at w q))

pub reparented_rights : ReparentKeepsRights
reparented_rights w pid =
    let parent : ℕ = new_parent w pid in
    let handed : World = with_children_handed_on w pid in
    cond_both (has_zombie_child w pid && not (ignores_children (at w parent))) (sent handed parent SIGCHLD) handed (λ v. KeepsRights w v)
    (λ _. twice w handed (sent handed parent SIGCHLD) (handed_rights w pid) (sent_rights handed parent SIGCHLD)) (λ _. handed_rights w pid)

left_rights : (w : World) (pid status : ℕ) → KeepsRights w (left_to_parent w pid status)
left_rights w pid status =
    let parent : ℕ = parent_of (at w pid) in
    let dead : World = changed w pid (zombie status) in
    cond_both (ignores_children (at w parent)) (stored w pid None) (sent dead parent SIGCHLD) (λ v. KeepsRights w v) (λ _. removed_rights w pid)
    (λ _. twice w dead (sent dead parent SIGCHLD) (changed_rights w pid (zombie status) (record { filters = λ _. refl; creds = λ _. refl })) (sent_rights dead parent SIGCHLD))

pub ended_rights : EndKeepsRights
ended_rights w pid status =
    cond_both (pid == INIT) (changed w INIT (λ body. record body { life = Zombie status })) (left_to_parent (reparented w pid) pid status) (λ v. KeepsRights w v)
    (λ _. changed_rights w INIT (λ body. record body { life = Zombie status }) (record { filters = λ _. refl; creds = λ _. refl }))
    (λ _. twice w (reparented w pid) (left_to_parent (reparented w pid) pid status) (reparented_rights w pid) (left_rights (reparented w pid) pid status))

-- forks
child_stays : (w : World) (caller : ℕ) (o : Option Proc) → at w caller ≡ o → IsTrue (is_alive o) → IsTrue (has_room w) → StaysInRights (at (forked w caller) (fresh_of w)) o
child_stays w caller None is alive room = absurd (false≢true alive)
child_stays w caller (Some old) is alive room = λ p there.
    (old, refl, rights_at (child_of caller old) p old (sym (forked_child w caller old is room) ∙ there) (record { filters = refl; creds = refl }))

pub forked_rights : ForkKeepsRights
forked_rights w caller q alive =
    elim ((q == fresh_of w) && has_room w) as (λ b. ((q == fresh_of w) && has_room w) ≡ b → StaysInRights (at (forked w caller) q) (at w (cond b caller q))) [
      | true ↦ λ is.
          let both = and_parts (q == fresh_of w) (has_room w) is in
          subst (λ k. StaysInRights (at (forked w caller) k) (at w caller)) (sym (eqb-true q (fresh_of w) both.0)) (child_stays w caller (at w caller) refl alive both.1)
      | false ↦ λ is. subst (λ x. StaysInRights x (at w q)) (sym (elsewhere is)) (stays (at w q))
    ] refl
  where
    elsewhere : ((q == fresh_of w) && has_room w) ≡ false → at (forked w caller) q ≡ at w q
    elsewhere is = elim (has_room w) as (λ b. has_room w ≡ b → at (forked w caller) q ≡ at w q) [
      | true ↦ λ room. forked_touches w caller q (λ e. false≢true (sym is ∙ and_from (q == fresh_of w) (has_room w) (eq-eqb q (fresh_of w) e) room))
      | false ↦ λ full. ap (λ b. at (cond b (option_map_or (λ p. inserted w (fresh_of w) (child_of caller p)) (at w caller) w) w) q) full
    ] refl
