-- Which groups are orphaned after signals, and which had a stopped process before an end.
use Rattle.std.proofs.Common.{◌≡◌, ◌≢◌, ◌∙◌, ◌==◌, ℕ, ap, sym, refl, subst, Bool, true, false, cond, not, ◌&&◌, IsTrue, Option, None, Some}
use Rattle.sk_laws.specs.Common.{is_some, option_map, option_map_or, option_and_then, list_any, SIGCHLD, SIGCONT, generated, INIT, Running, Continued, Links, Body, Proc, pids, World, at, has_ended, has_stopped, is_alive, is_stopped, is_member_of, parent_of, stored, body_changed, changed, continued, signalled, generated_at, sent, new_parent, ignores_children, handed_on, with_children_handed_on, has_zombie_child, reparented, zombie, left_to_parent, ended, session_of, is_living_member, is_outside, is_tie, is_orphaned, has_stopped_member}
use Rattle.sk_world.proofs.Common.{false≢true, cond_both, and_parts, and_from}
use Rattle.sk_world.proofs.Stored.{everywhere}
use Rattle.sk_world.proofs.KeptEnd.{ended_later, handed_cases, handed_at}
use Rattle.sk_world.proofs.Telling.{some_passes}
use Rattle.sk_world.proofs.Walks.{any_here}
use Rattle.sk_machine.proofs.HangingUp.{sent_life}
use Rattle.sk_machine.proofs.Hanging.{sent_view}
use Rattle.sk_machine.proofs.Ties.{tie_holds}
use Rattle.sk_machine.proofs.Walking.{member_is_there}

-- ---- worlds in which the same processes live, with the same links
abbrev links_in : Option Proc → Option Links
links_in o = option_map (λ p. p.links) o

pub record AreAlike (v w : World) : Type 0 where
  pub lives : (q : ℕ) → is_alive (at w q) ≡ is_alive (at v q)
  pub links : (q : ℕ) → links_in (at w q) ≡ links_in (at v q)

pub alike_still : (w : World) → AreAlike w w
alike_still w = record { lives = λ q. refl; links = λ q. refl }

pub alike_twice : (v w x : World) → AreAlike v w → AreAlike w x → AreAlike v x
alike_twice v w x first later = record { lives = λ q. later.lives q ∙ first.lives q; links = λ q. later.links q ∙ first.links q }

links_seen : (f : Body → Body) (o : Option Proc) → links_in (option_map (body_changed f) o) ≡ links_in o
links_seen f None = refl
links_seen f (Some p) = refl

pub alike_sent : (w : World) (pid n : ℕ) → AreAlike w (sent w pid n)
alike_sent w pid n = record { lives = sent_life w pid n; links = sent_view links_in links_seen w pid n }

-- a change of a body that ends nobody and brings nobody back
life_seen : (f : Body → Body) → ((body : Body) → has_ended (f body).life ≡ has_ended body.life) → (o : Option Proc) → is_alive (option_map (body_changed f) o) ≡ is_alive o
life_seen f same None = refl
life_seen f same (Some p) = ap not (same p.body)

pub alike_changed : (w : World) (pid : ℕ) (f : Body → Body) → ((body : Body) → has_ended (f body).life ≡ has_ended body.life) → AreAlike w (changed w pid f)
alike_changed w pid f same = record {
  lives = everywhere w pid (option_map (body_changed f) (at w pid)) (λ q x. is_alive x ≡ is_alive (at w q)) (life_seen f same (at w pid)) (λ q ne. refl);
  links = everywhere w pid (option_map (body_changed f) (at w pid)) (λ q x. links_in x ≡ links_in (at w q)) (links_seen f (at w pid)) (λ q ne. refl);
}

member_by_links : (group : ℕ) (o : Option Proc) → is_member_of group o ≡ option_map_or (λ l. l.group == group) (links_in o) false
member_by_links group None = refl
member_by_links group (Some p) = refl

session_by_links : (o : Option Proc) → session_of o ≡ option_map_or (λ l. l.session) (links_in o) 0
session_by_links None = refl
session_by_links (Some p) = refl

parent_by_links : (o : Option Proc) → parent_of o ≡ option_map_or (λ l. l.parent) (links_in o) 0
parent_by_links None = refl
parent_by_links (Some p) = refl

there_by_links : (o : Option Proc) → is_some o ≡ is_some (links_in o)
there_by_links None = refl
there_by_links (Some p) = refl

module _ (v w : World) (alike : AreAlike v w) where
  by_links : {A : Type 0} (view : Option Proc → A) (shown : Option Links → A) → ((o : Option Proc) → view o ≡ shown (links_in o)) → (q : ℕ) → view (at w q) ≡ view (at v q)
  by_links view shown same q = same (at w q) ∙ ap shown (alike.links q) ∙ sym (same (at v q))

  pub same_member : (group q : ℕ) → is_member_of group (at w q) ≡ is_member_of group (at v q)
  same_member group q = by_links (is_member_of group) (λ l. option_map_or (λ l. l.group == group) l false) (member_by_links group) q

  same_session : (q : ℕ) → session_of (at w q) ≡ session_of (at v q)
  same_session q = by_links session_of (λ l. option_map_or (λ l. l.session) l 0) session_by_links q

  same_parent : (q : ℕ) → parent_of (at w q) ≡ parent_of (at v q)
  same_parent q = by_links parent_of (λ l. option_map_or (λ l. l.parent) l 0) parent_by_links q

  same_there : (q : ℕ) → is_some (at w q) ≡ is_some (at v q)
  same_there q = by_links is_some is_some there_by_links q

  same_outside : (session group q : ℕ) → is_outside session group (at w q) ≡ is_outside session group (at v q)
  same_outside session group q = λ i. (same_there q i && not (same_member group q i)) && (same_session q i == session)

  same_tie : (group q : ℕ) → is_tie w group q ≡ is_tie v group q
  same_tie group q =
      (λ i. (alike.lives q i && same_member group q i) && is_outside (same_session q i) group (at w (same_parent q i)))
      ∙ ap (λ b. is_living_member group (at v q) && b) (same_outside (session_of (at v q)) group (parent_of (at v q)))

  -- the same groups are orphaned
  pub orphaned_alike : (group : ℕ) → IsTrue (is_orphaned v group) → IsTrue (is_orphaned w group)
  orphaned_alike group orphaned =
      elim (list_any (is_tie w group) (pids w.procs)) as (λ b. list_any (is_tie w group) (pids w.procs) ≡ b → IsTrue (not b)) [
        | true ↦ λ is.
            let some = some_passes (is_tie w group) (pids w.procs) is in
            absurd (false≢true (sym (tie_holds v group some.0 (sym (same_tie group some.0) ∙ some.1)) ∙ orphaned))
        | false ↦ λ _. refl
      ] refl

-- ---- who was stopped before
-- a stopped process of the group
abbrev pub is_stopped_member : ℕ → Option Proc → Bool
is_stopped_member group o = is_stopped o && is_member_of group o

-- each stopped process of a group was one before
pub StopsNobody : World → World → Type 0
StopsNobody v w = (group q : ℕ) → IsTrue (is_stopped_member group (at w q)) → IsTrue (is_stopped_member group (at v q))

pub stopped_group : (v w : World) (group : ℕ) → StopsNobody v w → IsTrue (has_stopped_member w group) → IsTrue (has_stopped_member v group)
unfolding StopsNobody
stopped_group v w group none is =
    let some = some_passes (λ pid. is_stopped_member group (at w pid)) (pids w.procs) is in
    let before = none group some.0 some.1 in
    any_here (λ pid. is_stopped_member group (at v pid)) v.procs.entries some.0
    (member_is_there group (at v some.0) (and_parts (is_stopped (at v some.0)) (is_member_of group (at v some.0)) before).1) before

-- a change of a body that stops nobody
Unstopping : (Body → Body) → Type 0
Unstopping f = (body : Body) → IsTrue (has_stopped (f body).life) → IsTrue (has_stopped body.life)

member_before : (f : Body → Body) → Unstopping f → (group : ℕ) (o : Option Proc) → IsTrue (is_stopped_member group (option_map (body_changed f) o)) → IsTrue (is_stopped_member group o)
unfolding Unstopping
member_before f none group None is = is
member_before f none group (Some p) is =
    let both = and_parts (has_stopped (f p.body).life) (p.links.group == group) is in
    and_from (has_stopped p.body.life) (p.links.group == group) (none p.body both.0) both.1

pub changed_stops : (w : World) (pid : ℕ) (f : Body → Body) → ((body : Body) → IsTrue (has_stopped (f body).life) → IsTrue (has_stopped body.life)) → StopsNobody w (changed w pid f)
unfolding StopsNobody Unstopping
changed_stops w pid f none group =
    everywhere w pid (option_map (body_changed f) (at w pid)) (λ q x. IsTrue (is_stopped_member group x) → IsTrue (is_stopped_member group (at w q)))
    (member_before f none group (at w pid)) (λ q ne is. is)

-- no signal stops a process before it is delivered
signalled_stops : (n : ℕ) (init : Bool) (body : Body) → IsTrue (has_stopped (signalled n init body).life) → IsTrue (has_stopped body.life)
signalled_stops n init body =
    let after : Body = record body { signals = generated n init body.signals } in
    let P : Body → Type 0 = λ x. IsTrue (has_stopped x.life) → IsTrue (has_stopped body.life) in
    cond_both (has_ended body.life) body (cond (n == SIGCONT) (continued after) after) P (λ _ is. is)
    (λ _. cond_both (n == SIGCONT) (continued after) after P
    (λ _. cond_both (has_stopped body.life) (record after { life = Running; note = Continued }) after P (λ stopped _. stopped) (λ _ is. is))
    (λ _ is. is))

stops_twice : (v w x : World) → StopsNobody v w → StopsNobody w x → StopsNobody v x
unfolding StopsNobody
stops_twice v w x first later group q is = first group q (later group q is)

generated_stops : (w : World) (pid n : ℕ) → StopsNobody w (generated_at w pid n)
generated_stops w pid n = changed_stops w pid (signalled n (pid == INIT)) (signalled_stops n (pid == INIT))

sent_stops : (w : World) (pid n : ℕ) → StopsNobody w (sent w pid n)
sent_stops w pid n =
    let once : World = generated_at w pid n in
    cond_both ((n == SIGCONT) && is_stopped (at w pid)) (generated_at once (parent_of (at w pid)) SIGCHLD) once (StopsNobody w)
    (λ _. stops_twice w once (generated_at once (parent_of (at w pid)) SIGCHLD) (generated_stops w pid n) (generated_stops once (parent_of (at w pid)) SIGCHLD))
    (λ _. generated_stops w pid n)

handed_stops : (w : World) (pid : ℕ) → StopsNobody w (with_children_handed_on w pid)
unfolding StopsNobody
handed_stops w pid group q is =
    by_child (new_parent w pid) (ignores_children (at w (new_parent w pid))) (at w q) (ap (is_stopped_member group) (sym (handed_at w pid q)) ∙ is)
  where
    by_child : (parent : ℕ) (removes : Bool) (o : Option Proc) → IsTrue (is_stopped_member group (option_and_then (handed_on pid parent removes) o)) → IsTrue (is_stopped_member group o)
    by_child parent removes None is = is
    by_child parent removes (Some p) is =
        handed_cases pid parent removes p (λ x. IsTrue (is_stopped_member group x) → IsTrue (is_stopped_member group (Some p))) (λ _ is. is) (λ _ _ is. absurd (false≢true is)) (λ _ is. is) is

gone_stops : (w : World) (pid : ℕ) → StopsNobody w (stored w pid None)
unfolding StopsNobody
gone_stops w pid group = everywhere w pid None (λ q x. IsTrue (is_stopped_member group x) → IsTrue (is_stopped_member group (at w q))) (λ is. absurd (false≢true is)) (λ q ne is. is)

-- no end stops anybody
pub ended_stops : (w : World) (pid status : ℕ) → pid ≢ INIT → StopsNobody w (ended w pid status)
ended_stops w pid status other =
    let heir : ℕ = new_parent w pid in
    let handed : World = with_children_handed_on w pid in
    let left : World = reparented w pid in
    let parent : ℕ = parent_of (at left pid) in
    let dead : World = changed left pid (zombie status) in
    let first : StopsNobody w left =
    cond_both (has_zombie_child w pid && not (ignores_children (at w heir))) (sent handed heir SIGCHLD) handed (StopsNobody w)
    (λ _. stops_twice w handed (sent handed heir SIGCHLD) (handed_stops w pid) (sent_stops handed heir SIGCHLD)) (λ _. handed_stops w pid) in
    let later : StopsNobody left (left_to_parent left pid status) =
    cond_both (ignores_children (at left parent)) (stored left pid None) (sent dead parent SIGCHLD) (StopsNobody left) (λ _. gone_stops left pid)
    (λ _. stops_twice left dead (sent dead parent SIGCHLD) (changed_stops left pid (zombie status) (λ body is. absurd (false≢true is))) (sent_stops dead parent SIGCHLD)) in
    subst (StopsNobody w) (sym (ended_later w pid status other)) (stops_twice w left (left_to_parent left pid status) first later)
