-- Which groups an end leaves orphaned: those that the process that ends, or a child of it, tied.
use Rattle.std.proofs.Common.{◌≡◌, ◌≢◌, ◌∙◌, ◌==◌, ℕ, ap, sym, refl, Bool, true, false, cond, not, ◌&&◌, ◌||◌, IsTrue, IsFalse, List, [], ◌∷◌, filter, Option, None, Some}
use Rattle.std.specs.Option.{is_some, option_map, option_and_then}
use Rattle.std.specs.List.{list_any}
use Rattle.std.proofs.lemmas.Bool.{false≢true, eq-eqb, eqb-true, eqb-false, ne_eqb, and_parts, cond_both, not-false, not-true, or_parts}
use Rattle.sk_world.specs.NumberSets.{contains}
use Rattle.sk_world.specs.declared.signals.TheConstants.{SIGCHLD}
use Rattle.sk_world.specs.declared.process.TheConstants.{INIT}
use Rattle.sk_world.specs.declared.process.Body.{Body}
use Rattle.sk_world.specs.declared.process.Proc.{Proc}
use Rattle.sk_world.specs.Processes.{pids}
use Rattle.sk_world.specs.World.{World, at, has_ended, is_alive, is_stopped, is_halted, is_child_of, is_member_of, parent_of, stored, changed, body_changed}
use Rattle.sk_world.specs.Rules.{IsWorld, is_init}
use Rattle.sk_world.specs.Sending.{sent}
use Rattle.sk_world.specs.Subreapers.{new_parent}
use Rattle.sk_world.specs.Ending.{ignores_children, handed_on, with_children_handed_on, has_zombie_child, reparented, zombie, left_to_parent, ended}
use Rattle.sk_world.proofs.Stored.{at_other}
use Rattle.sk_world.proofs.KeptEnd.{ended_later, handed_at, handed_cases}
use Rattle.sk_world.proofs.Telling.{some_passes}
use Rattle.sk_world.proofs.Walks.{any_here}
use Rattle.sk_machine.specs.Sessions.{session_of, is_group}
use Rattle.sk_machine.specs.Orphans.{is_living_member, is_outside, is_tie, is_orphaned, has_stopped_member, is_left_orphaned, groups, each_hung_up, ended_and_hung_up}
use Rattle.sk_machine.specs.views.Ties.{is_engaged, TiesNone}
use Rattle.sk_machine.proofs.Walking.{member_is_there, nobody_at_0}
use Rattle.sk_machine.proofs.HangingUp.{sent_life}
use Rattle.sk_machine.proofs.Hanging.{sent_view, sent_member}
use Rattle.sk_machine.proofs.Ties.{AreTied, empty_tied}

-- ---- the others, seen in a part of them that no signal changes

-- what becomes of a process that is not the one that ends
abbrev handed : World → ℕ → ℕ → Option Proc
handed w pid q = option_and_then (handed_on pid (new_parent w pid) (ignores_children (at w (new_parent w pid)))) (at w q)

module _ {A : Type 0} (view : Option Proc → A) (seen : (w : World) (k n q : ℕ) → view (at (sent w k n) q) ≡ view (at w q)) where
  seen_reparented : (w : World) (pid q : ℕ) → view (at (reparented w pid) q) ≡ view (handed w pid q)
  seen_reparented w pid q =
      let parent : ℕ = new_parent w pid in
      let handed : World = with_children_handed_on w pid in
      cond_both (has_zombie_child w pid && not (ignores_children (at w parent))) (sent handed parent SIGCHLD) handed (λ v. view (at v q) ≡ view (at handed q))
      (λ _. seen handed parent SIGCHLD q) (λ _. refl)
      ∙ ap view (handed_at w pid q)

  seen_left : (w : World) (pid status q : ℕ) → q ≢ pid → view (at (left_to_parent w pid status) q) ≡ view (at w q)
  seen_left w pid status q ne =
      let parent : ℕ = parent_of (at w pid) in
      let dead : World = changed w pid (zombie status) in
      cond_both (ignores_children (at w parent)) (stored w pid None) (sent dead parent SIGCHLD) (λ v. view (at v q) ≡ view (at w q))
      (λ _. ap view (at_other w pid None q ne))
      (λ _. seen dead parent SIGCHLD q ∙ ap view (at_other w pid _ q ne))

  seen_ended : (w : World) (pid status q : ℕ) → pid ≢ INIT → q ≢ pid → view (at (ended w pid status) q) ≡ view (handed w pid q)
  seen_ended w pid status q other ne =
      ap (λ v. view (at v q)) (ended_later w pid status other)
      ∙ seen_left (reparented w pid) pid status q ne
      ∙ seen_reparented w pid q

-- ---- a tie that is not engaged stays one

stays : (dying parent : ℕ) (removes : Bool) (o : Option Proc) → is_child_of dying o ≡ false → option_and_then (handed_on dying parent removes) o ≡ o
stays dying parent removes None other = refl
stays dying parent removes (Some p) other =
    handed_cases dying parent removes p (λ x. x ≡ Some p) (λ _. refl)
    (λ is _. absurd (false≢true (sym other ∙ eq-eqb p.links.parent dying is))) (λ is. absurd (false≢true (sym other ∙ eq-eqb p.links.parent dying is)))

-- a process that lives is outside the group as before, whoever is its parent
outside_stays : (dying parent : ℕ) (removes : Bool) (session group : ℕ) (o : Option Proc) → IsTrue (is_alive o)
    → is_outside session group (option_and_then (handed_on dying parent removes) o) ≡ is_outside session group o
outside_stays dying parent removes session group None alive = refl
outside_stays dying parent removes session group (Some p) alive =
    handed_cases dying parent removes p (λ x. is_outside session group x ≡ is_outside session group (Some p)) (λ _. refl)
    (λ _ ended. absurd (false≢true (sym (not-true (has_ended p.body.life) alive) ∙ ended))) (λ _. refl)

outside_seen : (session group : ℕ) (f : Body → Body) (o : Option Proc) → is_outside session group (option_map (body_changed f) o) ≡ is_outside session group o
outside_seen session group f None = refl
outside_seen session group f (Some p) = refl

session_seen : (f : Body → Body) (o : Option Proc) → session_of (option_map (body_changed f) o) ≡ session_of o
session_seen f None = refl
session_seen f (Some p) = refl

parent_seen : (f : Body → Body) (o : Option Proc) → parent_of (option_map (body_changed f) o) ≡ parent_of o
parent_seen f None = refl
parent_seen f (Some p) = refl

-- the parent of a tie lives, while the system has not halted
parent_of_tie_lives : (w : World) (group q : ℕ) → IsWorld w → IsFalse (is_halted w) → IsTrue (is_tie w group q) → IsTrue (is_alive (at w (parent_of (at w q))))
parent_of_tie_lives w group q rules going tie =
    let both = and_parts (is_living_member group (at w q)) (is_outside (session_of (at w q)) group (at w (parent_of (at w q)))) tie in
    let there : IsTrue (is_some (at w q)) = member_is_there group (at w q) (and_parts (is_alive (at w q)) (is_member_of group (at w q)) both.0).1 in
    elim (q == INIT) as (λ b. (q == INIT) ≡ b → IsTrue (is_alive (at w (parent_of (at w q))))) [
      | true ↦ λ is. absurd (false≢true (sym (ap (is_outside (session_of (at w q)) group) (no_parent (eqb-true q INIT is))) ∙ both.1))
      | false ↦ λ other. rules.parents going q (eqb-false q INIT other) there
    ] refl
  where
    init_parent : (o : Option Proc) → IsTrue (is_init o) → parent_of o ≡ 0
    init_parent None h = refl
    init_parent (Some p) h = eqb-true p.links.parent 0 (and_parts (p.links.parent == 0) _ h).0

    no_parent : q ≡ INIT → at w (parent_of (at w q)) ≡ None
    no_parent is = ap (at w) (ap (λ k. parent_of (at w k)) is ∙ init_parent (at w INIT) rules.init) ∙ nobody_at_0 w rules

not_engaged : (w : World) (pid q : ℕ) → is_engaged w pid q ≡ false → IsFalse (is_halted w) × (q ≢ pid) × (is_child_of pid (at w q) ≡ false)
not_engaged w pid q none =
    let outer = or_parts (is_halted w) ((q == pid) || is_child_of pid (at w q)) none in
    let inner = or_parts (q == pid) (is_child_of pid (at w q)) outer.1 in
    (outer.0, eqb-false q pid inner.0, inner.1)

child_by_parent : (pid : ℕ) (o : Option Proc) → IsTrue (is_some o) → is_child_of pid o ≡ false → parent_of o ≢ pid
child_by_parent pid None there none = absurd (false≢true there)
child_by_parent pid (Some p) there none = eqb-false p.links.parent pid none

pub tie_stays : (w : World) (pid status group q : ℕ) → IsWorld w → pid ≢ INIT → is_engaged w pid q ≡ false → IsTrue (is_tie w group q) → IsTrue (is_tie (ended w pid status) group q)
tie_stays w pid status group q rules other apart tie =
    let free = not_engaged w pid q apart in
    let after : World = ended w pid status in
    let both = and_parts (is_living_member group (at w q)) (is_outside (session_of (at w q)) group (at w (parent_of (at w q)))) tie in
    let member = and_parts (is_alive (at w q)) (is_member_of group (at w q)) both.0 in
    let same : handed w pid q ≡ at w q = stays pid (new_parent w pid) (ignores_children (at w (new_parent w pid))) (at w q) free.2 in
    let lives : is_alive (at after q) ≡ is_alive (at w q) = seen_ended is_alive sent_life w pid status q other free.1 ∙ ap is_alive same in
    let members : is_member_of group (at after q) ≡ is_member_of group (at w q) = seen_ended (is_member_of group) (sent_member group) w pid status q other free.1 ∙ ap (is_member_of group) same in
    let session : session_of (at after q) ≡ session_of (at w q) = seen_ended session_of (sent_view session_of session_seen) w pid status q other free.1 ∙ ap session_of same in
    let parent : parent_of (at after q) ≡ parent_of (at w q) = seen_ended parent_of (sent_view parent_of parent_seen) w pid status q other free.1 ∙ ap parent_of same in
    let not_dying : parent_of (at w q) ≢ pid = child_by_parent pid (at w q) (member_is_there group (at w q) member.1) free.2 in
    let outside : is_outside (session_of (at w q)) group (at after (parent_of (at w q))) ≡ is_outside (session_of (at w q)) group (at w (parent_of (at w q))) =
    seen_ended (is_outside (session_of (at w q)) group) (sent_view (is_outside (session_of (at w q)) group) (outside_seen (session_of (at w q)) group)) w pid status (parent_of (at w q)) other not_dying
    ∙ outside_stays pid (new_parent w pid) (ignores_children (at w (new_parent w pid))) (session_of (at w q)) group (at w (parent_of (at w q))) (parent_of_tie_lives w group q rules free.0 tie) in
    (λ i. (lives i && members i) && is_outside (session i) group (at after (parent i)))
    ∙ ap (λ b. (is_alive (at w q) && is_member_of group (at w q)) && b) outside
    ∙ tie

-- ---- the groups that are left orphaned

-- a group that was tied and is orphaned after the end was tied by the process that ends, or by a child of it
pub lost : (w : World) (pid status group : ℕ) → IsWorld w → pid ≢ INIT → is_orphaned w group ≡ false → IsTrue (is_orphaned (ended w pid status) group)
    → (q : ℕ) × IsTrue (is_tie w group q) × IsTrue (is_engaged w pid q)
lost w pid status group rules other held orphaned =
    let some = some_passes (is_tie w group) (pids w.procs) (not-false (list_any (is_tie w group) (pids w.procs)) held) in
    elim (is_engaged w pid some.0) as (λ b. is_engaged w pid some.0 ≡ b → (q : ℕ) × IsTrue (is_tie w group q) × IsTrue (is_engaged w pid q)) [
      | true ↦ λ is. (some.0, some.1, is)
      | false ↦ λ apart. absurd (false≢true (sym (still apart) ∙ orphaned))
    ] refl
  where
    still : is_engaged w pid (some_passes (is_tie w group) (pids w.procs) (not-false (list_any (is_tie w group) (pids w.procs)) held)).0 ≡ false → is_orphaned (ended w pid status) group ≡ false
    still apart =
        let some = some_passes (is_tie w group) (pids w.procs) (not-false (list_any (is_tie w group) (pids w.procs)) held) in
        let tie = tie_stays w pid status group some.0 rules other apart some.1 in
        let member = (and_parts (is_alive (at (ended w pid status) some.0)) (is_member_of group (at (ended w pid status) some.0)) (and_parts (is_living_member group (at (ended w pid status) some.0)) _ tie).0).1 in
        ap not (any_here (is_tie (ended w pid status) group) (ended w pid status).procs.entries some.0 (member_is_there group (at (ended w pid status) some.0) member) tie)

-- so the groups that are kept are those that are left orphaned
pub kept_are_left : (w : World) (pid status : ℕ) (tied kept : List ℕ) → IsWorld w → pid ≢ INIT → AreTied w tied
    → ((group q : ℕ) → IsTrue (is_tie w group q) → IsTrue (is_engaged w pid q) → IsTrue (contains tied group))
    → ((group : ℕ) → contains kept group ≡ (contains tied group && (is_orphaned (ended w pid status) group && has_stopped_member (ended w pid status) group)))
    → (group : ℕ) → contains kept group ≡ is_left_orphaned w (ended w pid status) group
kept_are_left w pid status tied kept rules other are_tied whole is group =
    is group ∙ by_tests (contains tied group) (is_orphaned w group) (is_orphaned (ended w pid status) group) (has_stopped_member (ended w pid status) group)
    (are_tied group)
    (λ held orphaned. let found = lost w pid status group rules other held orphaned in whole group found.0 found.1 found.2)
  where
    by_tests : (has before after stopped : Bool) → (IsTrue has → before ≡ false) → (before ≡ false → IsTrue after → IsTrue has) → (has && (after && stopped)) ≡ ((not before && after) && stopped)
    by_tests true true after stopped tied whole = absurd (false≢true (sym (tied refl)))
    by_tests true false after stopped tied whole = refl
    by_tests false true after stopped tied whole = refl
    by_tests false false true stopped tied whole = absurd (false≢true (whole refl refl))
    by_tests false false false stopped tied whole = refl

-- a group with a stopped process is one
pub stopped_is_group : (w : World) (group : ℕ) → IsTrue (has_stopped_member w group) → IsTrue (is_group w group)
stopped_is_group w group is =
    let some = some_passes (λ pid. is_stopped (at w pid) && is_member_of group (at w pid)) (pids w.procs) is in
    let member = (and_parts (is_stopped (at w some.0)) (is_member_of group (at w some.0)) some.1).1 in
    any_here (λ pid. is_member_of group (at w pid)) w.procs.entries some.0 (member_is_there group (at w some.0) member) member

-- and they are hung up
pub left_hung_up : (w : World) (pid status : ℕ) (kept : List ℕ) → pid ≢ INIT → ((group : ℕ) → contains kept group ≡ is_left_orphaned w (ended w pid status) group)
    → each_hung_up (ended w pid status) (filter (contains kept) (groups (ended w pid status))) ≡ ended_and_hung_up w pid status
left_hung_up w pid status kept other is =
    (λ i. each_hung_up (ended w pid status) (filter (λ group. is group i) (groups (ended w pid status))))
    ∙ sym (ap (λ b. cond b (ended w pid status) (each_hung_up (ended w pid status) (filter (is_left_orphaned w (ended w pid status)) (groups (ended w pid status))))) (ne_eqb pid INIT other))

-- where nobody who is engaged ties a group, no group is hung up
pub nobody_hung_up : (w : World) (pid status : ℕ) → IsWorld w → pid ≢ INIT → ((q : ℕ) → IsTrue (is_engaged w pid q) → TiesNone w q) → ended w pid status ≡ ended_and_hung_up w pid status
unfolding contains
nobody_hung_up w pid status rules other none =
    sym (ap (each_hung_up (ended w pid status)) (none_pass (contains []) (groups (ended w pid status)) empty))
    ∙ left_hung_up w pid status [] other
    (kept_are_left w pid status [] [] rules other (empty_tied w [] refl) (λ group q tie engaged. absurd (false≢true (sym (none q engaged group) ∙ tie)))
    (λ group. empty group ∙ sym (ap (λ b. b && (is_orphaned (ended w pid status) group && has_stopped_member (ended w pid status) group)) (empty group))))
  where
    empty : (n : ℕ) → contains [] n ≡ false
    empty n = refl

    none_pass : (p : ℕ → Bool) (ns : List ℕ) → ((n : ℕ) → p n ≡ false) → filter p ns ≡ []
    none_pass p [] fails = refl
    none_pass p (n ∷ ns) fails = ap (λ b. cond b (n ∷ filter p ns) (filter p ns)) (fails n) ∙ none_pass p ns fails
