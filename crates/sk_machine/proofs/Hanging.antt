-- Walks that send signals to groups.
use Rattle.std.proofs.Common.{◌≡◌, ◌∙◌, ◌<◌, ◌==◌, ⊎_elim, ℕ, arith, ap, sym, refl, subst, Bool, true, false, cond, ◌&&◌, ◌||◌, IsTrue, List, [], ◌∷◌, map, filter, Option, None, Some}
use Rattle.std.specs.Prelude.{T, ◌≤◌}
use Rattle.std.specs.Option.{is_some, option_map}
use Rattle.std.specs.List.{list_any}
use Rattle.std.specs.Ordering.{nat_cmp, eq_by_cmp}
use Rattle.std.specs.FinMap.Entries.{find, is_sorted}
use Rattle.std.proofs.lemmas.Bool.{false≢true, cond_both, cases_lt}
use Rattle.sk_world.specs.NumberSets.{IsLeast, IsLeastAbove}
use Rattle.sk_world.specs.Sets as set
use Rattle.sk_world.specs.views.Members.{contains-from_list}
use Rattle.sk_world.specs.declared.signals.TheConstants.{SIGCHLD, SIGCONT}
use Rattle.sk_world.specs.declared.process.TheConstants.{INIT}
use Rattle.sk_world.specs.declared.process.Body.{Body}
use Rattle.sk_world.specs.declared.process.Proc.{Proc}
use Rattle.sk_world.specs.Processes.{pids}
use Rattle.sk_world.specs.World.{World, at, is_alive, is_stopped, is_member_of, parent_of, body_changed, IsNext}
use Rattle.sk_world.specs.Rules.{IsWorld}
use Rattle.sk_world.specs.Sending.{signalled, generated_at, sent, sent_to_each}
use Rattle.sk_world.proofs.Stored.{everywhere}
use Rattle.sk_world.proofs.Telling.{some_passes}
use Rattle.sk_world.proofs.Walks.{above, none_above, next_above, pass_above, all_above, first_above, none_left}
use Rattle.sk_machine.specs.Sessions.{is_group}
use Rattle.sk_machine.specs.Orphans.{is_living_member, groups, sent_to_group, hung_up, each_hung_up}
use Rattle.sk_machine.proofs.Walking.{member_is_there, nobody_at_0}
use Rattle.sk_machine.proofs.HangingUp.{sent_life}
use Rattle.sk_machine.proofs.Ties.{or_true}

-- what no change of a body shows in a part of a process no signal shows
module _ {A : Type 0} (view : Option Proc → A) (same : (f : Body → Body) (o : Option Proc) → view (option_map (body_changed f) o) ≡ view o) where
  generated_view : (w : World) (pid n q : ℕ) → view (at (generated_at w pid n) q) ≡ view (at w q)
  generated_view w pid n =
      everywhere w pid (option_map (body_changed (signalled n (pid == INIT))) (at w pid)) (λ q x. view x ≡ view (at w q)) (same (signalled n (pid == INIT)) (at w pid)) (λ q ne. refl)

  pub sent_view : (w : World) (pid n q : ℕ) → view (at (sent w pid n) q) ≡ view (at w q)
  sent_view w pid n q =
      cond_both ((n == SIGCONT) && is_stopped (at w pid)) (generated_at (generated_at w pid n) (parent_of (at w pid)) SIGCHLD) (generated_at w pid n) (λ v. view (at v q) ≡ view (at w q))
      (λ _. generated_view (generated_at w pid n) (parent_of (at w pid)) SIGCHLD q ∙ generated_view w pid n q)
      (λ _. generated_view w pid n q)

member_seen : (group : ℕ) (f : Body → Body) (o : Option Proc) → is_member_of group (option_map (body_changed f) o) ≡ is_member_of group o
member_seen group f None = refl
member_seen group f (Some p) = refl

pub sent_member : (group : ℕ) (w : World) (pid n q : ℕ) → is_member_of group (at (sent w pid n) q) ≡ is_member_of group (at w q)
sent_member group = sent_view (is_member_of group) (member_seen group)

-- ---- to a group

-- the living members of a group, in a world
abbrev pub living : World → ℕ → ℕ → Bool
living w group q = is_living_member group (at w q)

-- what is still to be sent to the group as it was before the walk comes to what is sent in all
pub record IsSentTo (before now : World) (group signal after : ℕ) : Type 0 where
  pub rules : IsWorld now
  pub members : (q : ℕ) → is_member_of group (at now q) ≡ is_member_of group (at before q)
  pub lives : (q : ℕ) → is_alive (at now q) ≡ is_alive (at before q)
  pub world : sent_to_each now (above (living before group) after before.procs.entries) signal ≡ sent_to_group before group signal

pub sending_begins : (w : World) (group signal : ℕ) → IsWorld w → IsSentTo w w group signal 0
sending_begins w group signal rules = record {
  rules = rules;
  members = λ q. refl;
  lives = λ q. refl;
  world = ap (λ xs. sent_to_each w xs signal) (all_above (living w group) w.procs.entries (ap (is_living_member group) (nobody_at_0 w rules)));
}

-- who is no member is no living one
no_member_lives : (w : World) (group q : ℕ) → is_member_of group (at w q) ≡ false → living w group q ≡ false
no_member_lives w group q none = ap (λ b. is_alive (at w q) && b) none ∙ and_none (is_alive (at w q))
  where
    and_none : (b : Bool) → (b && false) ≡ false
    and_none true = refl
    and_none false = refl

module _ (before now : World) (group signal after next : ℕ) (is : IsSentTo before now group signal after) (found : IsNext (λ pid. is_member_of group (at now pid)) after (Some next)) where
  member : is_member_of group (at before next) ≡ true
  member = sym (is.members next) ∙ found.1

  between : (q : ℕ) → after < q → q < next → living before group q ≡ false
  between q beyond below = no_member_lives before group q (sym (is.members q) ∙ found.2 q beyond below)

  pub sent_further : (then : World) → IsTrue (is_alive (at now next)) → IsWorld then → then ≡ sent now next signal → IsSentTo before then group signal next
  sent_further then alive rules e = record {
    rules = rules;
    members = λ q. ap (λ v. is_member_of group (at v q)) e ∙ sent_member group now next signal q ∙ is.members q;
    lives = λ q. ap (λ v. is_alive (at v q)) e ∙ sent_life now next signal q ∙ is.lives q;
    world =
        ap (λ v. sent_to_each v (above (living before group) next before.procs.entries) signal) e
        ∙ ap (λ xs. sent_to_each now xs signal) (sym (next_above (living before group) after next before.procs.entries before.procs.rising (member_is_there group (at before next) member) found.0 lives between))
        ∙ is.world;
  }
    where
      lives : living before group next ≡ true
      lives = (λ i. (sym (is.lives next) ∙ alive) i && member i)

  pub passed_over : is_alive (at now next) ≡ false → IsSentTo before now group signal next
  passed_over ended = record {
    rules = is.rules;
    members = is.members;
    lives = is.lives;
    world = ap (λ xs. sent_to_each now xs signal) (sym (pass_above (living before group) after next before.procs.entries found.0 none)) ∙ is.world;
  }
    where
      same : (q : ℕ) → q ≤ next → next ≤ q → next ≡ q
      same q le ge = omega arith

      here : living before group next ≡ false
      here = ap (λ b. b && is_member_of group (at before next)) (sym (is.lives next) ∙ ended)

      none : (q : ℕ) → after < q → q ≤ next → living before group q ≡ false
      none q beyond le = ⊎_elim (λ lt. between q beyond lt) (λ ge. subst (λ k. living before group k ≡ false) (same q le ge) here) (cases_lt q next)

pub sending_ends : (before now : World) (group signal after : ℕ) → IsSentTo before now group signal after
    → IsNext (λ pid. is_member_of group (at now pid)) after None → now ≡ sent_to_group before group signal
sending_ends before now group signal after is none =
    ap (λ xs. sent_to_each now xs signal) (sym (none_above (living before group) after before.procs.entries (λ q lt. no_member_lives before group q (sym (is.members q) ∙ none q lt))))
    ∙ is.world

-- ---- to each group of a set

-- the entries of the groups of a world
abbrev pub group_entries : World → List (ℕ × Unit {0})
group_entries w = (set.from_list (map (λ e. e.1.links.group) w.procs.entries)).entries

pub groups_rising : (w : World) → T (is_sorted nat_cmp (group_entries w))
groups_rising w = (set.from_list (map (λ e. e.1.links.group) w.procs.entries)).rising

-- a group that some process is in is among them
in_entries : (group pid : ℕ) (es : List (ℕ × Proc)) → IsTrue (is_member_of group (find nat_cmp pid es)) → list_any (λ y. y == group) (map (λ e. e.1.links.group) es) ≡ true
in_entries group pid [] member = absurd (false≢true member)
in_entries group pid (e ∷ es) member =
    elim (eq_by_cmp nat_cmp pid e.0) as (λ b. IsTrue (is_member_of group (cond b (Some e.1) (find nat_cmp pid es))) → list_any (λ y. y == group) (map (λ e. e.1.links.group) (e ∷ es)) ≡ true) [
      | true ↦ λ here. ap (λ b. b || list_any (λ y. y == group) (map (λ e. e.1.links.group) es)) here
      | false ↦ λ behind. ap (λ b. (e.1.links.group == group) || b) (in_entries group pid es behind) ∙ or_true (e.1.links.group == group)
    ] member

pub in_groups : (w : World) (group : ℕ) → IsTrue (is_group w group) → IsTrue (is_some (find nat_cmp group (group_entries w)))
unfolding set.contains
in_groups w group is =
    let some = some_passes (λ pid. is_member_of group (at w pid)) (pids w.procs) is in
    contains-from_list (map (λ e. e.1.links.group) w.procs.entries) group ∙ in_entries group some.0 w.procs.entries some.1

-- the numbers that a walk over the groups has still to go to
abbrev pub coming : {A : Type 0} → (ℕ → Bool) → Option ℕ → List (ℕ × A) → List ℕ
coming p None es = []
coming p (Some next) es = next ∷ above p next es

pub coming_first : {A : Type 0} (p : ℕ → Bool) (first : Option ℕ) (es : List (ℕ × A)) → T (is_sorted nat_cmp es) → ((n : ℕ) → IsTrue (p n) → IsTrue (is_some (find nat_cmp n es)))
    → IsLeast p first → filter p (map (λ e. e.0) es) ≡ coming p first es
coming_first p None es rising known none = none_left p (map (λ e. e.0) es) none
coming_first p (Some first) es rising known least = first_above p first es rising (known first least.0) least.0 least.1

pub coming_next : {A : Type 0} (p : ℕ → Bool) (after : ℕ) (next : Option ℕ) (es : List (ℕ × A)) → T (is_sorted nat_cmp es) → ((n : ℕ) → IsTrue (p n) → IsTrue (is_some (find nat_cmp n es)))
    → IsLeastAbove p after next → above p after es ≡ coming p next es
coming_next p after None es rising known none = none_above p after es none
coming_next p after (Some next) es rising known least = next_above p after next es rising (known next least.1) least.0 least.1 least.2

-- what is left of the hanging up before the walk comes to it, and the groups that it has still to go to
pub record IsHungUpTo (p : ℕ → Bool) (before now : World) (next : Option ℕ) : Type 0 where
  pub rules : IsWorld now
  pub world : each_hung_up now (coming p next (group_entries before)) ≡ each_hung_up before (filter p (groups before))

pub hanging_begins : (p : ℕ → Bool) (w : World) (first : Option ℕ) → ((n : ℕ) → IsTrue (p n) → IsTrue (is_group w n)) → IsLeast p first → IsWorld w → IsHungUpTo p w w first
hanging_begins p w first known least rules = record {
  rules = rules;
  world = ap (each_hung_up w) (sym (coming_first p first (group_entries w) (groups_rising w) (λ n member. in_groups w n (known n member)) least));
}

pub hung_further : (p : ℕ → Bool) (before now then : World) (group : ℕ) (next : Option ℕ) → ((n : ℕ) → IsTrue (p n) → IsTrue (is_group before n))
    → IsHungUpTo p before now (Some group) → then ≡ hung_up now group → IsWorld then → IsLeastAbove p group next → IsHungUpTo p before then next
hung_further p before now then group next known is e rules least = record {
  rules = rules;
  world =
      ap (λ v. each_hung_up v (coming p next (group_entries before))) e
      ∙ ap (each_hung_up (hung_up now group)) (sym (coming_next p group next (group_entries before) (groups_rising before) (λ n member. in_groups before n (known n member)) least))
      ∙ is.world;
}
