-- The end of a process keeps the rules of the world.
use Rattle.std.proofs.Common.{◌≡◌, ◌≢◌, ◌∙◌, ◌+◌, ◌≤◌, ◌==◌, ℕ, arith, ap, sym, refl, subst, Bool, true, cond, not, ◌&&◌, List, [], ◌∷◌, length, ◌⊎◌, inl, inr, IsTrue, Option, None, Some}
use Rattle.sk_world.specs.Common.{is_some, option_map, option_and_then, SIGCHLD, SIGCONT, INIT, LAST_PID, Zombie, Body, Proc, Processes, get, count, store, each_of, World, at, has_ended, is_stopped, is_zombie, is_alive, parent_of, stored, body_changed, changed, IsWorld, is_init, has_links_within, generated_at, sent, new_parent, ignores_children, handed_on, with_children_handed_on, has_zombie_child, reparented, zombie, left_to_parent, ended}
use Rattle.sk_world.proofs.Common.{eqb-true, eqb-false, false≢true, and_parts, and_from, not-true, not-false, ne_eqb, cond_both, cond-false}
use Rattle.sk_world.specs.laws.WorldLaws.{ReparentKeepsRules, EndKeepsRules}
use Rattle.sk_world.proofs.Maps.{get_each, count_put, count_gone}
use Rattle.sk_world.proofs.Stored.{Fits, everywhere, at_here, nobody_fits, kept_stored, kept_gone, kept_alone, fewer}
use Rattle.sk_world.proofs.Children.{within_by}
use Rattle.sk_world.proofs.Kept.{kept_sent}
use Rattle.sk_world.proofs.Ancestors.{new_parent_within, new_parent_other, new_parent_alive}

-- a change of every process leaves no more of them
at_most_one_more : (m : Processes) (k : ℕ) (o : Option Proc) (n : ℕ) → count m ≤ n → count (store m k o) ≤ n + 1
at_most_one_more m k None n below =
    let less = fewer (is_some (get m k)) (count m) in
    let now = count_gone m k in
    omega (arith, now)
at_most_one_more m k (Some p) n below =
    subst (λ c. c ≤ n + 1) (sym (count_put m k p)) (cond_both (is_some (get m k)) (count m) (count m + 1) (λ c. c ≤ n + 1) (λ _. omega arith) (λ _. omega arith))

no_more_of : (f : ℕ → Proc → Option Proc) (es : List (ℕ × Proc)) → count (each_of f es) ≤ length es
no_more_of f [] = omega arith
no_more_of f (e ∷ es) = let n = at_most_one_more (each_of f es) e.0 (f e.0 e.1) (length es) (no_more_of f es) in omega (arith, n)

-- what becomes of a process when `dying` has ended: it stays, it goes, or it is a child of the new parent
pub handed_cases : (dying parent : ℕ) (removes : Bool) (p : Proc) (P : Option Proc → Type 0)
    → (p.links.parent ≢ dying → P (Some p)) → (p.links.parent ≡ dying → IsTrue (has_ended p.body.life) → P None)
    → (p.links.parent ≡ dying → P (Some (record p { links = record p.links { parent = parent } }))) → P (handed_on dying parent removes p)
handed_cases dying parent removes p P stays goes moves =
    let moved : Option Proc = Some (record p { links = record p.links { parent = parent } }) in
    let gone = removes && has_ended p.body.life in
    cond_both (not (p.links.parent == dying)) (Some p) (cond gone None moved) P
    (λ other. stays (eqb-false p.links.parent dying (not-true (p.links.parent == dying) other)))
    (λ same.
    let is = eqb-true p.links.parent dying (not-false (p.links.parent == dying) same) in
    cond_both gone None moved P (λ h. goes is (and_parts removes (has_ended p.body.life) h).1) (λ h. moves is))

handed_known : (dying parent : ℕ) (removes : Bool) (o : Option Proc) → IsTrue (is_some (option_and_then (handed_on dying parent removes) o)) → IsTrue (is_some o)
handed_known dying parent removes None there = there
handed_known dying parent removes (Some p) there = refl

handed_within : (dying parent : ℕ) (removes : Bool) (o : Option Proc) → parent ≤ LAST_PID → IsTrue (has_links_within o) → IsTrue (has_links_within (option_and_then (handed_on dying parent removes) o))
handed_within dying parent removes None below within = refl
handed_within dying parent removes (Some p) below within =
    handed_cases dying parent removes p (λ x. IsTrue (has_links_within x)) (λ _. within) (λ _ _. refl)
    (λ _. within_by parent p.links.parent p.links.group p.links.session below within)

pub handed_alive : (dying parent : ℕ) (removes : Bool) (o : Option Proc) → IsTrue (is_alive o) → IsTrue (is_alive (option_and_then (handed_on dying parent removes) o))
handed_alive dying parent removes None alive = alive
handed_alive dying parent removes (Some p) alive =
    handed_cases dying parent removes p (λ x. IsTrue (is_alive x)) (λ _. alive)
    (λ _ ended. absurd (false≢true (sym (not-true (has_ended p.body.life) alive) ∙ ended))) (λ _. alive)

pub handed_parent : (dying parent : ℕ) (removes : Bool) (o : Option Proc) → IsTrue (is_some (option_and_then (handed_on dying parent removes) o))
    → (parent_of (option_and_then (handed_on dying parent removes) o) ≡ parent_of o) ⊎ (parent_of (option_and_then (handed_on dying parent removes) o) ≡ parent)
handed_parent dying parent removes None there = inl refl
handed_parent dying parent removes (Some p) there =
    handed_cases dying parent removes p (λ x. IsTrue (is_some x) → (parent_of x ≡ p.links.parent) ⊎ (parent_of x ≡ parent)) (λ _ _. inl refl)
    (λ _ _ h. absurd (false≢true h)) (λ _ _. inr refl) there

handed_other : (dying parent : ℕ) (removes : Bool) (o : Option Proc) → parent ≢ dying → IsTrue (is_some (option_and_then (handed_on dying parent removes) o))
    → parent_of (option_and_then (handed_on dying parent removes) o) ≢ dying
handed_other dying parent removes None ne there = absurd (false≢true there)
handed_other dying parent removes (Some p) ne there =
    handed_cases dying parent removes p (λ x. IsTrue (is_some x) → parent_of x ≢ dying) (λ other _. other)
    (λ _ _ h. absurd (false≢true h)) (λ _ _ is. ne is) there

-- process 1 stays as it is
handed_init : (dying parent : ℕ) (removes : Bool) (o : Option Proc) → 1 ≤ dying → IsTrue (is_init o) → option_and_then (handed_on dying parent removes) o ≡ o
handed_init dying parent removes None low init = refl
handed_init dying parent removes (Some p) low init =
    let none : p.links.parent ≡ 0 = eqb-true p.links.parent 0 (and_parts (p.links.parent == 0) _ init).0 in
    handed_cases dying parent removes p (λ x. x ≡ Some p) (λ _. refl) (λ is _. absurd (omega arith)) (λ is. absurd (omega arith))

pub handed_at : (w : World) (pid q : ℕ) → at (with_children_handed_on w pid) q ≡ option_and_then (handed_on pid (new_parent w pid) (ignores_children (at w (new_parent w pid)))) (at w q)
handed_at w pid q = get_each (λ k. handed_on pid (new_parent w pid) (ignores_children (at w (new_parent w pid)))) w.procs q

kept_handed : (w : World) (pid : ℕ) → IsWorld w → IsTrue (is_some (at w pid)) → IsWorld (with_children_handed_on w pid)
kept_handed w pid rules here =
    let parent : ℕ = new_parent w pid in
    let removes : Bool = ignores_children (at w parent) in
    let is : (q : ℕ) → at (with_children_handed_on w pid) q ≡ option_and_then (handed_on pid parent removes) (at w q) = handed_at w pid in
    let same_init : at (with_children_handed_on w pid) INIT ≡ at w INIT = is INIT ∙ handed_init pid parent removes (at w INIT) (rules.pids pid here).0 rules.init in
    let before : (q : ℕ) → IsTrue (is_some (at (with_children_handed_on w pid) q)) → IsTrue (is_some (at w q)) = λ q there. handed_known pid parent removes (at w q) (ap is_some (sym (is q)) ∙ there) in
    let lives_on : (q : ℕ) → IsTrue (is_alive (at w q)) → IsTrue (is_alive (at (with_children_handed_on w pid) q)) = λ q alive. ap is_alive (is q) ∙ handed_alive pid parent removes (at w q) alive in
    record {
      init = ap is_init same_init ∙ rules.init;
      room = let fewer = no_more_of (λ k. handed_on pid parent removes) w.procs.entries in let room = rules.room in omega arith;
      pids = λ q there. rules.pids q (before q there);
      links = λ q. ap has_links_within (is q) ∙ handed_within pid parent removes (at w q) (new_parent_within w pid rules) (rules.links q);
      last = rules.last;
      parents = λ going q ne there.
          let was_going = ap is_zombie (sym same_init) ∙ going in
          elim (handed_parent pid parent removes (at w q) (ap is_some (sym (is q)) ∙ there)) [
            | inl same ↦ ap (λ k. is_alive (at (with_children_handed_on w pid) k)) (ap parent_of (is q) ∙ same) ∙ lives_on (parent_of (at w q)) (rules.parents was_going q ne (before q there))
            | inr new ↦ ap (λ k. is_alive (at (with_children_handed_on w pid) k)) (ap parent_of (is q) ∙ new) ∙ lives_on parent (new_parent_alive w pid rules was_going here)
          ];
    }

pub kept_reparented : ReparentKeepsRules
kept_reparented w pid rules there =
    let handed : World = with_children_handed_on w pid in
    let parent : ℕ = new_parent w pid in
    cond_both (has_zombie_child w pid && not (ignores_children (at w parent))) (sent handed parent SIGCHLD) handed IsWorld
    (λ _. kept_sent handed parent SIGCHLD (kept_handed w pid rules there)) (λ _. kept_handed w pid rules there)

pub alive_is_there : (o : Option Proc) → IsTrue (is_alive o) → IsTrue (is_some o)
alive_is_there None alive = alive
alive_is_there (Some p) alive = refl

-- nobody's parent
unfoldable pub IsAlone : World → ℕ → Type 0
IsAlone w pid = (q : ℕ) → IsTrue (is_some (at w q)) → parent_of (at w q) ≢ pid

pub alone_changed : (w : World) (k : ℕ) (f : Body → Body) (pid : ℕ) → IsAlone w pid → IsAlone (changed w k f) pid
unfolding IsAlone
alone_changed w k f pid alone = everywhere w k (option_map (body_changed f) (at w k)) (λ q x. IsTrue (is_some x) → parent_of x ≢ pid) (same (at w k) (alone k)) (λ q ne. alone q)
  where
    same : (o : Option Proc) → (IsTrue (is_some o) → parent_of o ≢ pid) → IsTrue (is_some (option_map (body_changed f) o)) → parent_of (option_map (body_changed f) o) ≢ pid
    same None h = h
    same (Some p) h = h

pub alone_sent : (w : World) (k n pid : ℕ) → IsAlone w pid → IsAlone (sent w k n) pid
alone_sent w k n pid alone =
    let once : IsAlone (generated_at w k n) pid = alone_changed w k _ pid alone in
    cond_both ((n == SIGCONT) && is_stopped (at w k)) (generated_at (generated_at w k n) (parent_of (at w k)) SIGCHLD) (generated_at w k n) (λ v. IsAlone v pid)
    (λ _. alone_changed (generated_at w k n) (parent_of (at w k)) _ pid once) (λ _. once)

alone_handed : (w : World) (pid : ℕ) → pid ≢ INIT → IsAlone (with_children_handed_on w pid) pid
unfolding IsAlone
alone_handed w pid ne q there is =
    let parent : ℕ = new_parent w pid in
    handed_other pid parent (ignores_children (at w parent)) (at w q) (new_parent_other w pid ne) (ap is_some (sym (handed_at w pid q)) ∙ there) (ap parent_of (sym (handed_at w pid q)) ∙ is)

pub alone_reparented : (w : World) (pid : ℕ) → pid ≢ INIT → IsAlone (reparented w pid) pid
alone_reparented w pid ne =
    let handed : World = with_children_handed_on w pid in
    let parent : ℕ = new_parent w pid in
    cond_both (has_zombie_child w pid && not (ignores_children (at w parent))) (sent handed parent SIGCHLD) handed (λ v. IsAlone v pid)
    (λ _. alone_sent handed parent SIGCHLD pid (alone_handed w pid ne)) (λ _. alone_handed w pid ne)

kept_left : (w : World) (pid status : ℕ) → IsWorld w → pid ≢ INIT → IsAlone w pid → IsWorld (left_to_parent w pid status)
unfolding IsAlone
kept_left w pid status rules ne alone =
    let parent : ℕ = parent_of (at w pid) in
    cond_both (ignores_children (at w parent)) (stored w pid None) (sent (changed w pid (zombie status)) parent SIGCHLD) IsWorld
    (λ _. kept_gone w pid rules ne (λ _ q other. alone q))
    (λ _. kept_sent (changed w pid (zombie status)) parent SIGCHLD (kept_alone w pid (zombie status) rules ne (λ _ q other. alone q)))

fits_halted : (w : World) (status : ℕ) (o : Option Proc) → at w INIT ≡ o → IsWorld w → Fits w INIT (option_map (body_changed (λ body. record body { life = Zombie status })) o)
fits_halted w status None is rules = nobody_fits w INIT is rules
fits_halted w status (Some p) is rules =
    let last : Option Proc = Some (body_changed (λ body. record body { life = Zombie status }) p) in
    record {
      known = λ h. ap is_some is;
      within = ap has_links_within (sym is) ∙ rules.links INIT;
      parent = λ h. ap parent_of (sym is);
      init = λ e. and_from (p.links.parent == 0) true (and_parts (p.links.parent == 0) _ (ap is_init (sym is) ∙ rules.init)).0 refl;
      halted = λ e h. absurd (false≢true (sym h));
      children = λ before now q other there parent. absurd (false≢true (sym now ∙ ap is_zombie (at_here w INIT last)));
    }

pub kept_ended : EndKeepsRules
kept_ended w pid status rules alive =
    cond_both (pid == INIT) (changed w INIT (λ body. record body { life = Zombie status })) (left_to_parent (reparented w pid) pid status) IsWorld
    (λ _. kept_stored w INIT _ rules (fits_halted w status (at w INIT) refl rules))
    (λ other.
    let ne = eqb-false pid INIT other in
    kept_left (reparented w pid) pid status (kept_reparented w pid rules (alive_is_there (at w pid) alive)) ne (alone_reparented w pid ne))

-- the end of a process other than process 1
pub ended_later : (w : World) (pid status : ℕ) → pid ≢ INIT → ended w pid status ≡ left_to_parent (reparented w pid) pid status
ended_later w pid status ne = cond-false (pid == INIT) (changed w INIT (λ body. record body { life = Zombie status })) (left_to_parent (reparented w pid) pid status) (ne_eqb pid INIT ne)
