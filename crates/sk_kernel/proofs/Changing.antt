-- Who is still blocked, after a process was changed.
use Rattle.std.proofs.Common.{◌≡◌, ◌≢◌, ◌∙◌, ◌≤◌, ℕ, arith, List, [], ap, sym, refl, subst, true, false, cond, ◌==◌, ◌&&◌, ◌||◌, IsTrue, IsFalse, Option, None, Some, is_some, option_map, eq-eqb, eqb-true, ne_eqb}
use Rattle.sk_kernel.proofs.Common.{false≢true, eqb-false, and_parts, Life, Running, Stopped, Zombie, Waiting, Body, Links, Proc, Request, Who, Child, Any, Group, World, at, opening, first_process, parent_of, stored, body_changed, links_changed, with_body, with_links, inserted, is_asked_for, is_match, status_of, none, everywhere, at_here, at_other, contains, LAST_PID, AllBlocked, OthersAreThere, IsNoted, Notes, Forgets, LooksAt, has_status_change, has_change_for, IsStillAsking, KeepsWaiting, BlockedBy, BlockedAs, IsBlocked}
use Rattle.sk_world.proofs.Maps.{get_store}
use Rattle.sk_kernel.proofs.Idle.{unready_as}
use Rattle.sk_world.specs.declared.process.Waiting.TheVariants as waiting

-- in another world, where it goes on asking whatever it asked
module _ (w now : World) (pid : ℕ) (asks : (request : Request) → IsStillAsking w pid request → IsStillAsking now pid request) where
  waits_on : (for : Waiting) → KeepsWaiting w pid for → KeepsWaiting now pid for
  waits_on waiting.Nothing keeps = keeps
  waits_on waiting.Pause keeps = keeps
  waits_on (waiting.Asks request) keeps = asks request keeps

  blocked_by : (body : Body) (l : Life) → BlockedBy w pid body l → BlockedBy now pid body l
  blocked_by body (Zombie status) blocked = blocked
  blocked_by body Stopped blocked = blocked
  blocked_by body Running blocked = (blocked.0, waits_on body.waiting blocked.1)

  blocked_on : (o : Option Proc) → BlockedAs w pid o → BlockedAs now pid o
  blocked_on None blocked = tt
  blocked_on (Some p) blocked = blocked_by p.body p.body.life blocked

-- after the process of a pid became another, or went
module _ (w : World) (pid : ℕ) (o : Option Proc) (q : ℕ) (none : IsFalse (has_change_for q o))
    (keeps : (request : Request) → IsTrue (is_match q request pid (at w pid)) → IsTrue (is_match q request pid o)) where
  asks_on : (request : Request) → IsStillAsking w q request → IsStillAsking (stored w pid o) q request
  asks_on request asks =
      let child = asks.matched.0 in
      record {
        matched = (
          child,
          subst (λ x. IsTrue (is_match q request child x)) (sym (get_store w.procs pid o child)) (
              elim (child == pid) as (λ b. (child == pid) ≡ b → IsTrue (is_match q request child (cond b o (at w child)))) [
                | true ↦ λ is.
                    let same = eqb-true child pid is in
                    subst (λ k. IsTrue (is_match q request k o)) (sym same) (keeps request (subst (λ k. IsTrue (is_match q request k (at w k))) same asks.matched.1))
                | false ↦ λ _. asks.matched.1
              ] refl),
        );
        unready = everywhere w pid o (λ k x. IsFalse (is_match q request k x && is_some (status_of request.options x))) (unready_as q request pid o none) (λ k ne. asks.unready k);
      }

  pub blocked_stored : (q ≡ pid → BlockedAs w q (at w q) → BlockedAs w q o) → IsBlocked w q → IsBlocked (stored w pid o) q
  blocked_stored own blocked =
      blocked_on w (stored w pid o) q asks_on (at (stored w pid o) q)
      (subst (BlockedAs w q) (sym (get_store w.procs pid o q)) (
      elim (q == pid) as (λ b. (q == pid) ≡ b → BlockedAs w q (cond b o (at w q))) [
        | true ↦ λ is. own (eqb-true q pid is) blocked
        | false ↦ λ _. blocked
      ] refl))

-- ---- the changes of a store

same_asked : (who : Who) (pid : ℕ) (p : Proc) (body : Body) → is_asked_for who pid p ≡ is_asked_for who pid (record p { body = body })
same_asked (Child child) pid p body = refl
same_asked Any pid p body = refl
same_asked (Group group) pid p body = refl

same_match : (q : ℕ) (request : Request) (pid : ℕ) (body : Body) (o : Option Proc) → IsTrue (is_match q request pid o) → IsTrue (is_match q request pid (option_map (body_changed (λ old. body)) o))
same_match q request pid body None match = match
same_match q request pid body (Some p) match = sym (ap (λ b. (p.links.parent == q) && b) (same_asked request.who pid p body)) ∙ match

-- a body was lent
pub blocked_lent : (w : World) (pid : ℕ) (body : Body) (q : ℕ) → q ≢ pid → IsFalse (has_change_for q (at (with_body w pid body) pid)) → IsBlocked w q → IsBlocked (with_body w pid body) q
blocked_lent w pid body q other none blocked =
    blocked_stored w pid (option_map (body_changed (λ old. body)) (at w pid)) q
    (subst (λ x. IsFalse (has_change_for q x)) (at_here w pid (option_map (body_changed (λ old. body)) (at w pid))) none)
    (λ request match. same_match q request pid body (at w pid) match)
    (λ same _. absurd (other same))
    blocked

no_child : (q : ℕ) (request : Request) (pid : ℕ) (o : Option Proc) → q ≢ parent_of o → IsTrue (is_match q request pid o) → ⊥
no_child q request pid None other match = false≢true match
no_child q request pid (Some p) other match = other (sym (eqb-true p.links.parent q (and_parts (p.links.parent == q) (is_asked_for request.who pid p) match).0))

no_change : (q : ℕ) (o : Option Proc) → q ≢ parent_of o → IsFalse (has_change_for q o)
no_change q None other = refl
no_change q (Some p) other = ap (λ b. b && has_status_change p.body) (ne_eqb p.links.parent q (λ e. other (sym e)))

-- links were changed
pub blocked_relinked : (w : World) (pid : ℕ) (links : Links) (q : ℕ) → q ≢ parent_of (at w pid) → q ≢ links.parent → IsBlocked w q → IsBlocked (with_links w pid links) q
blocked_relinked w pid links q old new blocked =
    blocked_stored w pid (option_map (links_changed (λ old. links)) (at w pid)) q
    (no_change_new (at w pid))
    (λ request match. absurd (no_child q request pid (at w pid) old match))
    (λ same blocked. same_body (at w pid) (subst (λ k. BlockedAs w q (at w k)) same blocked))
    blocked
  where
    no_change_new : (o : Option Proc) → IsFalse (has_change_for q (option_map (links_changed (λ old. links)) o))
    no_change_new None = refl
    no_change_new (Some p) = ap (λ b. b && has_status_change p.body) (ne_eqb links.parent q (λ e. new (sym e)))

    same_body : (o : Option Proc) → BlockedAs w q o → BlockedAs w q (option_map (links_changed (λ old. links)) o)
    same_body None blocked = blocked
    same_body (Some p) blocked = blocked

-- a process came
pub blocked_inserted : (w : World) (pid : ℕ) (p : Proc) (q : ℕ) → at w pid ≡ None → q ≢ pid → q ≢ p.links.parent → IsBlocked w q → IsBlocked (inserted w pid p) q
blocked_inserted w pid p q free other parent blocked =
    blocked_on (stored w pid (Some p)) (inserted w pid p) q (λ request asks. record { matched = asks.matched; unready = asks.unready }) (at (stored w pid (Some p)) q)
    (blocked_stored w pid (Some p) q
    (no_change q (Some p) parent)
    (λ request match. absurd (false≢true (subst (λ o. IsTrue (is_match q request pid o)) free match)))
    (λ same _. absurd (other same))
    blocked)

-- a process went
pub blocked_removed : (w : World) (pid q : ℕ) → q ≢ parent_of (at w pid) → IsBlocked w q → IsBlocked (stored w pid None) q
blocked_removed w pid q other blocked =
    blocked_stored w pid None q refl (λ request match. absurd (no_child q request pid (at w pid) other match)) (λ _ _. tt) blocked

-- ---- what is noted, after a change

nobody_stored : (w : World) (pid : ℕ) (o : Option Proc) → at w 0 ≡ None → (0 ≡ pid → o ≡ None) → at (stored w pid o) 0 ≡ None
nobody_stored w pid o nobody here =
    get_store w.procs pid o 0
    ∙ elim (0 == pid) as (λ b. (0 == pid) ≡ b → cond b o (at w 0) ≡ None) [
      | true ↦ λ is. here (eqb-true 0 pid is)
      | false ↦ λ _. nobody
    ] refl

nobody_mapped : (w : World) (pid : ℕ) (f : Proc → Proc) → at w 0 ≡ None → 0 ≡ pid → option_map f (at w pid) ≡ None
nobody_mapped w pid f nobody same = ap (λ k. option_map f (at w k)) (sym same) ∙ ap (option_map f) nobody

still_some : (f : Proc → Proc) (o : Option Proc) → IsTrue (is_some o) → IsTrue (is_some (option_map f o))
still_some f None is = is
still_some f (Some p) is = refl

-- who was there is there when a process was changed
still_there : (w : World) (pid : ℕ) (f : Proc → Proc) (q : ℕ) → IsTrue (is_some (at w q)) → IsTrue (is_some (at (stored w pid (option_map f (at w pid))) q))
still_there w pid f = everywhere w pid (option_map f (at w pid)) (λ k o. IsTrue (is_some (at w k)) → IsTrue (is_some o)) (still_some f (at w pid)) (λ q ne is. is)

-- two numbers are the same or not
by_same : (q k : ℕ) (P : Type 0) → (q ≡ k → P) → (q ≢ k → P) → P
by_same q k P same other = elim (q == k) as (λ b. (q == k) ≡ b → P) [
  | true ↦ λ is. same (eqb-true q k is)
  | false ↦ λ is. other (eqb-false q k is)
] refl

-- who is not noted is not the one that was noted last
unnoted_other : (pid : ℕ) (before now : List ℕ) → Notes pid before now → (q : ℕ) → q ≤ LAST_PID → IsFalse (contains now q) → q ≢ pid
unnoted_other pid before now notes q within out same =
    false≢true (sym out ∙ subst (λ k. IsTrue (contains now k)) (sym same) (notes.own (subst (λ k. k ≤ LAST_PID) same within)))

pub nobody_lent : (w : World) (pid : ℕ) (body : Body) → at w 0 ≡ None → at (with_body w pid body) 0 ≡ None
nobody_lent w pid body nobody =
    nobody_stored w pid (option_map (body_changed (λ old. body)) (at w pid)) nobody (nobody_mapped w pid (body_changed (λ old. body)) nobody)

pub nobody_relinked : (w : World) (pid : ℕ) (links : Links) → at w 0 ≡ None → at (with_links w pid links) 0 ≡ None
nobody_relinked w pid links nobody =
    nobody_stored w pid (option_map (links_changed (λ old. links)) (at w pid)) nobody (nobody_mapped w pid (links_changed (λ old. links)) nobody)

pub nobody_inserted : (w : World) (pid : ℕ) (p : Proc) → at w 0 ≡ None → 2 ≤ pid → at (inserted w pid p) 0 ≡ None
nobody_inserted w pid p nobody given = nobody_stored w pid (Some p) nobody (λ same. absurd (not_0 same))
  where
    not_0 : 0 ≡ pid → ⊥
    not_0 same = omega (arith, same, given)

-- who was looked at, by another name
looked_at : (w : World) (pid : ℕ) {before now : List ℕ} → LooksAt w pid before now → (q : ℕ) → q ≤ LAST_PID → IsFalse (contains now q) → q ≡ pid → IsBlocked w q
looked_at w pid {now = now} looks q within out same =
    subst (IsBlocked w) (sym same) (looks.blocked (subst (λ k. k ≤ LAST_PID) same within) (subst (λ k. IsFalse (contains now k)) same out))

seen : (w : World) (pid : ℕ) {before now : List ℕ} → LooksAt w pid before now → (q : ℕ) → q ≤ LAST_PID → IsTrue (contains now q) → q ≡ pid → IsTrue (is_some (at w q))
seen w pid {now = now} looks q within is same =
    subst (λ k. IsTrue (is_some (at w k))) (sym same) (looks.there (subst (λ k. k ≤ LAST_PID) same within) (subst (λ k. IsTrue (contains now k)) same is))

module _ (w : World) (nobody : at w 0 ≡ None) (before : List ℕ) (all : AllBlocked w before) (first : List ℕ) where
  pub noted_lent : (pid : ℕ) (body : Body) → OthersAreThere w before pid → Notes pid before first → IsNoted (with_body w pid body) first pid
  noted_lent pid body known notes = record {
    nobody = nobody_lent w pid body nobody;
    others = λ q within out none.
        let other = unnoted_other pid before first notes q within out in
        blocked_lent w pid body q other none (all q within (sym (notes.others q other) ∙ out));
    there = λ q some within other is. still_there w pid (body_changed (λ old. body)) q (known q some within other (sym (notes.others q other) ∙ is));
  }

  -- who went is forgotten
  module _ (second : List ℕ) where
    pub noted_removed : (pid : ℕ) → OthersAreThere w before (parent_of (at w pid)) → Notes (parent_of (at w pid)) before first → Forgets pid first second
        → IsNoted (stored w pid None) second (parent_of (at w pid))
    noted_removed pid known notes forgets = record {
      nobody = nobody_stored w pid None nobody (λ _. refl);
      others = λ q within out _. by_same q pid (IsBlocked (stored w pid None) q)
          (λ same. subst (IsBlocked (stored w pid None)) (sym same) (subst (BlockedAs (stored w pid None) pid) (sym (at_here w pid None)) tt))
          (λ other.
          let outside = sym (forgets.others q other) ∙ out in
          let apart = unnoted_other (parent_of (at w pid)) before first notes q within outside in
          blocked_removed w pid q apart (all q within (sym (notes.others q apart) ∙ outside)));
      there = λ q some within apart is. by_same q pid (IsTrue (is_some (at (stored w pid None) q)))
          (λ same. absurd (false≢true (sym (forgets.own (subst (λ k. k ≤ LAST_PID) same within)) ∙ subst (λ k. IsTrue (contains second k)) same is)))
          (λ other. subst (λ o. IsTrue (is_some o)) (sym (at_other w pid None q other)) (known q some within apart (sym (notes.others q apart) ∙ sym (forgets.others q other) ∙ is)));
    }

    -- the parent that it had is looked at
    pub noted_relinked : (pid : ℕ) (links : Links) → OthersAreThere w before links.parent → Notes links.parent before first → LooksAt (with_links w pid links) (parent_of (at w pid)) first second
        → IsNoted (with_links w pid links) second links.parent
    noted_relinked pid links known notes looks = record {
      nobody = nobody_relinked w pid links nobody;
      others = λ q within out _. by_same q (parent_of (at w pid)) (IsBlocked (with_links w pid links) q)
          (λ same. looked_at (with_links w pid links) (parent_of (at w pid)) looks q within out same)
          (λ other.
          let outside = sym (looks.others q other) ∙ out in
          let apart = unnoted_other links.parent before first notes q within outside in
          blocked_relinked w pid links q other apart (all q within (sym (notes.others q apart) ∙ outside)));
      there = λ q some within apart is. by_same q (parent_of (at w pid)) (IsTrue (is_some (at (with_links w pid links) q)))
          (λ same. seen (with_links w pid links) (parent_of (at w pid)) looks q within is same)
          (λ other. still_there w pid (links_changed (λ old. links)) q (known q some within apart (sym (notes.others q apart) ∙ sym (looks.others q other) ∙ is)));
    }

    -- its parent is looked at
    pub noted_inserted : (pid : ℕ) (p : Proc) → at w pid ≡ None → 2 ≤ pid → OthersAreThere w before pid → Notes pid before first → LooksAt (inserted w pid p) p.links.parent first second
        → IsNoted (inserted w pid p) second pid
    noted_inserted pid p free given known notes looks = record {
      nobody = nobody_inserted w pid p nobody given;
      others = λ q within out _. by_same q p.links.parent (IsBlocked (inserted w pid p) q)
          (λ same. looked_at (inserted w pid p) p.links.parent looks q within out same)
          (λ other.
          let outside = sym (looks.others q other) ∙ out in
          let apart = unnoted_other pid before first notes q within outside in
          blocked_inserted w pid p q free apart other (all q within (sym (notes.others q apart) ∙ outside)));
      there = λ q some within apart is. by_same q p.links.parent (IsTrue (is_some (at (inserted w pid p) q)))
          (λ same. seen (inserted w pid p) p.links.parent looks q within is same)
          (λ other. subst (λ o. IsTrue (is_some o)) (sym (at_other w pid (Some p) q apart)) (known q some within apart (sym (notes.others q apart) ∙ sym (looks.others q other) ∙ is)));
    }

-- as the system starts process 1 alone is noted
pub noted_opening : (w : World) (none_yet first : List ℕ) → w ≡ opening → none_yet ≡ [] → ((n : ℕ) → contains first n ≡ ((n == 1) || contains none_yet n)) → IsNoted w first 1
unfolding contains
noted_opening w none_yet first is empty put = record {
  nobody = ap (λ v. at v 0) is;
  others = λ q within out _. by_same q 1 (IsBlocked w q)
      (λ same. absurd (false≢true (sym out ∙ put q ∙ ap (λ b. b || contains none_yet q) (eq-eqb q 1 same))))
      (λ other. subst (λ v. IsBlocked v q) (sym is) (subst (BlockedAs opening q) (sym (at_other nobody_yet 1 (Some first_process) q other)) tt));
  there = λ q some within other noted. absurd (false≢true (sym (put q ∙ ap (λ l. (q == 1) || contains l q) empty ∙ ap (λ b. b || false) (ne_eqb q 1 other)) ∙ noted));
}
  where
    nobody_yet : World
    nobody_yet = record { procs = none; last = 1 }
