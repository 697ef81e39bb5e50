-- Which groups an end can leave orphaned.
use Rattle.std.proofs.Common.{◌≡◌, ◌≢◌, ◌∙◌, ◌<◌, ◌≤◌, ◌==◌, ⊎_elim, ℕ, arith, ap, sym, refl, subst, Bool, true, false, ◌&&◌, ◌||◌, ◌⊎◌, inl, inr, IsTrue, List, [], Option, None, Some}
use Rattle.std.proofs.lemmas.Bool.{false≢true, eqb-true, eqb-false, ne_eqb, and_parts, cases_lt}
use Rattle.sk_world.specs.NumberSets.{contains, IsLeast, IsLeastAbove}
use Rattle.sk_world.specs.declared.process.Proc.{Proc}
use Rattle.sk_world.specs.World.{World, at, is_alive, is_member_of, is_child_of}
use Rattle.sk_machine.specs.Orphans.{is_living_member, is_tie, is_orphaned}
use Rattle.sk_world.specs.Rules.{IsWorld}
use Rattle.sk_machine.specs.views.Ties.{TiesNone}
use Rattle.sk_machine.proofs.Walking.{no_member_ties, nobody_at_0, tied}

pub either : (a b : Bool) → IsTrue (a || b) → (a ≡ true) ⊎ (b ≡ true)
either true b h = inl refl
either false b h = inr h

pub or_true : (b : Bool) → (b || true) ≡ true
or_true true = refl
or_true false = refl

-- a tie is a member
pub tie_is_member : (w : World) (group q : ℕ) → IsTrue (is_tie w group q) → IsTrue (is_member_of group (at w q))
tie_is_member w group q tie = (and_parts (is_alive (at w q)) (is_member_of group (at w q)) (and_parts (is_living_member group (at w q)) _ tie).0).1

-- the group that a process ties is not orphaned
pub tie_holds : (w : World) (group q : ℕ) → IsTrue (is_tie w group q) → is_orphaned w group ≡ false
tie_holds w group q tie = sym (tied w group q (tie_is_member w group q tie) tie)

-- nobody ties a group that it is not in
pub ties_its_own : (w : World) (pid : ℕ) (p : Proc) → at w pid ≡ Some p → (group : ℕ) → is_tie w group pid ≡ ((group == p.links.group) && is_tie w p.links.group pid)
ties_its_own w pid p is group =
    elim (group == p.links.group) as (λ b. (group == p.links.group) ≡ b → is_tie w group pid ≡ (b && is_tie w p.links.group pid)) [
      | true ↦ λ same. ap (λ k. is_tie w k pid) (eqb-true group p.links.group same)
      | false ↦ λ other. no_member_ties w group pid (ap (is_member_of group) is ∙ ne_eqb p.links.group group (λ e. eqb-false group p.links.group other (sym e)))
    ] refl

-- and none where it does not
pub no_tie_added : (w : World) (pid : ℕ) (p : Proc) → at w pid ≡ Some p → is_tie w p.links.group pid ≡ false → (group : ℕ) (old : Bool) → old ≡ (is_tie w group pid || old)
no_tie_added w pid p is none group old =
    ap (λ b. b || old) (sym (ties_its_own w pid p is group ∙ ap (λ b. (group == p.links.group) && b) none ∙ and_none (group == p.links.group)))
  where
    and_none : (b : Bool) → (b && false) ≡ false
    and_none true = refl
    and_none false = refl

-- a process that does not tie its own group ties none
pub ties_none : (w : World) (pid : ℕ) (p : Proc) → at w pid ≡ Some p → is_tie w p.links.group pid ≡ false → TiesNone w pid
ties_none w pid p is none group = sym (no_tie_added w pid p is none group false ∙ or_false (is_tie w group pid))
  where
    or_false : (b : Bool) → (b || false) ≡ b
    or_false true = refl
    or_false false = refl

pub nobody_ties_any : (w : World) (pid : ℕ) → at w pid ≡ None → TiesNone w pid
nobody_ties_any w pid is group = no_member_ties w group pid (ap (is_member_of group) is)

-- ---- a walk that adds ties

-- no group of the set is orphaned
abbrev pub AreTied : World → List ℕ → Type 0
AreTied w set = (group : ℕ) → IsTrue (contains set group) → is_orphaned w group ≡ false

pub still_tied : (w : World) (pid : ℕ) (old now : List ℕ) → AreTied w old → ((group : ℕ) → contains now group ≡ (is_tie w group pid || contains old group)) → AreTied w now
still_tied w pid old now tied added group member =
    elim (either (is_tie w group pid) (contains old group) (sym (added group) ∙ member)) [ inl tie ↦ tie_holds w group pid tie | inr before ↦ tied group before ]

pub still_there : (w : World) (pid : ℕ) (old now : List ℕ) → ((group : ℕ) → contains now group ≡ (is_tie w group pid || contains old group)) → (group : ℕ) → IsTrue (contains old group) → IsTrue (contains now group)
still_there w pid old now added group member = added group ∙ ap (λ b. is_tie w group pid || b) member ∙ or_true (is_tie w group pid)

-- the groups that those of the walk tie are in the set, up to a pid
abbrev pub HasTies : World → (ℕ → Bool) → ℕ → List ℕ → Type 0
HasTies w goes after set = (group q : ℕ) → q ≤ after → IsTrue (goes q) → IsTrue (is_tie w group q) → IsTrue (contains set group)

pub more_ties : (w : World) (goes : ℕ → Bool) (after next : ℕ) (old now : List ℕ) → HasTies w goes after old
    → ((q : ℕ) → after < q → q < next → goes q ≡ false) → ((group : ℕ) → contains now group ≡ (is_tie w group next || contains old group)) → HasTies w goes next now
more_ties w goes after next old now has between added group q le going tie = ⊎_elim
    (λ lt. still_there w next old now added group
    (⊎_elim (λ above. absurd (false≢true (sym (between q above lt) ∙ going))) (λ ge. has group q ge going tie) (cases_lt after q)))
    (λ ge. added group ∙ ap (λ b. b || contains old group) (ap (is_tie w group) (same ge) ∙ tie))
    (cases_lt q next)
  where
    same : next ≤ q → next ≡ q
    same ge = omega arith

-- those of the walk tie no group, up to a pid
abbrev pub NoneTies : World → (ℕ → Bool) → ℕ → Type 0
NoneTies w goes after = (q : ℕ) → q ≤ after → IsTrue (goes q) → TiesNone w q

pub none_before : (w : World) (goes : ℕ → Bool) (after next : ℕ) → NoneTies w goes after → ((q : ℕ) → after < q → q < next → goes q ≡ false) → TiesNone w next → NoneTies w goes next
none_before w goes after next none between here q le going = ⊎_elim
    (λ lt. ⊎_elim (λ above. absurd (false≢true (sym (between q above lt) ∙ going))) (λ ge. none q ge going) (cases_lt after q))
    (λ ge. subst (TiesNone w) (same ge) here)
    (cases_lt q next)
  where
    same : next ≤ q → next ≡ q
    same ge = omega arith

pub none_tie : (w : World) (goes : ℕ → Bool) (after : ℕ) → NoneTies w goes after → ((q : ℕ) → after < q → goes q ≡ false) → (q : ℕ) → IsTrue (goes q) → TiesNone w q
none_tie w goes after none beyond q going =
    ⊎_elim (λ above. absurd (false≢true (sym (beyond q above) ∙ going))) (λ ge. none q ge going) (cases_lt after q)

-- nobody is there before the first
pub nobody_before : (w : World) → IsWorld w → (parent : ℕ) → NoneTies w (λ q. is_child_of parent (at w q)) 0
nobody_before w rules parent q le going = nobody_ties_any w q (ap (at w) (none le) ∙ nobody_at_0 w rules)
  where
    none : q ≤ 0 → q ≡ 0
    none le = omega arith

-- ---- those that are kept

-- a number comes before the one that a walk has come to, which may have gone through all
abbrev pub comes_before : ℕ → Option ℕ → Type 0
comes_before n None = Unit {0}
comes_before n (Some next) = n < next

abbrev pub comes_after : ℕ → Option ℕ → Type 0
comes_after n None = ⊥
comes_after n (Some next) = next ≤ n

pub empty_tied : (w : World) (set : List ℕ) → set ≡ [] → AreTied w set
unfolding contains
empty_tied w set is group member = absurd (false≢true (ap (λ s. contains s group) (sym is) ∙ member))

-- the walk over a set that keeps those that pass: up to the number that it has come to they are judged, and from
-- there on they are as they were
pub record IsJudged (p : ℕ → Bool) (start now : List ℕ) (next : Option ℕ) : Type 0 where
  pub judged : (n : ℕ) → comes_before n next → contains now n ≡ (contains start n && p n)
  pub kept : (n : ℕ) → comes_after n next → contains now n ≡ contains start n

pub begins : (p : ℕ → Bool) (start : List ℕ) (next : Option ℕ) → IsLeast (contains start) next → IsJudged p start start next
begins p start None none = record { judged = λ n _. none n ∙ sym (ap (λ b. b && p n) (none n)); kept = λ n h. absurd h }
begins p start (Some next) least = record { judged = λ n lt. least.1 n lt ∙ sym (ap (λ b. b && p n) (least.1 n lt)); kept = λ n _. refl }

-- one number more
module _ (p : ℕ → Bool) (start old now : List ℕ) (next : ℕ) (before : IsJudged p start old (Some next)) (here : contains now next ≡ (contains old next && p next)) (others : (n : ℕ) → n ≢ next → contains now n ≡ contains old n) where
  judged_to : (n : ℕ) → n ≤ next → contains now n ≡ (contains start n && p n)
  judged_to n le = ⊎_elim
      (λ lt. others n (λ e. absurd (less lt e)) ∙ before.judged n lt)
      (λ ge. subst (λ k. contains now k ≡ (contains start k && p k)) (same ge) (here ∙ ap (λ b. b && p next) (before.kept next (at_least next))))
      (cases_lt n next)
    where
      less : n < next → n ≡ next → ⊥
      less lt e = omega (arith, lt, e)

      same : next ≤ n → next ≡ n
      same ge = omega arith

      at_least : (n : ℕ) → n ≤ n
      at_least n = omega arith

  later : (n : ℕ) → next < n → contains now n ≡ contains start n
  later n lt = others n (λ e. absurd (more e)) ∙ before.kept n (up lt)
    where
      more : n ≡ next → ⊥
      more e = omega (arith, lt, e)

      up : next < n → next ≤ n
      up lt = omega arith

  pub goes_on : (found : Option ℕ) → IsLeastAbove (contains now) next found → IsJudged p start now found
  goes_on None none = record {
    judged = λ n _. ⊎_elim (λ lt. none n lt ∙ sym (ap (λ b. b && p n) (sym (later n lt) ∙ none n lt))) (λ ge. judged_to n ge) (cases_lt next n);
    kept = λ n h. absurd h;
  }
  goes_on (Some found) least = record {
    judged = λ n lt. ⊎_elim (λ above. least.2 n above lt ∙ sym (ap (λ b. b && p n) (sym (later n above) ∙ least.2 n above lt))) (λ ge. judged_to n ge) (cases_lt next n);
    kept = λ n ge. later n (beyond n ge);
  }
    where
      beyond : (n : ℕ) → found ≤ n → next < n
      beyond n ge = let first = least.0 in omega (arith, first, ge)
