-- What walks over the members of a group find.
use Rattle.std.proofs.Common.{◌≡◌, ◌∙◌, ◌≤◌, ◌==◌, ℕ, arith, ap, sym, refl, subst, Bool, true, false, not, ◌&&◌, IsTrue, Option, None, Some}
use Rattle.std.specs.Option.{is_some, option_map}
use Rattle.sk_world.specs.declared.process.Links.{Links}
use Rattle.sk_world.specs.declared.process.Proc.{Proc}
use Rattle.sk_world.specs.Processes.{pids}
use Rattle.sk_world.specs.World.{World, at, is_alive, is_stopped, is_member_of, parent_of, stored, links_changed, relinked, IsNext}
use Rattle.sk_world.specs.Rules.{IsWorld}
use Rattle.sk_world.proofs.Bodies.{kept_at}
use Rattle.sk_world.proofs.Walks.{any_here, none_any, beyond}
use Rattle.sk_machine.specs.Sessions.{session_of, is_group, is_group_of_session}
use Rattle.sk_machine.specs.Orphans.{is_outside, is_tie, is_orphaned}

pub member_is_there : (group : ℕ) (o : Option Proc) → IsTrue (is_member_of group o) → IsTrue (is_some o)
member_is_there group None is = is
member_is_there group (Some p) is = refl

-- nobody has the pid 0
pub nobody_at_0 : (w : World) → IsWorld w → at w 0 ≡ None
nobody_at_0 w rules = elim (at w 0) as (λ o. at w 0 ≡ o → o ≡ None) [
  | None ↦ λ _. refl
  | Some p ↦ λ is. absurd (not_below (rules.pids 0 (ap is_some is)).0)
] refl
  where
    not_below : 1 ≤ 0 → ⊥
    not_below le = omega (arith, le)

-- nobody's links are changed
pub nobody_relinked : (w : World) (pid : ℕ) (f : Links → Links) → at w pid ≡ None → w ≡ relinked w pid f
nobody_relinked w pid f is = sym (ap (λ o. stored w pid (option_map (links_changed f) o)) is ∙ kept_at w pid None is)

-- whether there is a member says whether there is such a group
pub group_found : (w : World) (group : ℕ) (found : Option ℕ) → IsWorld w → IsNext (λ pid. is_member_of group (at w pid)) 0 found → is_some found ≡ is_group w group
group_found w group None rules none =
    sym (none_any (λ pid. is_member_of group (at w pid)) (pids w.procs) (beyond (λ q. is_member_of group (at w q)) (λ q. is_member_of group (at w q)) 0 (λ _ h. h) low none))
  where
    low : (q : ℕ) → q ≤ 0 → is_member_of group (at w q) ≡ false
    low q le = ap (is_member_of group) (subst (λ k. at w k ≡ None) (zero_is q le) (nobody_at_0 w rules))
      where
        zero_is : (q : ℕ) → q ≤ 0 → 0 ≡ q
        zero_is q le = omega arith
group_found w group (Some pid) rules next =
    sym (any_here (λ pid. is_member_of group (at w pid)) w.procs.entries pid (member_is_there group (at w pid) next.1) next.1)

-- a member of the group that is of the session
abbrev pub shares : World → ℕ → ℕ → ℕ → Bool
shares w session group pid = is_member_of group (at w pid) && (session_of (at w pid) == session)

pub shared : (w : World) (session group pid : ℕ) → IsTrue (is_member_of group (at w pid)) → IsTrue (session_of (at w pid) == session) → true ≡ is_group_of_session w session group
shared w session group pid member same =
    sym (any_here (λ q. is_member_of group (at w q) && (session_of (at w q) == session)) w.procs.entries pid (member_is_there group (at w pid) member) (λ i. member i && same i))

-- who is no member shares nothing
pub no_member_shares : (w : World) (session group q : ℕ) → is_member_of group (at w q) ≡ false → (is_member_of group (at w q) && (session_of (at w q) == session)) ≡ false
no_member_shares w session group q none = ap (λ b. b && (session_of (at w q) == session)) none

and_none : (b : Bool) → (b && false) ≡ false
and_none true = refl
and_none false = refl

pub no_sharing : (w : World) (session group q : ℕ) → (session_of (at w q) == session) ≡ false → (is_member_of group (at w q) && (session_of (at w q) == session)) ≡ false
no_sharing w session group q other = ap (λ b. is_member_of group (at w q) && b) other ∙ and_none (is_member_of group (at w q))

-- who is no member ties nothing
pub no_member_ties : (w : World) (group q : ℕ) → is_member_of group (at w q) ≡ false → is_tie w group q ≡ false
no_member_ties w group q none =
    ap (λ b. (is_alive (at w q) && b) && is_outside (session_of (at w q)) group (at w (parent_of (at w q)))) none
    ∙ ap (λ b. b && is_outside (session_of (at w q)) group (at w (parent_of (at w q)))) (and_none (is_alive (at w q)))

-- a tie keeps the group from being orphaned
pub tied : (w : World) (group pid : ℕ) → IsTrue (is_member_of group (at w pid)) → IsTrue (is_tie w group pid) → false ≡ is_orphaned w group
tied w group pid member tie = sym (ap not (any_here (is_tie w group) w.procs.entries pid (member_is_there group (at w pid) member) tie))

pub untied : (w : World) (group : ℕ) → ((q : ℕ) → is_tie w group q ≡ false) → true ≡ is_orphaned w group
untied w group none = sym (ap not (none_any (is_tie w group) (pids w.procs) none))

-- who is no member is no stopped one
pub no_member_stopped : (w : World) (group q : ℕ) → is_member_of group (at w q) ≡ false → (is_stopped (at w q) && is_member_of group (at w q)) ≡ false
no_member_stopped w group q none = ap (λ b. is_stopped (at w q) && b) none ∙ and_none (is_stopped (at w q))

pub not_stopped : (w : World) (group q : ℕ) → is_stopped (at w q) ≡ false → (is_stopped (at w q) && is_member_of group (at w q)) ≡ false
not_stopped w group q none = ap (λ b. b && is_member_of group (at w q)) none
