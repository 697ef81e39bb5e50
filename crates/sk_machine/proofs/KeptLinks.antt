-- A change of group or session keeps the rules of the world.
use Rattle.std.proofs.Common.{◌≡◌, ◌∙◌, ◌≤◌, ◌==◌, ℕ, ap, sym, refl, subst, Bool, true, false, not, ◌&&◌, ◌||◌, nat_le, List, [], ◌∷◌, IsTrue, IfOk, Option, None, Some, Result, Ok, Err, ◌⊎◌, inl, inr}
use Rattle.std.specs.Option.{is_some}
use Rattle.std.specs.Int.{is_negative}
use Rattle.std.specs.List.{list_any}
use Rattle.std.specs.Result.{result_and, result_unwrap_or}
use Rattle.std.proofs.lemmas.Bool.{false≢true, cond_both, eqb-true, leb-true, le-leb, not-false, and_parts, and_from}
use Rattle.sk_world.specs.declared.errno.Errno.{Errno}
use Rattle.sk_world.specs.declared.errno.Errno.TheVariants.{Eperm, Esrch, Eacces, Einval}
use Rattle.sk_world.specs.declared.process.TheConstants.{LAST_PID}
use Rattle.sk_world.specs.declared.process.Proc.{Proc}
use Rattle.sk_world.specs.Processes.{pids}
use Rattle.sk_world.specs.World.{World, at, relinked, is_child_of, is_member_of}
use Rattle.sk_world.specs.Rules.{IsWorld, has_links_within}
use Rattle.sk_world.proofs.Stored.{kept_links}
use Rattle.sk_machine.specs.Sessions.{pid_named, session_of, has_executed, is_group, is_group_of_session, links_in_group, links_of_leader, may_move_child, may_join, may_regroup, put_into_group, regrouped}
use Rattle.sk_machine.specs.laws.SessionLaws.{RegroupingKeepsRules, FoundingKeepsRules}

-- the group of a process can be a pid
within_group : (o : Option Proc) (group : ℕ) → IsTrue (has_links_within o) → IsTrue (is_member_of group o) → group ≤ LAST_PID
within_group None group within is = absurd (false≢true is)
within_group (Some p) group within is =
    let same : p.links.group ≡ group = eqb-true p.links.group group is in
    subst (λ n. n ≤ LAST_PID) same (leb-true p.links.group LAST_PID (and_parts (nat_le p.links.parent LAST_PID) (nat_le p.links.group LAST_PID) (and_parts _ (nat_le p.links.session LAST_PID) within).0).1)

some_member : (w : World) (session group : ℕ) (ks : List ℕ) → IsWorld w
    → IsTrue (list_any (λ pid. is_member_of group (at w pid) && (session_of (at w pid) == session)) ks) → group ≤ LAST_PID
some_member w session group [] rules any = absurd (false≢true any)
some_member w session group (k ∷ ks) rules any =
    elim (is_member_of group (at w k) && (session_of (at w k) == session)) as (λ b. (is_member_of group (at w k) && (session_of (at w k) == session)) ≡ b → IsTrue (b || list_any (λ pid. is_member_of group (at w pid) && (session_of (at w pid) == session)) ks) → group ≤ LAST_PID) [
      | true ↦ λ is _. within_group (at w k) group (rules.links k) (and_parts (is_member_of group (at w k)) (session_of (at w k) == session) is).0
      | false ↦ λ _ rest. some_member w session group ks rules rest
    ] refl any

-- one of two tests holds
either_not : (a b : Bool) → (not a && not b) ≡ false → (a ≡ true) ⊎ (b ≡ true)
either_not true b h = inl refl
either_not false b h = inr (not-false b h)

child_is_there : (caller : ℕ) (o : Option Proc) → IsTrue (is_child_of caller o) → IsTrue (is_some o)
child_is_there caller None is = is
child_is_there caller (Some p) is = refl

with_group : (group parent old session : ℕ) → group ≤ LAST_PID → IsTrue (nat_le parent LAST_PID && nat_le old LAST_PID && nat_le session LAST_PID)
    → IsTrue (nat_le parent LAST_PID && nat_le group LAST_PID && nat_le session LAST_PID)
with_group group parent old session below h =
    let parts = and_parts (nat_le parent LAST_PID && nat_le old LAST_PID) (nat_le session LAST_PID) h in
    and_from _ _ (and_from _ _ (and_parts (nat_le parent LAST_PID) (nat_le old LAST_PID) parts.0).0 (le-leb group LAST_PID below)) parts.1

kept_in_group : (w : World) (target group : ℕ) → IsWorld w → group ≤ LAST_PID → IsWorld (relinked w target (links_in_group group))
kept_in_group w target group rules below =
    kept_links w target (links_in_group group) rules (λ p is. record {
      within = with_group group p.links.parent p.links.group p.links.session below (ap has_links_within (sym is) ∙ rules.links target);
      parent = refl;
    })

-- the group that the target may join can be a pid
within_joined : (w : World) (caller target group : ℕ) → IsWorld w → IsTrue (is_some (at w target)) → IfOk (may_join w caller target group) (λ _. group ≤ LAST_PID)
within_joined w caller target group rules there =
    let P : Result (Unit {0}) Errno → Type 0 = λ r. IfOk r (λ _. group ≤ LAST_PID) in
    cond_both (session_of (at w target) == target) (Err Eperm) _ P (λ _. tt) (λ _.
    cond_both (not (group == target) && not (is_group_of_session w (session_of (at w caller)) group)) (Err Eperm) (Ok tt) P (λ _. tt) (λ lawful.
    elim (either_not _ _ lawful) [
      | inl own ↦ subst (λ n. n ≤ LAST_PID) (sym (eqb-true group target own)) (rules.pids target there).1
      | inr member ↦ some_member w (session_of (at w caller)) group (pids w.procs) rules member
    ]))

-- so can the group that it may be put into
pub within_regrouped : (w : World) (caller target group : ℕ) → IsWorld w → IsTrue (is_some (at w caller)) → IfOk (may_regroup w caller target group) (λ _. group ≤ LAST_PID)
within_regrouped w caller target group rules there =
    let join : Result (Unit {0}) Errno = may_join w caller target group in
    let P : Result (Unit {0}) Errno → Type 0 = λ r. IfOk (result_and r join) (λ _. group ≤ LAST_PID) in
    cond_both (target == caller) join (result_and (may_move_child w caller target) join) (λ r. IfOk r (λ _. group ≤ LAST_PID))
    (λ mine. within_joined w caller target group rules (subst (λ k. IsTrue (is_some (at w k))) (sym (eqb-true target caller mine)) there))
    (λ _. cond_both (not (is_child_of caller (at w target))) (Err Esrch) _ P (λ _. tt) (λ child.
    cond_both (not (session_of (at w target) == session_of (at w caller))) (Err Eperm) _ P (λ _. tt) (λ _.
    cond_both (has_executed (at w target)) (Err Eacces) (Ok tt) P (λ _. tt) (λ _.
    within_joined w caller target group rules (child_is_there caller (at w target) (not-false _ child))))))

kept_put : (w : World) (target group : ℕ) (r : Result (Unit {0}) Errno) → IsWorld w → IfOk r (λ _. group ≤ LAST_PID) → IfOk (put_into_group w target group r) IsWorld
kept_put w target group (Ok x) rules below = kept_in_group w target group rules below
kept_put w target group (Err e) rules below = tt

pub kept_regrouped : (w : World) (caller target group : ℕ) → IsWorld w → IsTrue (is_some (at w caller)) → IfOk (regrouped w caller target group) IsWorld
kept_regrouped w caller target group rules there = kept_put w target group (may_regroup w caller target group) rules (within_regrouped w caller target group rules there)

-- what a call leaves has the rules
pub kept_left : (w : World) (r : Result World Errno) → IsWorld w → IfOk r IsWorld → IsWorld (result_unwrap_or r w)
kept_left w (Ok after) rules kept = kept
kept_left w (Err e) rules kept = rules

pub kept_setpgid : RegroupingKeepsRules
kept_setpgid w caller pid group rules there =
    cond_both (is_negative group) (Err Einval) (regrouped w caller (pid_named caller pid) (pid_named (pid_named caller pid) group)) (λ r. IfOk r IsWorld)
    (λ _. tt) (λ _. kept_regrouped w caller (pid_named caller pid) (pid_named (pid_named caller pid) group) rules there)

leads : (pid parent : ℕ) → pid ≤ LAST_PID → IsTrue (nat_le parent LAST_PID) → IsTrue (nat_le parent LAST_PID && nat_le pid LAST_PID && nat_le pid LAST_PID)
leads pid parent below h = and_from _ _ (and_from _ _ h (le-leb pid LAST_PID below)) (le-leb pid LAST_PID below)

within_parent : (parent group session : ℕ) → IsTrue (nat_le parent LAST_PID && nat_le group LAST_PID && nat_le session LAST_PID) → IsTrue (nat_le parent LAST_PID)
within_parent parent group session h = (and_parts (nat_le parent LAST_PID) (nat_le group LAST_PID) (and_parts _ (nat_le session LAST_PID) h).0).0

pub kept_leading : (w : World) (caller : ℕ) → IsWorld w → IsTrue (is_some (at w caller)) → IsWorld (relinked w caller (links_of_leader caller))
kept_leading w caller rules there = kept_links w caller (links_of_leader caller) rules (λ p is. record {
  within = leads caller p.links.parent (rules.pids caller there).1 (within_parent p.links.parent p.links.group p.links.session (ap has_links_within (sym is) ∙ rules.links caller));
  parent = refl;
})

pub kept_setsid : FoundingKeepsRules
kept_setsid w caller rules there =
    cond_both (is_group w caller) (Err Eperm) (Ok (relinked w caller (links_of_leader caller))) (λ r. IfOk r IsWorld)
    (λ _. tt) (λ _. kept_leading w caller rules there)
