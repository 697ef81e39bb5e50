-- A fork keeps the rules of the world.
use Rattle.std.proofs.Common.{◌≡◌, ◌≢◌, ◌∙◌, ◌+◌, ◌≤◌, ◌<◌, ℕ, arith, ap, sym, refl, cond, IsTrue, Option, None, Some}
use Rattle.sk_world.specs.Common.{is_some, option_map_or, INIT, LAST_PID, PROCESSES, Proc, count, World, at, is_zombie, is_alive, parent_of, stored, inserted, IsWorld, is_init, is_within, has_links_within, fresh_of, has_room, child_of}
use Rattle.sk_world.proofs.Common.{false≢true, cond_both, ltb-true}
use Rattle.sk_world.specs.laws.WorldLaws.{ForkKeepsRules}
use Rattle.sk_world.proofs.Maps.{count_put}
use Rattle.sk_world.proofs.Fresh.{fresh_in_range, fresh_absent}
use Rattle.sk_world.proofs.Stored.{everywhere, at_other}
use Rattle.sk_world.proofs.Children.{child_within}

one_more : (w : World) (pid : ℕ) (p : Proc) → at w pid ≡ None → count (stored w pid (Some p)).procs ≡ count w.procs + 1
one_more w pid p free = count_put w.procs pid p ∙ ap (λ o. cond (is_some o) (count w.procs) (count w.procs + 1)) free

-- a process that is put in at a free number, the child of one that is alive
pub kept_inserted : (w : World) (pid : ℕ) (p : Proc) → IsWorld w → count w.procs < PROCESSES → at w pid ≡ None → (2 ≤ pid) × (pid ≤ LAST_PID)
    → IsTrue (is_within p.links) → IsTrue (is_alive (at w p.links.parent)) → IsWorld (inserted w pid p)
kept_inserted w pid p rules room free fits within parent =
    let after : ℕ → Option Proc = at (stored w pid (Some p)) in
    let not_free : (k : ℕ) → IsTrue (is_some (at w k)) → k ≢ pid = λ k there is. false≢true (sym (ap is_some (ap (at w) is ∙ free)) ∙ there) in
    let alive_there : (k : ℕ) → IsTrue (is_alive (at w k)) → k ≢ pid = λ k alive is. false≢true (sym (ap is_alive (ap (at w) is ∙ free)) ∙ alive) in
    let alive_after : (k : ℕ) → IsTrue (is_alive (at w k)) → IsTrue (is_alive (after k)) = λ k alive. ap is_alive (at_other w pid (Some p) k (alive_there k alive)) ∙ alive in
    let same_init : after INIT ≡ at w INIT = at_other w pid (Some p) INIT (λ is. let one : 1 ≡ pid = is in let low : 2 ≤ pid = fits.0 in absurd (omega arith)) in
    record {
      init = ap is_init same_init ∙ rules.init;
      room = let more = one_more w pid p free in omega (arith, more, room);
      pids = everywhere w pid (Some p) (λ k x. IsTrue (is_some x) → (1 ≤ k) × (k ≤ LAST_PID)) (λ h. (omega (arith, fits.0), fits.1)) (λ q ne. rules.pids q);
      links = everywhere w pid (Some p) (λ k x. IsTrue (has_links_within x)) within (λ q ne. rules.links q);
      last = (omega (arith, fits.0), fits.1);
      parents = λ going. everywhere w pid (Some p) (λ k x. k ≢ INIT → IsTrue (is_some x) → IsTrue (is_alive (after (parent_of x))))
          (λ ne h. alive_after p.links.parent parent)
          (λ q other ne there. alive_after (parent_of (at w q)) (rules.parents (ap is_zombie (sym same_init) ∙ going) q ne there));
    }

kept_child : (w : World) (caller : ℕ) (o : Option Proc) → at w caller ≡ o → IsWorld w → IsTrue (is_alive o) → IsTrue (has_room w)
    → IsWorld (option_map_or (λ p. inserted w (fresh_of w) (child_of caller p)) o w)
kept_child w caller None is rules alive room = rules
kept_child w caller (Some p) is rules alive room =
    let below = ltb-true (count w.procs) PROCESSES room in
    kept_inserted w (fresh_of w) (child_of caller p) rules below (fresh_absent w below rules.last.0) (fresh_in_range w rules.last.0)
    (child_within w caller p rules is) (ap is_alive is ∙ alive)

pub kept_forked : ForkKeepsRules
kept_forked w caller rules alive =
    cond_both (has_room w) (option_map_or (λ p. inserted w (fresh_of w) (child_of caller p)) (at w caller) w) w IsWorld
    (λ room. kept_child w caller (at w caller) refl rules alive room) (λ full. rules)
