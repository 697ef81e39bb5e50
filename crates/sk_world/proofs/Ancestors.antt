-- Who the children of a process go to.
use Rattle.std.proofs.Common.{◌≡◌, ◌≢◌, ◌∙◌, ◌+◌, ◌-◌, ◌<◌, ◌≤◌, ◌==◌, ℕ, zero, suc, arith, ap, sym, refl, Bool, true, false, cond, not, ◌&&◌, [], ◌∷◌, ◌⊎◌, inl, inr, IsTrue, IsFalse, Option, None, Some}
use Rattle.std.specs.Prelude.{find}
use Rattle.sk_world.specs.Common.{is_some, unwrap_or, INIT, LAST_PID, PROCESSES, Proc, World, at, is_zombie, is_alive, is_halted, parent_of, IsWorld, is_init, is_subreaper, line_up, ancestors, takes_children, new_parent}
use Rattle.sk_world.proofs.Common.{false≢true, and_parts, not-true, eqb-false, eqb-true}
use Rattle.sk_world.proofs.KeptTold.{found, no_parent}

-- what a subreaper is found as, and process 1 where none is
pub found_or : (o : Option ℕ) (P : ℕ → Type 0) → ((q : ℕ) → o ≡ Some q → P q) → (o ≡ None → P INIT) → P (unwrap_or o INIT)
found_or None P some none = none refl
found_or (Some q) P some none = some q refl

-- what holds of process 1 and of every subreaper but the dying one holds of the new parent
pub new_parent_by : (w : World) (pid : ℕ) (P : ℕ → Type 0) → P INIT → ((q : ℕ) → IsTrue (is_subreaper (at w q)) → q ≢ pid → P q) → P (new_parent w pid)
unfolding new_parent
new_parent_by w pid P first other = found_or (find (takes_children w pid) (ancestors w pid)) P
    (λ q is.
    let takes = and_parts (is_subreaper (at w q)) _ (found (takes_children w pid) (ancestors w pid) q is) in
    other q takes.0 (eqb-false q pid (not-true (q == pid) takes.1)))
    (λ _. first)

pub subreaper_there : (o : Option Proc) → IsTrue (is_subreaper o) → IsTrue (is_some o)
subreaper_there None is = is
subreaper_there (Some p) is = refl

init_there : (o : Option Proc) → IsTrue (is_init o) → IsTrue (is_some o)
init_there None init = init
init_there (Some p) init = refl

pub new_parent_there : (w : World) (pid : ℕ) → IsWorld w → IsTrue (is_some (at w (new_parent w pid)))
new_parent_there w pid rules =
    new_parent_by w pid (λ q. IsTrue (is_some (at w q))) (init_there (at w INIT) rules.init) (λ q is _. subreaper_there (at w q) is)

pub new_parent_within : (w : World) (pid : ℕ) → IsWorld w → new_parent w pid ≤ LAST_PID
new_parent_within w pid rules = (rules.pids (new_parent w pid) (new_parent_there w pid rules)).1

-- only process 1 is handed its own children
pub new_parent_other : (w : World) (pid : ℕ) → pid ≢ INIT → new_parent w pid ≢ pid
new_parent_other w pid ne = new_parent_by w pid (λ q. q ≢ pid) (λ is. ne (sym is)) (λ q _ other. other)

-- there is no process 0
nobody_zero : (w : World) → IsWorld w → (o : Option Proc) → at w 0 ≡ o → o ≡ None
nobody_zero w rules None is = refl
nobody_zero w rules (Some p) is = let low = (rules.pids 0 (ap is_some is)).0 in absurd (omega arith)

pub zero_is_nobody : (w : World) → IsWorld w → at w 0 ≡ None
zero_is_nobody w rules = nobody_zero w rules (at w 0) refl

init_alive : (o : Option Proc) → IsTrue (is_init o) → IsFalse (is_zombie o) → IsTrue (is_alive o)
init_alive None init living = absurd (false≢true init)
init_alive (Some p) init living = ap not living

-- the parent of one who lives lives, but for that of process 1, which nobody is
parent_alive : (w : World) (pid : ℕ) → IsWorld w → IsFalse (is_halted w) → IsTrue (is_some (at w pid)) → (IsTrue (is_alive (at w (parent_of (at w pid))))) ⊎ (at w (parent_of (at w pid)) ≡ None)
parent_alive w pid rules going there =
    elim (pid == INIT) as (λ b. (pid == INIT) ≡ b → (IsTrue (is_alive (at w (parent_of (at w pid))))) ⊎ (at w (parent_of (at w pid)) ≡ None)) [
      | true ↦ λ is. inr (ap (λ k. at w (parent_of (at w k))) (eqb-true pid INIT is) ∙ ap (at w) (no_parent (at w INIT) rules.init) ∙ zero_is_nobody w rules)
      | false ↦ λ other. inl (rules.parents going pid (eqb-false pid INIT other) there)
    ] refl

-- all of the line up from one who lives live, and nobody comes up from where nobody is
lives : (w : World) (t : ℕ → Bool) (m pid : ℕ) → IsWorld w → IsFalse (is_halted w) → (IsTrue (is_alive (at w pid))) ⊎ (at w pid ≡ None)
    → (q : ℕ) → find t (line_up m w pid) ≡ Some q → IsTrue (is_alive (at w q))
lives w t zero pid rules going alive q is = absurd (false≢true (ap is_some is))
lives w t (suc m) pid rules going alive q is =
    elim (is_some (at w pid)) as (λ b. is_some (at w pid) ≡ b → find t (cond b (pid ∷ line_up m w (parent_of (at w pid))) []) ≡ Some q → IsTrue (is_alive (at w q))) [
      | true ↦ λ there is.
          let here : IsTrue (is_alive (at w pid)) = elim alive [ inl h ↦ h | inr none ↦ absurd (false≢true (sym (ap is_some none) ∙ there)) ] in
          elim (t pid) as (λ b. cond b (Some pid) (find t (line_up m w (parent_of (at w pid)))) ≡ Some q → IsTrue (is_alive (at w q))) [
            | true ↦ λ is. ap (λ o. is_alive (at w (unwrap_or o pid))) (sym is) ∙ here
            | false ↦ λ is. lives w t m (parent_of (at w pid)) rules going (parent_alive w pid rules going there) q is
          ] is
      | false ↦ λ _ is. absurd (false≢true (ap is_some is))
    ] refl is

pub new_parent_alive : (w : World) (pid : ℕ) → IsWorld w → IsFalse (is_halted w) → IsTrue (is_some (at w pid)) → IsTrue (is_alive (at w (new_parent w pid)))
unfolding new_parent ancestors
new_parent_alive w pid rules going there = found_or (find (takes_children w pid) (ancestors w pid)) (λ q. IsTrue (is_alive (at w q)))
    (λ q is. lives w (takes_children w pid) PROCESSES (parent_of (at w pid)) rules going (parent_alive w pid rules going there) q is)
    (λ _. init_alive (at w INIT) rules.init going)

-- whom the rest of the way up comes to
unfoldable pub found_above : World → ℕ → ℕ → ℕ → ℕ
found_above w dying more pid = unwrap_or (find (takes_children w dying) (line_up more w pid)) INIT

pub from_parent : (w : World) (dying : ℕ) → new_parent w dying ≡ found_above w dying PROCESSES (parent_of (at w dying))
unfolding found_above new_parent ancestors
from_parent w dying = refl

-- one step of the way
one_less : (n : ℕ) → n < PROCESSES → PROCESSES - n ≡ suc (PROCESSES - (n + 1))
one_less n lt = omega arith

above_one : (w : World) (dying more pid : ℕ) (p : Proc) → at w pid ≡ Some p
    → found_above w dying (suc more) pid ≡ cond (p.body.subreaper && not (pid == dying)) pid (found_above w dying more p.links.parent)
unfolding found_above
above_one w dying more pid p is =
    ap (λ o. unwrap_or (find (takes_children w dying) (cond (is_some o) (pid ∷ line_up more w (parent_of o)) [])) INIT) is
    ∙ ap (λ o. unwrap_or (cond (is_subreaper o && not (pid == dying)) (Some pid) (find (takes_children w dying) (line_up more w p.links.parent))) INIT) is
    ∙ chosen (p.body.subreaper && not (pid == dying))
  where
    chosen : (b : Bool)
        → unwrap_or (cond b (Some pid) (find (takes_children w dying) (line_up more w p.links.parent))) INIT
        ≡ cond b pid (unwrap_or (find (takes_children w dying) (line_up more w p.links.parent)) INIT)
    chosen true = refl
    chosen false = refl

after_one : (w : World) (dying n pid : ℕ) (p : Proc) → n < PROCESSES → at w pid ≡ Some p → new_parent w dying ≡ found_above w dying (PROCESSES - n) pid
    → new_parent w dying ≡ cond (p.body.subreaper && not (pid == dying)) pid (found_above w dying (PROCESSES - (n + 1)) p.links.parent)
after_one w dying n pid p lt is so_far = so_far ∙ ap (λ more. found_above w dying more pid) (one_less n lt) ∙ above_one w dying (PROCESSES - (n + 1)) pid p is

-- one who takes children is found
pub taken_by : (w : World) (dying n pid : ℕ) (p : Proc) → n < PROCESSES → at w pid ≡ Some p → new_parent w dying ≡ found_above w dying (PROCESSES - n) pid
    → (p.body.subreaper && not (pid == dying)) ≡ true → pid ≡ new_parent w dying
taken_by w dying n pid p lt is so_far takes = sym (after_one w dying n pid p lt is so_far ∙ ap (λ b. cond b pid (found_above w dying (PROCESSES - (n + 1)) p.links.parent)) takes)

-- one who does not is passed over
pub passed_over : (w : World) (dying n pid : ℕ) (p : Proc) → n < PROCESSES → at w pid ≡ Some p → new_parent w dying ≡ found_above w dying (PROCESSES - n) pid
    → (p.body.subreaper && not (pid == dying)) ≡ false → new_parent w dying ≡ found_above w dying (PROCESSES - (n + 1)) p.links.parent
passed_over w dying n pid p lt is so_far not = after_one w dying n pid p lt is so_far ∙ ap (λ b. cond b pid (found_above w dying (PROCESSES - (n + 1)) p.links.parent)) not

-- where nobody is the way ends
pub ends_at_nobody : (w : World) (dying n pid : ℕ) → n < PROCESSES → at w pid ≡ None → new_parent w dying ≡ found_above w dying (PROCESSES - n) pid → INIT ≡ new_parent w dying
unfolding found_above
ends_at_nobody w dying n pid lt none so_far = sym (
    so_far
    ∙ ap (λ more. found_above w dying more pid) (one_less n lt)
    ∙ ap (λ o. unwrap_or (find (takes_children w dying) (cond (is_some o) (pid ∷ line_up (PROCESSES - (n + 1)) w (parent_of (at w pid))) [])) INIT) none)

-- so it does once so many are asked
pub ends_after_all : (w : World) (dying n pid : ℕ) → PROCESSES ≤ n → new_parent w dying ≡ found_above w dying (PROCESSES - n) pid → INIT ≡ new_parent w dying
unfolding found_above
ends_after_all w dying n pid all so_far =
    let none_left : PROCESSES - n ≡ 0 = omega arith in
    sym (so_far ∙ ap (λ more. unwrap_or (find (takes_children w dying) (line_up more w pid)) INIT) none_left)
