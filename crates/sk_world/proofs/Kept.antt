-- Each change of the world keeps its rules.
use Rattle.std.proofs.Common.{◌≡◌, ◌≢◌, ◌≤◌, ◌==◌, ℕ, sym, refl, Bool, cond, ◌&&◌, IsTrue, Option, None, Some}
use Rattle.std.proofs.Common.{lit≤}
use Rattle.sk_world.specs.Common.{is_some, SIGCHLD, SIGCONT, generated, sigsys_forced, INIT, LAST_PID, Running, Continued, Body, Proc, none, World, at, has_ended, has_stopped, is_stopped, is_alive, parent_of, first_process, opening, IsWorld, has_links_within, continued, signalled, generated_at}
use Rattle.sk_world.proofs.Common.{false≢true, cond_both}
use Rattle.sk_world.specs.laws.WorldLaws.{OpeningHasRules, SignalKeepsRules, ForceKeepsRules}
use Rattle.sk_world.proofs.Stored.{everywhere, kept_changed}

-- process 1 alone
opening_at : (P : ℕ → Option Proc → Type 0) → P INIT (Some first_process) → ((q : ℕ) → P q None) → (q : ℕ) → P q (at opening q)
opening_at P here there = everywhere (record { procs = none; last = INIT }) INIT (Some first_process) P here (λ q ne. there q)

pub kept_opening : OpeningHasRules
kept_opening = record {
  init = refl;
  room = lit≤ tt;
  pids = opening_at (λ q x. IsTrue (is_some x) → (1 ≤ q) × (q ≤ LAST_PID)) (λ h. (lit≤ tt, lit≤ tt)) (λ q h. absurd (false≢true h));
  links = opening_at (λ q x. IsTrue (has_links_within x)) refl (λ q. refl);
  last = (lit≤ tt, lit≤ tt);
  parents = λ going. opening_at (λ q x. q ≢ INIT → IsTrue (is_some x) → IsTrue (is_alive (at opening (parent_of x)))) (λ ne. absurd (ne refl)) (λ q ne h. absurd (false≢true h));
}

-- signals
signalled_ended : (n : ℕ) (init : Bool) (body : Body) → has_ended (signalled n init body).life ≡ has_ended body.life
signalled_ended n init body =
    let after : Body = record body { signals = generated n init body.signals } in
    cond_both (has_ended body.life) body (cond (n == SIGCONT) (continued after) after) (λ x. has_ended x.life ≡ has_ended body.life) (λ h. refl)
    (λ living. cond_both (n == SIGCONT) (continued after) after (λ x. has_ended x.life ≡ has_ended body.life)
    (λ h. cond_both (has_stopped body.life) (record after { life = Running; note = Continued }) after (λ x. has_ended x.life ≡ has_ended body.life) (λ s. sym living) (λ s. refl))
    (λ h. refl))

signalled_stopped : (n : ℕ) (init : Bool) (body : Body) → IsTrue (has_stopped (signalled n init body).life) → IsTrue (has_stopped body.life)
signalled_stopped n init body =
    let after : Body = record body { signals = generated n init body.signals } in
    cond_both (has_ended body.life) body (cond (n == SIGCONT) (continued after) after) (λ x. IsTrue (has_stopped x.life) → IsTrue (has_stopped body.life)) (λ _ h. h)
    (λ living. cond_both (n == SIGCONT) (continued after) after (λ x. IsTrue (has_stopped x.life) → IsTrue (has_stopped body.life))
    (λ c. cond_both (has_stopped body.life) (record after { life = Running; note = Continued }) after (λ x. IsTrue (has_stopped x.life) → IsTrue (has_stopped body.life)) (λ s h. s) (λ s h. h))
    (λ c h. h))

pub kept_generated : (w : World) (pid n : ℕ) → IsWorld w → IsWorld (generated_at w pid n)
kept_generated w pid n rules = kept_changed w pid (signalled n (pid == INIT)) rules (λ p is. record {
  ended = signalled_ended n (pid == INIT) p.body;
  init = λ e. signalled_stopped n (pid == INIT) p.body;
})

pub kept_sent : SignalKeepsRules
kept_sent w pid n rules =
    cond_both ((n == SIGCONT) && is_stopped (at w pid)) (generated_at (generated_at w pid n) (parent_of (at w pid)) SIGCHLD) (generated_at w pid n) IsWorld
    (λ _. kept_generated (generated_at w pid n) (parent_of (at w pid)) SIGCHLD (kept_generated w pid n rules))
    (λ _. kept_generated w pid n rules)

pub kept_forced : ForceKeepsRules
kept_forced w pid rules = kept_changed w pid (λ body. record body { signals = sigsys_forced body.signals }) rules (λ p is. record { ended = refl; init = λ e h. h })
