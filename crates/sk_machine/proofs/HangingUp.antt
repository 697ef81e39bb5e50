-- What it leaves of the world that groups are hung up.
use Rattle.std.proofs.Common.{◌≡◌, ◌∙◌, ◌==◌, ℕ, ap, sym, refl, Bool, cond, not, ◌&&◌, List, [], ◌∷◌, filter, Option, None, Some}
use Rattle.std.specs.Option.{option_map}
use Rattle.std.proofs.lemmas.Bool.{cond_both}
use Rattle.sk_world.specs.declared.signals.TheConstants.{SIGHUP, SIGCHLD, SIGCONT}
use Rattle.sk_world.specs.Generation.{generated}
use Rattle.sk_world.specs.declared.process.TheConstants.{INIT}
use Rattle.sk_world.specs.declared.process.Life.TheVariants.{Running}
use Rattle.sk_world.specs.declared.process.Note.TheVariants.{Continued}
use Rattle.sk_world.specs.declared.process.Body.{Body}
use Rattle.sk_world.specs.declared.process.Proc.{Proc}
use Rattle.sk_world.specs.Processes.{pids}
use Rattle.sk_world.specs.World.{World, at, has_ended, has_stopped, is_stopped, is_alive, parent_of, body_changed}
use Rattle.sk_world.specs.Rules.{IsWorld}
use Rattle.sk_world.specs.Sending.{continued, signalled, generated_at, sent, sent_to_each}
use Rattle.sk_world.specs.Ending.{ended}
use Rattle.sk_world.proofs.Stored.{everywhere}
use Rattle.sk_world.proofs.Kept.{kept_sent}
use Rattle.sk_world.proofs.KeptEnd.{kept_ended}
use Rattle.sk_machine.specs.Orphans.{is_living_member, is_left_orphaned, groups, sent_to_group, hung_up, each_hung_up, ended_and_hung_up}
use Rattle.sk_machine.specs.laws.SessionLaws.{EndKeepsRules}

-- ---- what every signal leaves the many signals of a hanging up leave

-- what relates each world to the one after a signal, and goes on over two changes, relates the worlds before and after
-- the hanging up
module _ (R : World → World → Type 0) (same : (w : World) → R w w) (then : (v w x : World) → R v w → R w x → R v x) (once : (w : World) (pid n : ℕ) → R w (sent w pid n)) where
  pub each_sent_by : (w : World) (to : List ℕ) (n : ℕ) → R w (sent_to_each w to n)
  each_sent_by w [] n = same w
  each_sent_by w (pid ∷ rest) n = then w (sent w pid n) _ (once w pid n) (each_sent_by (sent w pid n) rest n)

  group_sent_by : (w : World) (group n : ℕ) → R w (sent_to_group w group n)
  group_sent_by w group n = each_sent_by w (filter (λ pid. is_living_member group (at w pid)) (pids w.procs)) n

  pub hung_up_by : (w : World) (group : ℕ) → R w (hung_up w group)
  hung_up_by w group =
      let told : World = sent_to_group w group SIGHUP in
      then w told (sent_to_group told group SIGCONT) (group_sent_by w group SIGHUP) (group_sent_by told group SIGCONT)

  pub each_hung_up_by : (w : World) (groups : List ℕ) → R w (each_hung_up w groups)
  each_hung_up_by w [] = same w
  each_hung_up_by w (group ∷ rest) = then w (hung_up w group) _ (hung_up_by w group) (each_hung_up_by (hung_up w group) rest)

  pub ended_by : (w : World) (pid status : ℕ) → R (ended w pid status) (ended_and_hung_up w pid status)
  ended_by w pid status =
      let after : World = ended w pid status in
      cond_both (pid == INIT) after (each_hung_up after (filter (is_left_orphaned w after) (groups after))) (λ v. R after v)
      (λ _. same after) (λ _. each_hung_up_by after (filter (is_left_orphaned w after) (groups after)))

-- ---- the rules

KeepsRules : World → World → Type 0
KeepsRules v w = IsWorld v → IsWorld w

pub kept_sent_to_each : (w : World) (to : List ℕ) (n : ℕ) → IsWorld w → IsWorld (sent_to_each w to n)
unfolding KeepsRules
kept_sent_to_each w to n = each_sent_by KeepsRules (λ w rules. rules) (λ v w x f g rules. g (f rules)) (λ w pid n. kept_sent w pid n) w to n

pub kept_ended_and_hung_up : EndKeepsRules
unfolding KeepsRules
kept_ended_and_hung_up w pid status rules alive =
    ended_by KeepsRules (λ w rules. rules) (λ v w x f g rules. g (f rules)) (λ w pid n. kept_sent w pid n) w pid status (kept_ended w pid status rules alive)

-- ---- who lives

-- a signal ends nobody
signalled_ends : (n : ℕ) (init : Bool) (body : Body) → has_ended (signalled n init body).life ≡ has_ended body.life
signalled_ends n init body =
    let after : Body = record body { signals = generated n init body.signals } in
    cond_both (has_ended body.life) body (cond (n == SIGCONT) (continued after) after) (λ x. has_ended x.life ≡ has_ended body.life) (λ _. refl)
    (λ living. cond_both (n == SIGCONT) (continued after) after (λ x. has_ended x.life ≡ has_ended body.life)
    (λ _. cond_both (has_stopped body.life) (record after { life = Running; note = Continued }) after (λ x. has_ended x.life ≡ has_ended body.life) (λ _. sym living) (λ _. refl))
    (λ _. refl))

same_life : (n : ℕ) (init : Bool) (o : Option Proc) → is_alive (option_map (body_changed (signalled n init)) o) ≡ is_alive o
same_life n init None = refl
same_life n init (Some p) = ap not (signalled_ends n init p.body)

generated_life : (w : World) (pid n q : ℕ) → is_alive (at (generated_at w pid n) q) ≡ is_alive (at w q)
generated_life w pid n = everywhere w pid (option_map (body_changed (signalled n (pid == INIT))) (at w pid)) (λ q x. is_alive x ≡ is_alive (at w q)) (same_life n (pid == INIT) (at w pid)) (λ q ne. refl)

pub sent_life : (w : World) (pid n q : ℕ) → is_alive (at (sent w pid n) q) ≡ is_alive (at w q)
sent_life w pid n q =
    cond_both ((n == SIGCONT) && is_stopped (at w pid)) (generated_at (generated_at w pid n) (parent_of (at w pid)) SIGCHLD) (generated_at w pid n) (λ v. is_alive (at v q) ≡ is_alive (at w q))
    (λ _. generated_life (generated_at w pid n) (parent_of (at w pid)) SIGCHLD q ∙ generated_life w pid n q)
    (λ _. generated_life w pid n q)
