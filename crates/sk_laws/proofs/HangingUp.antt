-- What it leaves of the world that groups are hung up.
use Rattle.std.proofs.Common.{◌≡◌, ◌∙◌, ◌==◌, ℕ, ap, refl, Bool, true, false, not, ◌&&◌, filter, IsTrue, Option, None, Some}
use Rattle.sk_laws.specs.Common.{option_map, SIGCHLD, SIGCONT, INIT, Proc, pids, World, at, has_ended, is_stopped, is_zombie, is_alive, is_member_of, parent_of, body_changed, signalled, generated_at, sent, ended, is_orphaned, is_left_orphaned, groups, each_hung_up, ended_and_hung_up}
use Rattle.sk_world.proofs.Common.{cond_both, cond-true}
use Rattle.sk_world.proofs.Stored.{everywhere}
use Rattle.sk_world.proofs.Walks.{none_any, none_left}
use Rattle.sk_laws.specs.ChangeLaws.{unsignalled, KeepsRights}
use Rattle.sk_laws.proofs.Locality.{sent_leaves}
use Rattle.sk_laws.proofs.Rights.{stays, kept_twice, sent_rights, ended_rights}
use Rattle.sk_machine.proofs.HangingUp.{ended_by, sent_life}
use Rattle.sk_laws.specs.HangingUpLaws.{EndKeepsRights, HangingUpKeepsAllElse, HangingUpEndsNobody, HangingUpKeepsZombies, EndWithoutStopped}

-- ---- the rights

twice : (v w x : World) → KeepsRights v w → KeepsRights w x → KeepsRights v x
twice v w x first later = λ q. kept_twice (at v q) (at w q) (at x q) (first q) (later q)

pub rights_kept : EndKeepsRights
rights_kept w pid status =
    twice w (ended w pid status) (ended_and_hung_up w pid status) (ended_rights w pid status)
    (ended_by KeepsRights (λ w q. stays (at w q)) twice sent_rights w pid status)

-- ---- all but signals, life and note

LeavesAllElse : World → World → Type 0
LeavesAllElse v w = (q : ℕ) → option_map unsignalled (at w q) ≡ option_map unsignalled (at v q)

pub all_else_kept : HangingUpKeepsAllElse
unfolding LeavesAllElse
all_else_kept = ended_by LeavesAllElse (λ w q. refl) (λ v w x f g q. g q ∙ f q) sent_leaves

-- ---- who lives

KeepsLife : World → World → Type 0
KeepsLife v w = (q : ℕ) → is_alive (at w q) ≡ is_alive (at v q)

pub nobody_ends : HangingUpEndsNobody
unfolding KeepsLife
nobody_ends = ended_by KeepsLife (λ w q. refl) (λ v w x f g q. g q ∙ f q) sent_life

-- ---- zombies

KeepsZombies : World → World → Type 0
KeepsZombies v w = (q : ℕ) → IsTrue (is_zombie (at v q)) → at w q ≡ at v q

zombie_stays : (n : ℕ) (init : Bool) (o : Option Proc) → IsTrue (is_zombie o) → option_map (body_changed (signalled n init)) o ≡ o
zombie_stays n init None zombie = refl
zombie_stays n init (Some p) zombie = ap (λ body. Some (record p { body = body })) (cond-true (has_ended p.body.life) p.body _ zombie)

generated_zombie : (w : World) (pid n q : ℕ) → IsTrue (is_zombie (at w q)) → at (generated_at w pid n) q ≡ at w q
generated_zombie w pid n =
    everywhere w pid (option_map (body_changed (signalled n (pid == INIT))) (at w pid)) (λ q x. IsTrue (is_zombie (at w q)) → x ≡ at w q) (zombie_stays n (pid == INIT) (at w pid)) (λ q ne zombie. refl)

sent_zombie : (w : World) (pid n : ℕ) → (q : ℕ) → IsTrue (is_zombie (at w q)) → at (sent w pid n) q ≡ at w q
sent_zombie w pid n q zombie =
    let first = generated_zombie w pid n q zombie in
    cond_both ((n == SIGCONT) && is_stopped (at w pid)) (generated_at (generated_at w pid n) (parent_of (at w pid)) SIGCHLD) (generated_at w pid n) (λ v. at v q ≡ at w q)
    (λ _. generated_zombie (generated_at w pid n) (parent_of (at w pid)) SIGCHLD q (ap is_zombie first ∙ zombie) ∙ first)
    (λ _. first)

pub zombies_kept : HangingUpKeepsZombies
unfolding KeepsZombies
zombies_kept w pid status q zombie =
    ended_by KeepsZombies (λ w q zombie. refl) (λ v w x f g q zombie. g q (ap is_zombie (f q zombie) ∙ zombie) ∙ f q zombie) sent_zombie w pid status q zombie

-- ---- nobody is stopped

and_none : (b : Bool) → (b && false) ≡ false
and_none true = refl
and_none false = refl

pub nobody_hung_up : EndWithoutStopped
nobody_hung_up w pid status none =
    let after : World = ended w pid status in
    cond_both (pid == INIT) after (each_hung_up after (filter (is_left_orphaned w after) (groups after))) (λ v. v ≡ after)
    (λ _. refl) (λ _. ap (each_hung_up after) (none_left (is_left_orphaned w after) (groups after) (λ group.
    ap (λ b. (not (is_orphaned w group) && is_orphaned after group) && b) (none_any _ (pids after.procs) (λ q. ap (λ b. b && is_member_of group (at after q)) (none q)))
    ∙ and_none (not (is_orphaned w group) && is_orphaned after group))))
