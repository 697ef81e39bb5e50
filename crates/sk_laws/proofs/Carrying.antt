-- What holds of each process through signals, ends and waits, and links and notes, holds through every call that does no more.
use Rattle.std.proofs.Common.{◌≡◌, ◌∙◌, ℕ, ℤ, ◌==◌, ◌&&◌, ap, refl, not, length, nat_le, IsTrue, IfOk, List, [], ◌∷◌, Option, None, Some, Result, Ok, Err}
use Rattle.std.specs.Prelude.{filter}
use Rattle.sk_laws.specs.Common.{is_some, option_map, is_negative, Record, Errno, Eperm, Esrch, Einval, SIGHUP, SIGKILL, SIGSEGV, SIGCHLD, SIGCONT, SIGSYS, FRAMES, DefaultAction, Disposition, Signals, default_action, is_tty_stop, SignalState, disposition_of, INIT, Links, Body, Proc, Waiting, Request, Poll, pids, World, at, parent_of, body_changed, changed, relinked, sent, sent_to_each, ended, is_no_hang, ready_of, told, is_living_member, is_orphaned, is_left_orphaned, groups, sent_to_group, hung_up, each_hung_up, ended_and_hung_up, group_of, pid_named, is_group, links_in_group, links_of_leader, may_regroup, put_into_group, regrouped, after_setpgid, after_setsid, unsigned, authority_of, Performed, returns, fails, asked, changes, waiting_in, waits, with_signals, resignals, targets, permitted, killed, after_kill, are_wait_options, request_of, polled, wait4, polled_again, resumed, Delivered, terminated_by, in_handler, enters_handler, stopping, ignored, acts_by_default, acts_by_disposition, taking, acted_on, delivered, stopped_by, Creds}
use Rattle.sk_world.proofs.Common.{cond_both}
use Rattle.sk_world.specs.declared.disposition.DefaultAction.TheVariants as default
use Rattle.sk_world.proofs.Stored.{at_here}

-- a change of a process that leaves its authority and its mark
abbrev pub IsOrdinary : (Body → Body) → Type 0
IsOrdinary g = (body : Body) → (authority_of (g body) ≡ authority_of body) × ((g body).subreaper ≡ body.subreaper)

-- a relation of worlds holds where nothing changes, step by step, and of the changes that calls and deliveries are
-- made of
pub record Carries (R : World → World → Type 0) : Type 0 where
  pub still : (w : World) → R w w
  pub twice : (v w x : World) → R v w → R w x → R v x
  pub changed : (w : World) (pid : ℕ) (g : Body → Body) → IsOrdinary g → R w (changed w pid g)
  pub links : (w : World) (pid : ℕ) (f : Links → Links) → ((l : Links) → (f l).parent ≡ l.parent) → R w (relinked w pid f)
  pub sent : (w : World) (pid n : ℕ) → R w (sent w pid n)
  pub ended : (w : World) (pid status : ℕ) → IsTrue (is_some (at w pid)) → R w (ended w pid status)
  pub telling : (w : World) (child status : ℕ) → R w (told w (Poll.Told child status))

pub over_told : (R : World → World → Type 0) (c : Carries R) (w : World) (p : Poll) → R w (told w p)
over_told R c w (Poll.Told child status) = c.telling w child status
over_told R c w Poll.NoMatch = c.still w
over_told R c w Poll.NotReady = c.still w

-- ---- calls
pub over_asked : (R : World → World → Type 0) (c : Carries R) (w : World) (r : Result ℕ Errno) → R w (asked w r).world
over_asked R c w (Ok n) = c.still w
over_asked R c w (Err e) = c.still w

pub over_changes : (R : World → World → Type 0) (c : Carries R) (w : World) (n : ℕ) (r : Result World Errno) → IfOk r (R w) → R w (changes w n r).world
over_changes R c w n (Ok after) kept = kept
over_changes R c w n (Err e) kept = c.still w

pub over_resignals : (R : World → World → Type 0) (c : Carries R) (w : World) (pid : ℕ) (r : Result SignalState Errno) → R w (resignals w pid r).world
over_resignals R c w pid (Ok s) = c.changed w pid (with_signals s) (λ body. (refl, refl))
over_resignals R c w pid (Err e) = c.still w

pub over_waits : (R : World → World → Type 0) (c : Carries R) (w : World) (pid : ℕ) (what : Waiting) → R w (waits w pid what).world
over_waits R c w pid what = c.changed w pid (waiting_in what) (λ body. (refl, refl))

pub over_sent_to_each : (R : World → World → Type 0) (c : Carries R) (w : World) (to : List ℕ) (n : ℕ) → R w (sent_to_each w to n)
over_sent_to_each R c w [] n = c.still w
over_sent_to_each R c w (pid ∷ rest) n = c.twice w (sent w pid n) (sent_to_each (sent w pid n) rest n) (c.sent w pid n) (over_sent_to_each R c (sent w pid n) rest n)

pub over_kill : (R : World → World → Type 0) (c : Carries R) (w : World) (caller : ℕ) (creds : Creds) (who : ℤ) (n : ℕ) → IfOk (after_kill w caller creds who n) (R w)
over_kill R c w caller creds who n =
    cond_both (not (nat_le n 31)) (Err Einval) _ (λ r. IfOk r (R w)) (λ _. tt)
    (λ _. cond_both (length (targets w caller who) == 0) (Err Esrch) _ (λ r. IfOk r (R w)) (λ _. tt)
    (λ _. cond_both (length (permitted w caller creds who n) == 0) (Err Eperm) (Ok (killed w (permitted w caller creds who n) n)) (λ r. IfOk r (R w)) (λ _. tt)
    (λ _. cond_both (n == 0) w (sent_to_each w (permitted w caller creds who n) n) (R w) (λ _. c.still w) (λ _. over_sent_to_each R c w (permitted w caller creds who n) n))))

pub over_put : (R : World → World → Type 0) (c : Carries R) (w : World) (target group : ℕ) (r : Result (Unit {0}) Errno) → IfOk (put_into_group w target group r) (R w)
over_put R c w target group (Ok _) = c.links w target (links_in_group group) (λ l. refl)
over_put R c w target group (Err e) = tt

pub over_setpgid : (R : World → World → Type 0) (c : Carries R) (w : World) (caller : ℕ) (pid group : ℤ) → IfOk (after_setpgid w caller pid group) (R w)
over_setpgid R c w caller pid group =
    let target : ℕ = pid_named caller pid in
    cond_both (is_negative group) (Err Einval) (regrouped w caller target (pid_named target group)) (λ r. IfOk r (R w)) (λ _. tt)
    (λ _. over_put R c w target (pid_named target group) (may_regroup w caller target (pid_named target group)))

pub over_setsid : (R : World → World → Type 0) (c : Carries R) (w : World) (caller : ℕ) → IfOk (after_setsid w caller) (R w)
over_setsid R c w caller =
    cond_both (is_group w caller) (Err Eperm) (Ok (relinked w caller (links_of_leader caller))) (λ r. IfOk r (R w)) (λ _. tt)
    (λ _. c.links w caller (links_of_leader caller) (λ l. refl))

pub over_polled : (R : World → World → Type 0) (c : Carries R) (w : World) (pid : ℕ) (request : Request) (p : Poll) → R w (polled w pid request p).world
over_polled R c w pid request (Poll.Told child status) = over_told R c w (Poll.Told child status)
over_polled R c w pid request Poll.NoMatch = c.still w
over_polled R c w pid request Poll.NotReady =
    cond_both (is_no_hang request.options) (returns w 0) (waits w pid (Waiting.Asks request)) (λ (p : Performed). R w p.world) (λ _. c.still w)
    (λ _. over_waits R c w pid (Waiting.Asks request))

pub over_wait4 : (R : World → World → Type 0) (c : Carries R) (w : World) (pid : ℕ) (call : Record) → R w (wait4 w pid call).world
over_wait4 R c w pid call =
    cond_both (not (are_wait_options (unsigned call 2))) (fails w Einval) _ (λ (p : Performed). R w p.world) (λ _. c.still w)
    (λ _. cond_both (unsigned call 0 == 2147483648) (fails w Esrch) _ (λ (p : Performed). R w p.world) (λ _. c.still w)
    (λ _. over_polled R c w pid (request_of w pid call) (ready_of w pid (request_of w pid call))))

-- ---- deliveries and resumptions
-- the groups that an end leaves orphaned are hung up by signals alone
over_sent_to_group : (R : World → World → Type 0) (c : Carries R) (w : World) (group n : ℕ) → R w (sent_to_group w group n)
over_sent_to_group R c w group n = over_sent_to_each R c w (filter (λ pid. is_living_member group (at w pid)) (pids w.procs)) n

over_hung_up : (R : World → World → Type 0) (c : Carries R) (w : World) (group : ℕ) → R w (hung_up w group)
over_hung_up R c w group =
    let told : World = sent_to_group w group SIGHUP in
    c.twice w told (sent_to_group told group SIGCONT) (over_sent_to_group R c w group SIGHUP) (over_sent_to_group R c told group SIGCONT)

over_each_hung_up : (R : World → World → Type 0) (c : Carries R) (w : World) (left : List ℕ) → R w (each_hung_up w left)
over_each_hung_up R c w [] = c.still w
over_each_hung_up R c w (group ∷ rest) =
    c.twice w (hung_up w group) (each_hung_up (hung_up w group) rest) (over_hung_up R c w group) (over_each_hung_up R c (hung_up w group) rest)

pub over_end : (R : World → World → Type 0) (c : Carries R) (w : World) (pid status : ℕ) → IsTrue (is_some (at w pid)) → R w (ended_and_hung_up w pid status)
over_end R c w pid status there =
    let after : World = ended w pid status in
    let left : List ℕ = filter (is_left_orphaned w after) (groups after) in
    cond_both (pid == INIT) after (each_hung_up after left) (R w) (λ _. c.ended w pid status there)
    (λ _. c.twice w after (each_hung_up after left) (c.ended w pid status there) (over_each_hung_up R c after left))

over_handler : (R : World → World → Type 0) (c : Carries R) (w : World) (pid : ℕ) (body : Body) (n program : ℕ) (mask : Signals)
    → IsTrue (is_some (at w pid)) → R w (enters_handler w pid body n program mask).world
over_handler R c w pid body n program mask there =
    cond_both (length body.signals.frames == FRAMES) (terminated_by w pid SIGSEGV) _ (λ (d : Delivered). R w d.world) (λ _. over_end R c w pid SIGSEGV there)
    (λ _. c.changed w pid (in_handler n mask) (λ body. (refl, refl)))

over_stop : (R : World → World → Type 0) (c : Carries R) (w : World) (pid n : ℕ) → R w (stopped_by w pid n).world
over_stop R c w pid n =
    let stopped : World = changed w pid (stopping n) in
    c.twice w stopped (sent stopped (parent_of (at w pid)) SIGCHLD) (c.changed w pid (stopping n) (λ body. (refl, refl))) (c.sent stopped (parent_of (at w pid)) SIGCHLD)

over_default : (R : World → World → Type 0) (c : Carries R) (w : World) (pid n : ℕ) (a : DefaultAction) → IsTrue (is_some (at w pid)) → R w (acts_by_default w pid n a).world
over_default R c w pid n default.Ignore there = c.still w
over_default R c w pid n default.Continue there = c.still w
over_default R c w pid n default.Stop there =
    cond_both (is_tty_stop n && is_orphaned w (group_of (at w pid))) (ignored w) (stopped_by w pid n) (λ (d : Delivered). R w d.world) (λ _. c.still w) (λ _. over_stop R c w pid n)
over_default R c w pid n default.Terminate there = over_end R c w pid n there

over_disposition : (R : World → World → Type 0) (c : Carries R) (w : World) (pid : ℕ) (body : Body) (n : ℕ) (d : Disposition)
    → IsTrue (is_some (at w pid)) → R w (acts_by_disposition w pid body n d).world
over_disposition R c w pid body n Disposition.Ignore there = c.still w
over_disposition R c w pid body n (Disposition.Handler program mask) there = over_handler R c w pid body n program mask there
over_disposition R c w pid body n Disposition.Default there =
    cond_both ((pid == INIT) && not (n == SIGSYS)) (ignored w) (acts_by_default w pid n (default_action n)) (λ (d : Delivered). R w d.world) (λ _. c.still w)
    (λ _. over_default R c w pid n (default_action n) there)

over_acted_on : (R : World → World → Type 0) (c : Carries R) (w : World) (pid : ℕ) (body : Body) (n : ℕ) → IsTrue (is_some (at w pid)) → R w (acted_on w pid body n).world
over_acted_on R c w pid body n there =
    cond_both (n == SIGKILL) (terminated_by w pid SIGKILL) _ (λ (d : Delivered). R w d.world) (λ _. over_end R c w pid SIGKILL there)
    (λ _. over_disposition R c w pid body n (disposition_of body.signals n) there)

stays_there : (w : World) (pid : ℕ) (f : Body → Body) → IsTrue (is_some (at w pid)) → IsTrue (is_some (at (changed w pid f) pid))
stays_there w pid f there = ap is_some (at_here w pid (option_map (body_changed f) (at w pid))) ∙ same (at w pid) ∙ there
  where
    same : (o : Option Proc) → is_some (option_map (body_changed f) o) ≡ is_some o
    same None = refl
    same (Some p) = refl

pub over_delivered : (R : World → World → Type 0) (c : Carries R) (w : World) (pid : ℕ) (body : Body) (n : ℕ) → IsTrue (is_some (at w pid))
    → R w (delivered w pid body n).world
over_delivered R c w pid body n there =
    let took : World = changed w pid (taking n) in
    c.twice w took (acted_on took pid (taking n body) n).world (c.changed w pid (taking n) (λ body. (refl, refl))) (over_acted_on R c took pid (taking n body) n (stays_there w pid (taking n) there))

pub over_polled_again : (R : World → World → Type 0) (c : Carries R) (w : World) (pid : ℕ) (p : Poll) → R w (polled_again w pid p).world
over_polled_again R c w pid (Poll.Told child status) =
    let after : World = told w (Poll.Told child status) in
    c.twice w after (changed after pid (waiting_in Waiting.Nothing)) (over_told R c w (Poll.Told child status)) (c.changed after pid (waiting_in Waiting.Nothing) (λ body. (refl, refl)))
over_polled_again R c w pid Poll.NoMatch = c.changed w pid (waiting_in Waiting.Nothing) (λ body. (refl, refl))
over_polled_again R c w pid Poll.NotReady = c.still w

pub over_resumed : (R : World → World → Type 0) (c : Carries R) (w : World) (pid : ℕ) (waiting : Waiting) → R w (resumed w pid waiting).world
over_resumed R c w pid (Waiting.Asks request) = over_polled_again R c w pid (ready_of w pid request)
over_resumed R c w pid Waiting.Pause = c.still w
over_resumed R c w pid Waiting.Nothing = c.still w
