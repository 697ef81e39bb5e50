-- Every event keeps the rules of the world.
use Rattle.std.proofs.Common.{◌≡◌, ◌≢◌, ◌∙◌, ℕ, ◌==◌, ◌&&◌, ap, sym, refl, subst, not, Bool, true, false, length, nat_le, IsTrue, IfOk, ℤ, List, [], ◌∷◌, ◌⊎◌, inl, inr, Option, None, Some, Result, Ok, Err}
use Rattle.std.specs.Prelude.{filter}
use Rattle.sk_laws.specs.Common.{option_map, Record, Action, action_of, verdict_of, Errno, Eperm, Esrch, Einval, SIGHUP, SIGKILL, SIGSEGV, SIGCHLD, SIGCONT, SIGSYS, FRAMES, DefaultAction, Disposition, Signals, default_action, is_tty_stop, SignalState, disposition_of, INIT, Body, Proc, Waiting, Request, Poll, pids, World, at, has_ended, has_stopped, is_alive, parent_of, body_changed, changed, opening, IsWorld, fork_answer, sent, sent_to_each, is_no_hang, ready_of, told, ended, is_living_member, is_orphaned, is_left_orphaned, groups, sent_to_group, hung_up, each_hung_up, ended_and_hung_up, group_of, Event, Call, Deliver, Resume, Fault, Syscall, pid_of, recorded, Images, syscall_of, register, unsigned, signed, Authority, with_authority, Performed, returns, fails, asked, changes, authorises, waiting_in, waits, with_signals, resignals, targets, permitted, killed, after_kill, are_wait_options, request_of, polled, wait4, polled_again, executing, execve, forks, subreaper_set, subreaper_asked, where_subreapers, with_subreaper, row, Delivered, signal_for, terminated_by, in_handler, enters_handler, stopping, stopped_by, ignored, acts_by_default, acts_by_disposition, taking, acted_on, judged, happened, step_of, Creds}
use Rattle.sk_world.proofs.Common.{cond_both, eqb-true, eqb-false, not-true, not-false}
use Rattle.sk_world.specs.declared.disposition.DefaultAction.TheVariants as default
use Rattle.sk_world.proofs.Stored.{at_here, kept_changed}
use Rattle.sk_world.proofs.Kept.{kept_opening, kept_sent, kept_forced}
use Rattle.sk_world.proofs.KeptFork.{kept_forked}
use Rattle.sk_world.proofs.KeptEnd.{kept_ended, alive_is_there}
use Rattle.sk_world.proofs.KeptTold.{kept_told}
use Rattle.sk_machine.proofs.KeptLinks.{kept_setpgid, kept_setsid}
use Rattle.sk_laws.specs.MachineLaws.{CallKeepsRules, DeliveryKeepsRules, ResumptionKeepsRules, EventKeepsRules, RunKeepsRules, ReachedHasRules}
use Rattle.sk_laws.proofs.Happened.{at_step, at_delivery}
use Rattle.sk_laws.proofs.EachCall.{each_call}

-- a change that leaves a process running, stopped or ended as it is
kept_body : (w : World) (pid : ℕ) (f : Body → Body) → IsWorld w → ((body : Body) → (f body).life ≡ body.life) → IsWorld (changed w pid f)
kept_body w pid f rules same =
    kept_changed w pid f rules (λ p is. record {
      ended = ap has_ended (same p.body);
      init = λ e h. subst (λ life. IsTrue (has_stopped life)) (same p.body) h;
    })

-- ---- calls
kept_asked : (w : World) (r : Result ℕ Errno) → IsWorld w → IsWorld (asked w r).world
kept_asked w (Ok n) rules = rules
kept_asked w (Err e) rules = rules

kept_changes : (w : World) (n : ℕ) (r : Result World Errno) → IsWorld w → IfOk r IsWorld → IsWorld (changes w n r).world
kept_changes w n (Ok after) rules kept = kept
kept_changes w n (Err e) rules kept = rules

kept_authorises : (w : World) (pid : ℕ) (r : Result Authority Errno) → IsWorld w → IsWorld (authorises w pid r).world
kept_authorises w pid (Ok a) rules = kept_body w pid (with_authority a) rules (λ body. refl)
kept_authorises w pid (Err e) rules = rules

kept_resignals : (w : World) (pid : ℕ) (r : Result SignalState Errno) → IsWorld w → IsWorld (resignals w pid r).world
kept_resignals w pid (Ok s) rules = kept_body w pid (with_signals s) rules (λ body. refl)
kept_resignals w pid (Err e) rules = rules

kept_execve : (w : World) (pid : ℕ) (r : Result Authority Errno) → IsWorld w → IsWorld (execve w pid r).world
kept_execve w pid (Ok a) rules = kept_body w pid (executing a) rules (λ body. refl)
kept_execve w pid (Err e) rules = rules

kept_forks : (w : World) (pid : ℕ) (r : Result ℕ Errno) → IsWorld w → IsTrue (is_alive (at w pid)) → IsWorld (forks w pid r).world
kept_forks w pid (Ok child) rules alive = kept_forked w pid rules alive
kept_forks w pid (Err e) rules alive = rules

kept_sent_to_each : (w : World) (to : List ℕ) (n : ℕ) → IsWorld w → IsWorld (sent_to_each w to n)
kept_sent_to_each w [] n rules = rules
kept_sent_to_each w (pid ∷ rest) n rules = kept_sent_to_each (sent w pid n) rest n (kept_sent w pid n rules)

kept_kill : (w : World) (caller : ℕ) (creds : Creds) (who : ℤ) (n : ℕ) → IsWorld w → IfOk (after_kill w caller creds who n) IsWorld
kept_kill w caller creds who n rules =
    cond_both (not (nat_le n 31)) (Err Einval) _ (λ r. IfOk r IsWorld) (λ _. tt)
    (λ _. cond_both (length (targets w caller who) == 0) (Err Esrch) _ (λ r. IfOk r IsWorld) (λ _. tt)
    (λ _. cond_both (length (permitted w caller creds who n) == 0) (Err Eperm) (Ok (killed w (permitted w caller creds who n) n)) (λ r. IfOk r IsWorld) (λ _. tt)
    (λ _. cond_both (n == 0) w (sent_to_each w (permitted w caller creds who n) n) IsWorld (λ _. rules) (λ _. kept_sent_to_each w (permitted w caller creds who n) n rules))))

-- the end of a process, and the groups that it leaves orphaned, which are hung up
kept_sent_to_group : (w : World) (group n : ℕ) → IsWorld w → IsWorld (sent_to_group w group n)
kept_sent_to_group w group n rules = kept_sent_to_each w (filter (λ pid. is_living_member group (at w pid)) (pids w.procs)) n rules

kept_each_hung_up : (w : World) (left : List ℕ) → IsWorld w → IsWorld (each_hung_up w left)
kept_each_hung_up w [] rules = rules
kept_each_hung_up w (group ∷ rest) rules =
    let told : World = sent_to_group w group SIGHUP in
    kept_each_hung_up (hung_up w group) rest (kept_sent_to_group told group SIGCONT (kept_sent_to_group w group SIGHUP rules))

kept_end : (w : World) (pid status : ℕ) → IsWorld w → IsTrue (is_alive (at w pid)) → IsWorld (ended_and_hung_up w pid status)
kept_end w pid status rules alive =
    let after : World = ended w pid status in
    let left : List ℕ = filter (is_left_orphaned w after) (groups after) in
    let kept : IsWorld after = kept_ended w pid status rules alive in
    cond_both (pid == INIT) after (each_hung_up after left) IsWorld (λ _. kept) (λ _. kept_each_hung_up after left kept)

kept_polled : (w : World) (pid : ℕ) (request : Request) (p : Poll) → IsWorld w → IsWorld (told w p) → IsWorld (polled w pid request p).world
kept_polled w pid request (Poll.Told child status) rules kept = kept
kept_polled w pid request Poll.NoMatch rules kept = rules
kept_polled w pid request Poll.NotReady rules kept =
    cond_both (is_no_hang request.options) (returns w 0) (waits w pid (Waiting.Asks request)) (λ (p : Performed). IsWorld p.world) (λ _. rules)
    (λ _. kept_body w pid (waiting_in (Waiting.Asks request)) rules (λ body. refl))

kept_wait4 : (w : World) (pid : ℕ) (call : Record) → IsWorld w → IsTrue (is_alive (at w pid)) → IsWorld (wait4 w pid call).world
kept_wait4 w pid call rules alive =
    cond_both (not (are_wait_options (unsigned call 2))) (fails w Einval) _ (λ (p : Performed). IsWorld p.world) (λ _. rules)
    (λ _. cond_both (unsigned call 0 == 2147483648) (fails w Esrch) _ (λ (p : Performed). IsWorld p.world) (λ _. rules)
    (λ _. kept_polled w pid (request_of w pid call) (ready_of w pid (request_of w pid call)) rules (kept_told w pid (request_of w pid call) rules (alive_is_there (at w pid) alive))))

kept_subreapers : (there : Bool) (w : World) (p : Performed) → IsWorld w → IsWorld p.world → IsWorld (where_subreapers there w p).world
kept_subreapers true w p rules kept = kept
kept_subreapers false w p rules kept = rules

kept_row : (declared : Images) (w : World) (pid : ℕ) (body : Body) (which : Option Syscall) (call : Record) → IsWorld w
    → IsTrue (is_alive (at w pid)) → IsWorld (row declared w pid body which call).world
kept_row declared w pid body which call rules alive =
    each_call declared w pid body call (λ _ p. IsWorld p.world) (record {
      answers = λ r. kept_asked w r rules;
      tells_signals = λ _. rules;
      tells_ids = rules;
      resignals = λ r. kept_resignals w pid r rules;
      authorises = λ r. kept_authorises w pid r rules;
      executes = λ r. kept_execve w pid r rules;
      marks = kept_subreapers declared.subreapers w (subreaper_set w pid call) rules (kept_body w pid (with_subreaper (not (register call 1 == 0))) rules (λ body. refl));
      asks_mark = kept_subreapers declared.subreapers w (subreaper_asked w body.subreaper) rules rules;
      pauses = kept_body w pid (waiting_in Waiting.Pause) rules (λ body. refl);
      waits_for = kept_wait4 w pid call rules alive;
      forks_one = kept_forks w pid (fork_answer w) rules alive;
      ends = λ status. kept_end w pid status rules alive;
      kills = kept_changes w 0 _ rules (kept_kill w pid body.creds (signed call 0) (unsigned call 1) rules);
      regroups = kept_changes w 0 _ rules (kept_setpgid w pid (signed call 0) (signed call 1) rules (alive_is_there (at w pid) alive));
      leads = kept_changes w pid _ rules (kept_setsid w pid rules (alive_is_there (at w pid) alive));
    }) which

pub kept_performed : CallKeepsRules
kept_performed declared w pid body call rules alive = kept_row declared w pid body (syscall_of call.nr) call rules alive

kept_judged : (declared : Images) (w : World) (pid : ℕ) (body : Body) (call : Record) (verdict : ℕ) (a : Action) → IsWorld w
    → IsTrue (is_alive (at w pid)) → IsWorld (judged declared w pid body call verdict a).world
kept_judged declared w pid body call verdict Action.Allow rules alive = kept_performed declared w pid body call rules alive
kept_judged declared w pid body call verdict Action.Log rules alive = kept_performed declared w pid body call rules alive
kept_judged declared w pid body call verdict Action.Trap rules alive = kept_forced w pid rules
kept_judged declared w pid body call verdict Action.Errno rules alive = rules
kept_judged declared w pid body call verdict Action.UserNotif rules alive = rules
kept_judged declared w pid body call verdict Action.Trace rules alive = rules
kept_judged declared w pid body call verdict Action.KillProcess rules alive = kept_end w pid SIGSYS rules alive
kept_judged declared w pid body call verdict Action.KillThread rules alive = kept_end w pid SIGSYS rules alive
kept_judged declared w pid body call verdict Action.Unknown rules alive = kept_end w pid SIGSYS rules alive

-- ---- deliveries
lives_on : (f : Body → Body) (o : Option Proc) → ((body : Body) → (f body).life ≡ body.life) → IsTrue (is_alive o) → IsTrue (is_alive (option_map (body_changed f) o))
lives_on f None same alive = alive
lives_on f (Some p) same alive = ap (λ life. not (has_ended life)) (same p.body) ∙ alive

still_alive : (w : World) (pid : ℕ) (f : Body → Body) → ((body : Body) → (f body).life ≡ body.life) → IsTrue (is_alive (at w pid)) → IsTrue (is_alive (at (changed w pid f) pid))
still_alive w pid f same alive = ap is_alive (at_here w pid (option_map (body_changed f) (at w pid))) ∙ lives_on f (at w pid) same alive

kept_handled : (w : World) (pid : ℕ) (body : Body) (n program : ℕ) (mask : Signals) → IsWorld w → IsTrue (is_alive (at w pid))
    → IsWorld (enters_handler w pid body n program mask).world
kept_handled w pid body n program mask rules alive =
    cond_both (length body.signals.frames == FRAMES) (terminated_by w pid SIGSEGV) _ (λ (d : Delivered). IsWorld d.world) (λ _. kept_end w pid SIGSEGV rules alive)
    (λ _. kept_body w pid (in_handler n mask) rules (λ body. refl))

kept_stopped : (w : World) (pid n : ℕ) → IsWorld w → IsTrue (is_alive (at w pid)) → pid ≢ INIT → IsWorld (stopped_by w pid n).world
kept_stopped w pid n rules alive other =
    kept_sent (changed w pid (stopping n)) (parent_of (at w pid)) SIGCHLD (kept_changed w pid (stopping n) rules (λ p is. record {
      ended = sym (not-true (has_ended p.body.life) (ap is_alive (sym is) ∙ alive));
      init = λ e. absurd (other e);
    }))

kept_default : (w : World) (pid n : ℕ) (a : DefaultAction) → IsWorld w → IsTrue (is_alive (at w pid)) → pid ≢ INIT → IsWorld (acts_by_default w pid n a).world
kept_default w pid n default.Ignore rules alive other = rules
kept_default w pid n default.Continue rules alive other = rules
kept_default w pid n default.Stop rules alive other =
    cond_both (is_tty_stop n && is_orphaned w (group_of (at w pid))) (ignored w) (stopped_by w pid n) (λ (d : Delivered). IsWorld d.world) (λ _. rules) (λ _. kept_stopped w pid n rules alive other)
kept_default w pid n default.Terminate rules alive other = kept_end w pid n rules alive

-- a SIGSYS ends any process
kept_sigsys : (w : World) (pid n : ℕ) → IsWorld w → IsTrue (is_alive (at w pid)) → n ≡ SIGSYS → IsWorld (acts_by_default w pid n (default_action n)).world
kept_sigsys w pid n rules alive is = subst (λ k. IsWorld (acts_by_default w pid k (default_action k)).world) (sym is) (kept_end w pid SIGSYS rules alive)

init_or_sigsys : (a b : Bool) → (a && not b) ≡ false → (a ≡ false) ⊎ (b ≡ true)
init_or_sigsys false b h = inl refl
init_or_sigsys true b h = inr (not-false b h)

kept_done_by : (w : World) (pid : ℕ) (body : Body) (n : ℕ) (d : Disposition) → IsWorld w → IsTrue (is_alive (at w pid))
    → IsWorld (acts_by_disposition w pid body n d).world
kept_done_by w pid body n Disposition.Ignore rules alive = rules
kept_done_by w pid body n (Disposition.Handler program mask) rules alive = kept_handled w pid body n program mask rules alive
kept_done_by w pid body n Disposition.Default rules alive =
    cond_both ((pid == INIT) && not (n == SIGSYS)) (ignored w) (acts_by_default w pid n (default_action n)) (λ (d : Delivered). IsWorld d.world) (λ _. rules)
    (λ h. elim (init_or_sigsys (pid == INIT) (n == SIGSYS) h) [
      | inl other ↦ kept_default w pid n (default_action n) rules alive (eqb-false pid INIT other)
      | inr sigsys ↦ kept_sigsys w pid n rules alive (eqb-true n SIGSYS sigsys)
    ])

kept_done : (w : World) (pid : ℕ) (body : Body) (n : ℕ) → IsWorld w → IsTrue (is_alive (at w pid)) → IsWorld (acted_on w pid body n).world
kept_done w pid body n rules alive =
    cond_both (n == SIGKILL) (terminated_by w pid SIGKILL) _ (λ (d : Delivered). IsWorld d.world) (λ _. kept_end w pid SIGKILL rules alive)
    (λ _. kept_done_by w pid body n (disposition_of body.signals n) rules alive)

pub kept_delivered : DeliveryKeepsRules
kept_delivered w pid body n rules alive =
    kept_done (changed w pid (taking n)) pid (taking n body) n (kept_body w pid (taking n) rules (λ body. refl)) (still_alive w pid (taking n) (λ body. refl) alive)

-- ---- a call in which a process waits
kept_polled_again : (w : World) (pid : ℕ) (p : Poll) → IsWorld w → IsWorld (told w p) → IsWorld (polled_again w pid p).world
kept_polled_again w pid (Poll.Told child status) rules kept = kept_body (told w (Poll.Told child status)) pid (waiting_in Waiting.Nothing) kept (λ body. refl)
kept_polled_again w pid Poll.NoMatch rules kept = kept_body w pid (waiting_in Waiting.Nothing) rules (λ body. refl)
kept_polled_again w pid Poll.NotReady rules kept = rules

pub kept_resumed : ResumptionKeepsRules
kept_resumed w pid (Waiting.Asks request) rules alive = kept_polled_again w pid (ready_of w pid request) rules (kept_told w pid request rules (alive_is_there (at w pid) alive))
kept_resumed w pid Waiting.Pause rules alive = rules
kept_resumed w pid Waiting.Nothing rules alive = rules

-- ---- events
pub kept_happened : (declared : Images) (w : World) (body : Body) (event : Event) → IsWorld w → IsTrue (is_alive (at w (pid_of event)))
    → IsWorld (happened declared w body event).world
kept_happened declared w body (Call pid ip asked) rules alive =
    let call : Record = recorded ip asked in
    let verdict : ℕ = verdict_of body.chain call in
    kept_judged declared w pid body call verdict (action_of verdict) rules alive
kept_happened declared w body (Deliver pid) rules alive = at_delivery w pid body (signal_for body) (λ s. IsWorld s.world) rules (λ n. kept_delivered w pid body n rules alive)
kept_happened declared w body (Resume pid) rules alive = kept_resumed w pid body.waiting rules alive
kept_happened declared w body (Fault pid) rules alive = kept_end w pid SIGSEGV rules alive

pub kept_step : EventKeepsRules
kept_step declared w event rules = at_step declared w event (λ s. IsWorld s.world) (λ _ _. rules) (λ p there alive. kept_happened declared w p.body event rules alive)

pub kept_run : RunKeepsRules
kept_run declared w [] rules = rules
kept_run declared w (event ∷ events) rules = kept_run declared (step_of declared w event).world events (kept_step declared w event rules)

pub kept_reached : ReachedHasRules
kept_reached declared events = kept_run declared opening events kept_opening
