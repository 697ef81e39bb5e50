-- What leaves the world as it is.
use Rattle.std.proofs.Common.{◌≡◌, ◌∙◌, ℕ, negsuc, ◌==◌, ap, sym, refl, subst, not, Bool, true, false, IsTrue, Option, None, Some, Result, Ok, Err, cond, ◌&&◌}
use Rattle.sk_laws.specs.Common.{is_some, option_and_then, Record, Action, action_of, verdict_of, Errno, Esrch, Einval, SIGSYS, SignalState, INIT, Life, Proc, Waiting, Request, Poll, World, at, has_ended, is_zombie, is_halted, is_stopped, forced, ended_and_hung_up, fork_answer, is_no_hang, ready_of, after_setpgid, after_setsid, Event, Call, Deliver, Resume, Fault, Answer, Outcome, Returned, Trapped, Ended, Reason, Syscall, pid_of, recorded, Images, syscall_of, unsigned, signed, Authority, Performed, returns, fails, asked, changes, authorises, waits, resignals, after_kill, are_wait_options, request_of, polled, wait4, end_of_caller, execve, forks, subreaper_set, subreaper_asked, where_subreapers, row, Stepped, judged, call_answered, called_with, happened, stepped, step_of, end_status, delivery, reason_of, Body, NoProcess, NothingWaits, Halted, signal_for, signal_due}
use Rattle.sk_world.proofs.Common.{false≢true, cond_both}
use Rattle.sk_laws.specs.MachineLaws.{ImpossibleChangesNothing, PossibleHappens, only_refuses, RefusedChangesNothing, TrapForcesSigsys, ends_caller, KillEndsCaller, FailedChangesNothing, HaltHasStatus}
use Rattle.sk_laws.proofs.Happened.{at_step, at_delivery}
use Rattle.sk_laws.proofs.EachCall.{each_call}

pub impossible_changes_nothing : ImpossibleChangesNothing
unfolding step_of
impossible_changes_nothing declared w event reason is = ap (stepped declared w event) is

delivers : (w : World) (pid : ℕ) (body : Body) (o : Option ℕ) (reason : Reason) → IsTrue (is_some o) → (delivery w pid body o).answer ≡ Answer.NotNow reason → ⊥
delivers w pid body None reason due is = absurd (false≢true due)
delivers w pid body (Some n) reason due is = cc

-- a signal is due to a process to which a delivery is possible
due_to : (w : World) (pid : ℕ) (p : Proc) → at w pid ≡ Some p → reason_of w (Deliver pid) ≡ None → IsTrue (is_some (signal_for p.body))
due_to w pid p there possible =
    let o : Option Proc = at w pid in
    let due : Bool = is_some (signal_due o) in
    let own : Option Reason = cond due None (Some NothingWaits) in
    let P : Option Reason → Type 0 = λ r. r ≡ None → IsTrue due in
    sym (ap (λ o. is_some (signal_due o)) there)
    ∙ cond_both (is_halted w) (Some Halted) _ P (λ _ is. cc)
    (λ _. cond_both (not (is_some o)) (Some NoProcess) _ P (λ _ is. cc)
    (λ _. cond_both (is_zombie o) (Some Reason.Zombie) _ P (λ _ is. cc)
    (λ _. cond_both (is_stopped o && not due) (Some Reason.Stopped) own P (λ _ is. cc)
    (λ _. cond_both due None (Some NothingWaits) P (λ due _. due) (λ _ is. cc))))) possible

happens : (declared : Images) (w : World) (event : Event) (p : Proc) (reason : Reason) → at w (pid_of event) ≡ Some p → reason_of w event ≡ None
    → (happened declared w p.body event).answer ≡ Answer.NotNow reason → ⊥
happens declared w (Call pid ip call) p reason there possible is = cc
happens declared w (Deliver pid) p reason there possible is = delivers w pid p.body (signal_for p.body) reason (due_to w pid p there possible) is
happens declared w (Resume pid) p reason there possible is = cc
happens declared w (Fault pid) p reason there possible is = cc

pub possible_happens : PossibleHappens
possible_happens declared w event reason none =
    at_step declared w event (λ s. s.answer ≡ Answer.NotNow reason → ⊥) (λ _ is _. absurd (false≢true (ap is_some (sym none ∙ is))))
    (λ p there alive. happens declared w event p reason there none)

-- where the answer is a call's, what holds of a call with this verdict holds of the step
at_called : (declared : Images) (w : World) (body : Body) (event : Event) (verdict : ℕ) (outcome : Outcome) (P : ℕ → Stepped → Type 0)
    → ((pid : ℕ) (body : Body) (call : Record) → (judged declared w pid body call verdict (action_of verdict)).outcome ≡ outcome → P pid (called_with declared w pid body call verdict))
    → (happened declared w body event).answer ≡ Answer.Call verdict outcome → P (pid_of event) (happened declared w body event)
at_called declared w body (Deliver pid) verdict outcome P made is =
    at_delivery w pid body (signal_for body) (λ s. s.answer ≡ Answer.Call verdict outcome → P pid s) (λ is. cc) (λ n is. cc) is
at_called declared w body (Resume pid) verdict outcome P made is = cc
at_called declared w body (Fault pid) verdict outcome P made is = cc
at_called declared w body (Call pid ip asked) verdict outcome P made is =
    let call : Record = recorded ip asked in
    let told : ℕ = verdict_of body.chain call in
    let same : told ≡ verdict = cc in
    let outcome_is : (judged declared w pid body call told (action_of told)).outcome ≡ outcome = cc in
    subst (λ v. P pid (called_with declared w pid body call v)) (sym same)
    (made pid body call (subst (λ v. (judged declared w pid body call v (action_of v)).outcome ≡ outcome) same outcome_is))

at_call : (declared : Images) (w : World) (event : Event) (verdict : ℕ) (outcome : Outcome) (P : ℕ → Stepped → Type 0)
    → (step_of declared w event).answer ≡ Answer.Call verdict outcome
    → ((pid : ℕ) (body : Body) (call : Record) → (judged declared w pid body call verdict (action_of verdict)).outcome ≡ outcome → P pid (called_with declared w pid body call verdict))
    → P (pid_of event) (step_of declared w event)
at_call declared w event verdict outcome P is made =
    at_step declared w event (λ s. s.answer ≡ Answer.Call verdict outcome → P (pid_of event) s) (λ _ _ is. cc)
    (λ p there alive. at_called declared w p.body event verdict outcome P made) is

refused_world : (declared : Images) (w : World) (pid : ℕ) (body : Body) (call : Record) (verdict : ℕ) (a : Action) → IsTrue (only_refuses a)
    → (judged declared w pid body call verdict a).world ≡ w
refused_world declared w pid body call errno Action.Errno refuses = refl
refused_world declared w pid body call errno Action.UserNotif refuses = refl
refused_world declared w pid body call errno Action.Trace refuses = refl
refused_world declared w pid body call errno other refuses = absurd (false≢true refuses)

pub refused_changes_nothing : RefusedChangesNothing
refused_changes_nothing declared w event verdict outcome is refuses =
    at_call declared w event verdict outcome (λ _ s. s.world ≡ w) is
    (λ pid body call _. refused_world declared w pid body call verdict (action_of verdict) refuses)

pub trap_forces_sigsys : TrapForcesSigsys
trap_forces_sigsys declared w event verdict outcome is trap =
    at_call declared w event verdict outcome (λ pid s. s ≡ record { answer = Answer.Call verdict Trapped; world = forced w pid }) is
    (λ pid body call _. ap (λ a. call_answered verdict (judged declared w pid body call verdict a)) trap)

ended_by_filter : (declared : Images) (w : World) (pid : ℕ) (body : Body) (call : Record) (verdict : ℕ) (a : Action) → IsTrue (ends_caller a)
    → judged declared w pid body call verdict a ≡ end_of_caller w pid SIGSYS
ended_by_filter declared w pid body call errno Action.KillProcess kills = refl
ended_by_filter declared w pid body call errno Action.KillThread kills = refl
ended_by_filter declared w pid body call errno Action.Unknown kills = refl
ended_by_filter declared w pid body call errno other kills = absurd (false≢true kills)

pub kill_ends_caller : KillEndsCaller
kill_ends_caller declared w event verdict outcome is kills =
    at_call declared w event verdict outcome (λ pid s. s ≡ record { answer = Answer.Call verdict (Ended SIGSYS); world = ended_and_hung_up w pid SIGSYS }) is
    (λ pid body call _. ap (call_answered verdict) (ended_by_filter declared w pid body call verdict (action_of verdict) kills))

-- where the outcome is an error, the world is as it was
abbrev FailsClean : World → Performed → Type 0
FailsClean w p = (n : ℕ) → p.outcome ≡ Returned (negsuc n) → p.world ≡ w

clean_returns : (w after : World) (m : ℕ) → FailsClean w (returns after m)
clean_returns w after m n is = cc

clean_resignals : (w : World) (pid : ℕ) (r : Result SignalState Errno) → FailsClean w (resignals w pid r)
clean_resignals w pid (Ok s) n is = cc
clean_resignals w pid (Err e) n is = refl

clean_authorises : (w : World) (pid : ℕ) (r : Result Authority Errno) → FailsClean w (authorises w pid r)
clean_authorises w pid (Ok a) n is = cc
clean_authorises w pid (Err e) n is = refl

clean_execve : (w : World) (pid : ℕ) (r : Result Authority Errno) → FailsClean w (execve w pid r)
clean_execve w pid (Ok a) n is = cc
clean_execve w pid (Err e) n is = refl

clean_forks : (w : World) (pid : ℕ) (r : Result ℕ Errno) → FailsClean w (forks w pid r)
clean_forks w pid (Ok child) n is = cc
clean_forks w pid (Err e) n is = refl

clean_changes : (w : World) (m : ℕ) (r : Result World Errno) → FailsClean w (changes w m r)
clean_changes w m (Ok after) n is = cc
clean_changes w m (Err e) n is = refl

clean_asked : (w : World) (r : Result ℕ Errno) → FailsClean w (asked w r)
clean_asked w (Ok m) n is = refl
clean_asked w (Err e) n is = refl

clean_polled : (w : World) (pid : ℕ) (request : Request) (p : Poll) → FailsClean w (polled w pid request p)
clean_polled w pid request (Poll.Told child status) = λ n is. cc
clean_polled w pid request Poll.NoMatch = λ n is. refl
clean_polled w pid request Poll.NotReady =
    cond_both (is_no_hang request.options) (returns w 0) (waits w pid (Waiting.Asks request)) (FailsClean w) (λ _. clean_returns w w 0) (λ _ n is. cc)

clean_wait4 : (w : World) (pid : ℕ) (call : Record) → FailsClean w (wait4 w pid call)
clean_wait4 w pid call =
    cond_both (not (are_wait_options (unsigned call 2))) (fails w Einval) _ (FailsClean w) (λ _ n is. refl)
    (λ _. cond_both (unsigned call 0 == 2147483648) (fails w Esrch) _ (FailsClean w) (λ _ n is. refl)
    (λ _. clean_polled w pid (request_of w pid call) (ready_of w pid (request_of w pid call))))

clean_subreapers : (there : Bool) (w : World) (p : Performed) → FailsClean w p → FailsClean w (where_subreapers there w p)
clean_subreapers true w p clean = clean
clean_subreapers false w p clean = λ n is. refl

clean_row : (declared : Images) (w : World) (pid : ℕ) (body : Body) (which : Option Syscall) (call : Record) → FailsClean w (row declared w pid body which call)
clean_row declared w pid body which call =
    each_call declared w pid body call (λ _. FailsClean w) (record {
      answers = clean_asked w;
      tells_signals = λ _ n is. refl;
      tells_ids = λ n is. refl;
      resignals = clean_resignals w pid;
      authorises = clean_authorises w pid;
      executes = clean_execve w pid;
      marks = clean_subreapers declared.subreapers w (subreaper_set w pid call) (λ n is. cc);
      asks_mark = clean_subreapers declared.subreapers w (subreaper_asked w body.subreaper) (λ n is. refl);
      pauses = λ n is. cc;
      waits_for = clean_wait4 w pid call;
      forks_one = clean_forks w pid (fork_answer w);
      ends = λ status n is. cc;
      kills = clean_changes w 0 (after_kill w pid body.creds (signed call 0) (unsigned call 1));
      regroups = clean_changes w 0 (after_setpgid w pid (signed call 0) (signed call 1));
      leads = clean_changes w pid (after_setsid w pid);
    }) which

clean_judged : (declared : Images) (w : World) (pid : ℕ) (body : Body) (call : Record) (verdict : ℕ) (a : Action)
    → FailsClean w (judged declared w pid body call verdict a)
clean_judged declared w pid body call verdict Action.Allow = clean_row declared w pid body (syscall_of call.nr) call
clean_judged declared w pid body call verdict Action.Log = clean_row declared w pid body (syscall_of call.nr) call
clean_judged declared w pid body call verdict other = λ n is. cc

pub failed_changes_nothing : FailedChangesNothing
failed_changes_nothing declared w event verdict n is =
    at_call declared w event verdict (Returned (negsuc n)) (λ _ s. s.world ≡ w) is
    (λ pid body call failed. clean_judged declared w pid body call verdict (action_of verdict) n failed)

-- ---- the status of a halted system
ended_has_status : (o : Option Proc) → is_some (option_and_then (λ p. end_status p.body.life) o) ≡ is_zombie o
ended_has_status None = refl
ended_has_status (Some p) = of_life p.body.life
  where
    of_life : (l : Life) → is_some (end_status l) ≡ has_ended l
    of_life (Life.Zombie status) = refl
    of_life Life.Stopped = refl
    of_life Life.Running = refl

pub halt_has_status : HaltHasStatus
halt_has_status w = ended_has_status (at w INIT)
