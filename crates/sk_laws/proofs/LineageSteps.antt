-- What each event does to authorities, and that they are those of the lineages.
use Rattle.std.proofs.Common.{◌≡◌, ◌∙◌, ℕ, ◌==◌, ◌&&◌, ap, sym, refl, subst, cond, not, Bool, true, false, IsTrue, List, [], ◌∷◌, ◌++◌, Option, None, Some, Result, Ok, Err}
use Rattle.sk_laws.specs.Common.{is_some, unwrap_or, option_to_list, option_map, result_unwrap_or, Record, Action, action_of, performs, verdict_of, Errno, Eagain, SIGSEGV, SIGSYS, INIT, Body, Proc, Waiting, none, World, at, is_alive, changed, first_process, opening, fresh_of, has_room, forked, forced, Event, Call, Deliver, Resume, Fault, Syscall, pid_of, recorded, Images, syscall_of, register, unsigned, signed, Authority, authority_of, with_authority, authority_after, Performed, authorises, executing, execve, forks, subreaper_set, subreaper_asked, where_subreapers, with_subreaper, row, signal_for, Stepped, judged, happened, step_of, world_after, Lineage, Happening, is_fork, has_returned, lineage_before, calls_added, lineage_of, authority_after_calls, history_after}
use Rattle.sk_world.proofs.Common.{false≢true, cond_both, and_parts, eqb-true, eqb-false, false_from_ne_true}
use Rattle.sk_world.proofs.Stored.{everywhere, at_other}
use Rattle.sk_laws.proofs.Rights.{forced_rights, forked_rights}
use Rattle.sk_world.proofs.KeptEnd.{alive_is_there}
use Rattle.sk_names.proofs.SyscallTable.{number_of-syscall_of}
use Rattle.sk_laws.specs.LineageLaws.{happening, EventChangesAuthority, AuthorityIsOfLineage, LineageComesFromInit}
use Rattle.sk_laws.proofs.Carrying.{over_asked, over_changes, over_resignals, over_waits, over_kill, over_setpgid, over_setsid, over_wait4, over_end, over_delivered, over_resumed}
use Rattle.sk_laws.proofs.Authorities.{CameBy, Came, Keeps, came_still, came_at, came_by_rights, keeps_by_rights, keeps_still, keeps_changed, keeps}
use Rattle.sk_laws.proofs.EachCall.{is_fork_row, CallFacts, changing, each_call}
use Rattle.sk_laws.proofs.Happened.{at_step, at_delivery}

-- ---- which call is a fork
only_fork : (o : Option Syscall) → is_fork_row o ≡ true → o ≡ Some Syscall.Fork
only_fork (Some Syscall.Fork) is = refl
only_fork other is = absurd (false≢true is)

fork_number_else : (nr : ℕ) → (nr == 57) ≡ false → is_fork_row (syscall_of nr) ≡ false
fork_number_else nr other =
    false_from_ne_true (is_fork_row (syscall_of nr)) (λ is. eqb-false nr 57 other (number_of-syscall_of nr Syscall.Fork (only_fork (syscall_of nr) is)))

pub fork_number : (nr : ℕ) → is_fork_row (syscall_of nr) ≡ (nr == 57)
fork_number nr =
    elim (nr == 57) as (λ b. (nr == 57) ≡ b → is_fork_row (syscall_of nr) ≡ b) [
      | true ↦ λ is. ap (λ n. is_fork_row (syscall_of n)) (eqb-true nr 57 is)
      | false ↦ λ is. fork_number_else nr is
    ] refl

-- ---- one row
-- whom a process comes from when a call of `pid`, a fork(2) or none, has come to this, and with which authority
abbrev RowStep : World → ℕ → ℕ → (Authority → Authority) → Bool → Performed → Type 0
RowStep w pid q f forking p =
    CameBy (cond ((pid == q) && not (forking && has_returned q p.outcome)) f (λ a. a)) (at p.world q) (at w (cond (forking && has_returned q p.outcome) pid q))

-- so it is with each change that makes of the caller's authority what the call makes of it
abbrev OwnStep : World → ℕ → ℕ → Authority → CallFacts → Performed → Type 0
OwnStep w pid q old facts p = (f : Authority → Authority) → f old ≡ result_unwrap_or facts.authority old → RowStep w pid q f facts.is_fork p

-- the process of a pid, where there is one, has this authority
abbrev HasAuthority : World → ℕ → Authority → Type 0
HasAuthority w pid a = (p : Proc) → at w pid ≡ Some p → authority_of p.body ≡ a

own_authority : (w : World) (pid : ℕ) (p : Proc) → at w pid ≡ Some p → HasAuthority w pid (authority_of p.body)
own_authority w pid p there q is = ap (λ o. authority_of (unwrap_or o p).body) (sym is ∙ there)

and_true : (b c : Bool) → c ≡ true → (b && c) ≡ b
and_true true c is = is
and_true false c is = refl

module _ (w : World) (pid q : ℕ) (old : Authority) (own : HasAuthority w pid old) where
  -- who comes from the caller comes from this authority
  caller_had : (forked : Bool) → IsTrue ((pid == q) && not forked) → HasAuthority w (cond forked pid q) old
  caller_had true is = own
  caller_had false is = subst (λ k. HasAuthority w k old) (eqb-true pid q (and_parts (pid == q) true is).0) own

  -- a call that leaves the caller's authority, and gives a process that it has forked the same
  step_kept : (forked : Bool) (now : Option Proc) → Came now (at w (cond forked pid q)) → (f : Authority → Authority) → f old ≡ old
      → CameBy (cond ((pid == q) && not forked) f (λ a. a)) now (at w (cond forked pid q))
  step_kept forked now came f same =
      cond_both ((pid == q) && not forked) f (λ a. a) (λ g. CameBy g now (at w (cond forked pid q)))
      (λ is p there.
      let before = came p there in
      let had = caller_had forked is before.0 before.1 in
      (before.0, before.1, before.2 ∙ had ∙ sym same ∙ ap f (sym had)))
      (λ _. came)

  -- a change of the caller to this authority
  step_changed : (a : Authority) (g : Body → Body) → ((body : Body) → authority_of (g body) ≡ a) → (f : Authority → Authority) → f old ≡ a
      → CameBy (cond ((pid == q) && true) f (λ a. a)) (at (changed w pid g) q) (at w q)
  step_changed a g gives f is =
      elim (pid == q) as (λ b. (pid == q) ≡ b → CameBy (cond (b && true) f (λ a. a)) (at (changed w pid g) q) (at w q)) [
        | true ↦ λ here. subst (λ k. CameBy f (at (changed w pid g) k) (at w k)) (eqb-true pid q here) (came_at w pid f g (λ p there. gives p.body ∙ sym is ∙ ap f (sym (own p there))))
        | false ↦ λ other. subst (λ x. Came x (at w q)) (sym (at_other w pid _ q (λ e. eqb-false pid q other (sym e)))) (came_still (at w q))
      ] refl

  step_authorises : (r : Result Authority Errno) → OwnStep w pid q old (changing r) (authorises w pid r)
  step_authorises (Ok a) = step_changed a (with_authority a) (λ body. refl)
  step_authorises (Err e) = step_kept false (at w q) (came_still (at w q))

  step_execve : (r : Result Authority Errno) → OwnStep w pid q old (changing r) (execve w pid r)
  step_execve (Ok a) = step_changed a (executing a) (λ body. refl)
  step_execve (Err e) = step_kept false (at w q) (came_still (at w q))

  step_fork : (b : Bool) → has_room w ≡ b → IsTrue (is_alive (at w pid))
      → OwnStep w pid q old (record (changing (Ok old)) { is_fork = true }) (forks w pid (cond b (Ok (fresh_of w)) (Err Eagain)))
  step_fork true room alive =
      step_kept (q == fresh_of w) (at (forked w pid) q)
      (subst (λ c. Came (at (forked w pid) q) (at w (cond c pid q))) (and_true (q == fresh_of w) (has_room w) room)
      (came_by_rights (at (forked w pid) q) (at w (cond ((q == fresh_of w) && has_room w) pid q)) (forked_rights w pid q alive)))
  step_fork false room alive = step_kept false (at w q) (came_still (at w q))

keeps_subreapers : (there : Bool) (w : World) (p : Performed) → Keeps w p.world → Keeps w (where_subreapers there w p).world
keeps_subreapers true w p kept = kept
keeps_subreapers false w p kept = keeps_still w

step_row : (declared : Images) (w : World) (pid q : ℕ) (body : Body) (which : Option Syscall) (call : Record)
    → HasAuthority w pid (authority_of body) → IsTrue (is_alive (at w pid))
    → RowStep w pid q (λ a. result_unwrap_or (authority_after declared which call a) a) (is_fork_row which) (row declared w pid body which call)
step_row declared w pid q body which call own alive =
    let old : Authority = authority_of body in
    let kept = step_kept w pid q old own false in
    each_call declared w pid body call (OwnStep w pid q old) (record {
      answers = λ r. kept _ (over_asked Keeps keeps w r q);
      tells_signals = λ _. kept (at w q) (came_still (at w q));
      tells_ids = kept (at w q) (came_still (at w q));
      resignals = λ r. kept _ (over_resignals Keeps keeps w pid r q);
      authorises = step_authorises w pid q old own;
      executes = step_execve w pid q old own;
      marks = kept _ (keeps_subreapers declared.subreapers w (subreaper_set w pid call) (keeps_changed w pid (with_subreaper (not (register call 1 == 0))) (λ body. refl)) q);
      asks_mark = kept _ (keeps_subreapers declared.subreapers w (subreaper_asked w body.subreaper) (keeps_still w) q);
      pauses = kept _ (over_waits Keeps keeps w pid Waiting.Pause q);
      waits_for = kept _ (over_wait4 Keeps keeps w pid call q);
      forks_one = step_fork w pid q old own (has_room w) refl alive;
      ends = λ status. kept _ (over_end Keeps keeps w pid status (alive_is_there (at w pid) alive) q);
      kills = kept _ (over_changes Keeps keeps w 0 _ (over_kill Keeps keeps w pid body.creds (signed call 0) (unsigned call 1)) q);
      regroups = kept _ (over_changes Keeps keeps w 0 _ (over_setpgid Keeps keeps w pid (signed call 0) (signed call 1)) q);
      leads = kept _ (over_changes Keeps keeps w pid _ (over_setsid Keeps keeps w pid) q);
    }) which (λ a. result_unwrap_or (authority_after declared which call a) a) refl

-- ---- one event
-- the same, where this call was performed, or none
abbrev CallStep : Images → World → ℕ → ℕ → Option Record → Performed → Type 0
CallStep declared w pid q o p =
    CameBy (authority_after_calls declared (cond ((pid == q) && not (is_fork o && has_returned q p.outcome)) (option_to_list o) []))
    (at p.world q) (at w (cond (is_fork o && has_returned q p.outcome) pid q))

no_calls : (declared : Images) (b : Bool) (now before : Option Proc) → Came now before → CameBy (authority_after_calls declared (cond b [] [])) now before
no_calls declared true now before came = came
no_calls declared false now before came = came

one_call : (declared : Images) (b : Bool) (call : Record) (now before : Option Proc)
    → CameBy (cond b (λ a. result_unwrap_or (authority_after declared (syscall_of call.nr) call a) a) (λ a. a)) now before
    → CameBy (authority_after_calls declared (cond b (call ∷ []) [])) now before
one_call declared true call now before came = came
one_call declared false call now before came = came

step_performed : (declared : Images) (w : World) (pid q : ℕ) (body : Body) (call : Record) → HasAuthority w pid (authority_of body) → IsTrue (is_alive (at w pid))
    → CallStep declared w pid q (Some call) (row declared w pid body (syscall_of call.nr) call)
step_performed declared w pid q body call own alive =
    let p : Performed = row declared w pid body (syscall_of call.nr) call in
    let f : Authority → Authority = λ a. result_unwrap_or (authority_after declared (syscall_of call.nr) call a) a in
    one_call declared ((pid == q) && not ((call.nr == 57) && has_returned q p.outcome)) call (at p.world q) (at w (cond ((call.nr == 57) && has_returned q p.outcome) pid q))
    (subst (λ b. RowStep w pid q f b p) (fork_number call.nr) (step_row declared w pid q body (syscall_of call.nr) call own alive))

step_refused : (declared : Images) (w : World) (pid q : ℕ) (p : Performed) → Keeps w p.world → CallStep declared w pid q None p
step_refused declared w pid q p keeps = no_calls declared ((pid == q) && true) (at p.world q) (at w q) (keeps q)

step_judged : (declared : Images) (w : World) (pid q : ℕ) (body : Body) (call : Record) (verdict : ℕ) (a : Action)
    → HasAuthority w pid (authority_of body) → IsTrue (is_alive (at w pid))
    → CallStep declared w pid q (cond (performs a) (Some call) None) (judged declared w pid body call verdict a)
step_judged declared w pid q body call verdict Action.Allow own alive = step_performed declared w pid q body call own alive
step_judged declared w pid q body call verdict Action.Log own alive = step_performed declared w pid q body call own alive
step_judged declared w pid q body call verdict Action.Trap own alive = step_refused declared w pid q (judged declared w pid body call verdict Action.Trap) (keeps_by_rights w (forced w pid) (forced_rights w pid))
step_judged declared w pid q body call verdict Action.Errno own alive = step_refused declared w pid q (judged declared w pid body call verdict Action.Errno) (keeps_still w)
step_judged declared w pid q body call verdict Action.UserNotif own alive = step_refused declared w pid q (judged declared w pid body call verdict Action.UserNotif) (keeps_still w)
step_judged declared w pid q body call verdict Action.Trace own alive = step_refused declared w pid q (judged declared w pid body call verdict Action.Trace) (keeps_still w)
step_judged declared w pid q body call verdict Action.KillProcess own alive = step_refused declared w pid q (judged declared w pid body call verdict Action.KillProcess) (over_end Keeps keeps w pid SIGSYS (alive_is_there (at w pid) alive))
step_judged declared w pid q body call verdict Action.KillThread own alive = step_refused declared w pid q (judged declared w pid body call verdict Action.KillThread) (over_end Keeps keeps w pid SIGSYS (alive_is_there (at w pid) alive))
step_judged declared w pid q body call verdict Action.Unknown own alive = step_refused declared w pid q (judged declared w pid body call verdict Action.Unknown) (over_end Keeps keeps w pid SIGSYS (alive_is_there (at w pid) alive))

abbrev EventStep : Images → World → Event → Stepped → ℕ → Type 0
EventStep declared w event s q =
    CameBy (authority_after_calls declared (calls_added q (event, s.answer))) (at s.world q) (at w (lineage_before q (event, s.answer)))

step_happened : (declared : Images) (w : World) (event : Event) (p : Proc) (q : ℕ) → at w (pid_of event) ≡ Some p → IsTrue (is_alive (at w (pid_of event)))
    → EventStep declared w event (happened declared w p.body event) q
step_happened declared w (Call pid ip asked) p q there alive =
    let call : Record = recorded ip asked in
    let verdict : ℕ = verdict_of p.body.chain call in
    step_judged declared w pid q p.body call verdict (action_of verdict) (own_authority w pid p there) alive
step_happened declared w (Deliver pid) p q there alive =
    at_delivery w pid p.body (signal_for p.body) (λ s. EventStep declared w (Deliver pid) s q) (no_calls declared ((pid == q) && true) (at w q) (at w q) (came_still (at w q)))
    (λ n. no_calls declared ((pid == q) && true) _ (at w q) (over_delivered Keeps keeps w pid p.body n (alive_is_there (at w pid) alive) q))
step_happened declared w (Resume pid) p q there alive = no_calls declared ((pid == q) && true) _ (at w q) (over_resumed Keeps keeps w pid p.body.waiting q)
step_happened declared w (Fault pid) p q there alive = no_calls declared ((pid == q) && true) _ (at w q) (over_end Keeps keeps w pid SIGSEGV (alive_is_there (at w pid) alive) q)

pub step_event : (declared : Images) (w : World) (event : Event) (q : ℕ) → EventStep declared w event (step_of declared w event) q
step_event declared w event q =
    at_step declared w event (λ s. EventStep declared w event s q) (λ _ _. no_calls declared ((pid_of event == q) && true) (at w q) (at w q) (came_still (at w q)))
    (λ p there alive. step_happened declared w event p q there alive)

-- ---- a list of events
pub after_more : (declared : Images) (calls more : List Record) (a : Authority)
    → authority_after_calls declared (calls ++ more) a ≡ authority_after_calls declared more (authority_after_calls declared calls a)
after_more declared [] more a = refl
after_more declared (call ∷ calls) more a = after_more declared calls more _

-- each process comes from the root of its lineage, with the authority that the lineage's calls make of the root's
abbrev HasLineages : Images → World → World → List Happening → Type 0
HasLineages declared start w history =
    (q : ℕ) → CameBy (authority_after_calls declared (lineage_of history q).calls) (at w q) (at start (lineage_of history q).root)

one_more : (declared : Images) (start w : World) (event : Event) (history : List Happening) → HasLineages declared start w history
    → HasLineages declared start (step_of declared w event).world ((event, (step_of declared w event).answer) ∷ history)
one_more declared start w event history lineages q = λ p is.
    let x : Happening = (event, (step_of declared w event).answer) in
    let lineage : Lineage = lineage_of history (lineage_before q x) in
    let middle = step_event declared w event q p is in
    let root = lineages (lineage_before q x) middle.0 middle.1 in
    (root.0, root.1, middle.2 ∙ ap (authority_after_calls declared (calls_added q x)) root.2 ∙ sym (after_more declared lineage.calls (calls_added q x) (authority_of root.0.body)))

pub has_lineages : (declared : Images) (start w : World) (events : List Event) (history : List Happening) → HasLineages declared start w history
    → HasLineages declared start (world_after declared w events) (history_after declared w events history)
has_lineages declared start w [] history lineages = lineages
has_lineages declared start w (event ∷ events) history lineages =
    has_lineages declared start (step_of declared w event).world events ((event, (step_of declared w event).answer) ∷ history) (one_more declared start w event history lineages)

someone : (o : Option Proc) → IsTrue (is_some o) → (p : Proc) × (o ≡ Some p)
someone None there = absurd (false≢true there)
someone (Some p) there = (p, refl)

-- the authority of a process, if it is there
abbrev pub authority_in : Option Proc → Option Authority
authority_in o = option_map (λ p. authority_of p.body) o

by_origin : (f : Authority → Authority) (now before : Option Proc) → CameBy f now before → IsTrue (is_some now)
    → IsTrue (is_some before) × (authority_in now ≡ option_map f (authority_in before))
by_origin f now before came there =
    let p = someone now there in
    let old = came p.0 p.1 in
    (ap is_some old.1, ap authority_in p.1 ∙ ap (λ a. Some a) old.2 ∙ ap (λ o. option_map f (authority_in o)) (sym old.1))

pub event_changes_authority : EventChangesAuthority
event_changes_authority declared w event pid there =
    by_origin (authority_after_calls declared (calls_added pid (happening declared w event))) (at (step_of declared w event).world pid) (at w (lineage_before pid (happening declared w event)))
    (step_event declared w event pid) there

pub authority_is_of_lineage : AuthorityIsOfLineage
authority_is_of_lineage declared w events pid there =
    let lineage : Lineage = lineage_of (history_after declared w events []) pid in
    by_origin (authority_after_calls declared lineage.calls) (at (world_after declared w events) pid) (at w lineage.root)
    (has_lineages declared w w events [] (λ q. came_still (at w q)) pid) there

only_init : (q : ℕ) → IsTrue (is_some (at opening q)) → q ≡ INIT
only_init = everywhere (record { procs = none; last = INIT }) INIT (Some first_process) (λ k x. IsTrue (is_some x) → k ≡ INIT) (λ _. refl) (λ q ne there. absurd (false≢true there))

pub lineage_comes_from_init : LineageComesFromInit
lineage_comes_from_init declared events pid there =
    only_init (lineage_of (history_after declared opening events []) pid).root (authority_is_of_lineage declared opening events pid there).0
