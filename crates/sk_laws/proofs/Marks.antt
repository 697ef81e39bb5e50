-- Where there are no subreapers no event makes one.
use Rattle.std.proofs.Common.{◌≡◌, ◌∙◌, ℕ, ◌==◌, ◌&&◌, ap, sym, refl, cond, not, Bool, true, false, IsTrue, List, [], ◌∷◌, Option, None, Some, Result, Ok, Err}
use Rattle.sk_laws.specs.Common.{is_some, option_map, option_map_or, option_and_then, unwrap_or, find, Record, Action, action_of, verdict_of, Errno, SIGSEGV, SIGCHLD, SIGSYS, sigsys_forced, Syscall, syscall_of, INIT, Zombie, Links, Body, Proc, Waiting, Poll, none, World, at, is_zombie, parent_of, stored, body_changed, changed, links_changed, relinked, first_process, opening, fresh_of, sent, has_room, child_of, fork_answer, is_subreaper, ancestors, takes_children, new_parent, ignores_children, handed_on, with_children_handed_on, has_zombie_child, reparented, zombie, left_to_parent, ended, without_note, told, Event, Call, Deliver, Resume, Fault, unsigned, signed, pid_of, recorded, Images, Authority, with_authority, Performed, authorises, executing, execve, forks, subreaper_set, subreaper_asked, where_subreapers, row, signal_for, judged, happened, step_of, world_after}
use Rattle.sk_world.proofs.Common.{false≢true, cond_both}
use Rattle.sk_laws.specs.ChangeLaws.{unsignalled}
use Rattle.sk_world.proofs.Maps.{get_store}
use Rattle.sk_world.proofs.Stored.{everywhere}
use Rattle.sk_world.proofs.KeptEnd.{handed_cases, handed_at, alive_is_there}
use Rattle.sk_laws.proofs.Locality.{sent_leaves}
use Rattle.sk_laws.specs.MachineLaws.{HasNoSubreapers, EventMarksNobody, RunMarksNobody, NobodyIsMarked, InitTakesOrphans, OrphansGoToInit}
use Rattle.sk_laws.proofs.Carrying.{Carries, over_asked, over_changes, over_resignals, over_waits, over_kill, over_setpgid, over_setsid, over_wait4, over_end, over_delivered, over_resumed}
use Rattle.sk_laws.proofs.EachCall.{each_call}
use Rattle.sk_laws.proofs.Happened.{at_step, at_delivery}

-- no subreaper comes
abbrev MarksNobody : World → World → Type 0
MarksNobody w after = HasNoSubreapers w → HasNoSubreapers after

same_mark : (g : Body → Body) → ((body : Body) → (g body).subreaper ≡ body.subreaper) → (o : Option Proc) → is_subreaper (option_map (body_changed g) o) ≡ is_subreaper o
same_mark g same None = refl
same_mark g same (Some p) = same p.body

marks_changed : (w : World) (pid : ℕ) (g : Body → Body) → ((body : Body) → (g body).subreaper ≡ body.subreaper) → MarksNobody w (changed w pid g)
marks_changed w pid g same none =
    everywhere w pid (option_map (body_changed g) (at w pid)) (λ k x. is_subreaper x ≡ false) (same_mark g same (at w pid) ∙ none pid) (λ q ne. none q)

same_links : (f : Links → Links) (o : Option Proc) → is_subreaper (option_map (links_changed f) o) ≡ is_subreaper o
same_links f None = refl
same_links f (Some p) = refl

marks_links : (w : World) (pid : ℕ) (f : Links → Links) → MarksNobody w (relinked w pid f)
marks_links w pid f none =
    everywhere w pid (option_map (links_changed f) (at w pid)) (λ k x. is_subreaper x ≡ false) (same_links f (at w pid) ∙ none pid) (λ q ne. none q)

marks_gone : (w : World) (pid : ℕ) → MarksNobody w (stored w pid None)
marks_gone w pid none = everywhere w pid None (λ k x. is_subreaper x ≡ false) refl (λ q ne. none q)

but_for_signals : (o : Option Proc) → is_subreaper o ≡ is_subreaper (option_map unsignalled o)
but_for_signals None = refl
but_for_signals (Some p) = refl

marks_sent : (w : World) (pid n : ℕ) → MarksNobody w (sent w pid n)
marks_sent w pid n none q = but_for_signals (at (sent w pid n) q) ∙ ap is_subreaper (sent_leaves w pid n q) ∙ sym (but_for_signals (at w q)) ∙ none q

marks_heir : (dying parent : ℕ) (leaves_none : Bool) (o : Option Proc) → is_subreaper o ≡ false → is_subreaper (option_and_then (handed_on dying parent leaves_none) o) ≡ false
marks_heir dying parent leaves_none None unmarked = refl
marks_heir dying parent leaves_none (Some p) unmarked = handed_cases dying parent leaves_none p (λ x. is_subreaper x ≡ false) (λ _. unmarked) (λ _ _. refl) (λ _. unmarked)

marks_handed : (w : World) (pid : ℕ) → MarksNobody w (with_children_handed_on w pid)
marks_handed w pid none q = ap is_subreaper (handed_at w pid q) ∙ marks_heir pid (new_parent w pid) (ignores_children (at w (new_parent w pid))) (at w q) (none q)

marks_reparented : (w : World) (pid : ℕ) → MarksNobody w (reparented w pid)
marks_reparented w pid =
    let heir : ℕ = new_parent w pid in
    let handed : World = with_children_handed_on w pid in
    cond_both (has_zombie_child w pid && not (ignores_children (at w heir))) (sent handed heir SIGCHLD) handed (MarksNobody w)
    (λ _ none. marks_sent handed heir SIGCHLD (marks_handed w pid none)) (λ _. marks_handed w pid)

marks_died : (w : World) (pid status : ℕ) → MarksNobody w (left_to_parent w pid status)
marks_died w pid status =
    let parent : ℕ = parent_of (at w pid) in
    let dead : World = changed w pid (zombie status) in
    cond_both (ignores_children (at w parent)) (stored w pid None) (sent dead parent SIGCHLD) (MarksNobody w) (λ _. marks_gone w pid)
    (λ _ none. marks_sent dead parent SIGCHLD (marks_changed w pid (zombie status) (λ body. refl) none))

marks_ended : (w : World) (pid status : ℕ) → MarksNobody w (ended w pid status)
marks_ended w pid status =
    cond_both (pid == INIT) (changed w INIT (λ body. record body { life = Zombie status })) (left_to_parent (reparented w pid) pid status) (MarksNobody w)
    (λ _. marks_changed w INIT (λ body. record body { life = Zombie status }) (λ body. refl))
    (λ _ none. marks_died (reparented w pid) pid status (marks_reparented w pid none))

marks_told : (w : World) (child status : ℕ) → MarksNobody w (told w (Poll.Told child status))
marks_told w child status =
    cond_both (is_zombie (at w child)) (stored w child None) (changed w child without_note) (MarksNobody w) (λ _. marks_gone w child) (λ _. marks_changed w child without_note (λ body. refl))

marks : Carries MarksNobody
marks = record {
  still = λ w none. none;
  twice = λ v w x first later none. later (first none);
  changed = λ w pid g ordinary. marks_changed w pid g (λ body. (ordinary body).1);
  links = λ w pid f _. marks_links w pid f;
  sent = marks_sent;
  ended = λ w pid status _. marks_ended w pid status;
  telling = marks_told;
}

-- ---- rows
marks_authorises : (w : World) (pid : ℕ) (r : Result Authority Errno) → MarksNobody w (authorises w pid r).world
marks_authorises w pid (Ok a) = marks_changed w pid (with_authority a) (λ body. refl)
marks_authorises w pid (Err e) = λ none. none

marks_execve : (w : World) (pid : ℕ) (r : Result Authority Errno) → MarksNobody w (execve w pid r).world
marks_execve w pid (Ok a) = marks_changed w pid (executing a) (λ body. refl)
marks_execve w pid (Err e) = λ none. none

marks_child : (w : World) (pid : ℕ) (o : Option Proc) → MarksNobody w (option_map_or (λ p. record (stored w (fresh_of w) (Some (child_of pid p))) { last = fresh_of w }) o w)
marks_child w pid None none = none
marks_child w pid (Some p) none = everywhere w (fresh_of w) (Some (child_of pid p)) (λ k x. is_subreaper x ≡ false) refl (λ q ne. none q)

marks_forks : (w : World) (pid : ℕ) (r : Result ℕ Errno) → MarksNobody w (forks w pid r).world
marks_forks w pid (Ok child) =
    cond_both (has_room w) (option_map_or (λ p. record (stored w (fresh_of w) (Some (child_of pid p))) { last = fresh_of w }) (at w pid) w) w (MarksNobody w) (λ _. marks_child w pid (at w pid)) (λ _ none. none)
marks_forks w pid (Err e) = λ none. none

marks_where : (there : Bool) (w : World) (p : Performed) → there ≡ false → MarksNobody w (where_subreapers there w p).world
marks_where true w p is = absurd (false≢true (sym is))
marks_where false w p is = λ none. none

marks_row : (declared : Images) (w : World) (pid : ℕ) (body : Body) (which : Option Syscall) (call : Record) → declared.subreapers ≡ false
    → IsTrue (is_some (at w pid)) → MarksNobody w (row declared w pid body which call).world
marks_row declared w pid body which call is there =
    each_call declared w pid body call (λ _ p. MarksNobody w p.world) (record {
      answers = over_asked MarksNobody marks w;
      tells_signals = λ _ none. none;
      tells_ids = λ none. none;
      resignals = over_resignals MarksNobody marks w pid;
      authorises = marks_authorises w pid;
      executes = marks_execve w pid;
      marks = marks_where declared.subreapers w (subreaper_set w pid call) is;
      asks_mark = marks_where declared.subreapers w (subreaper_asked w body.subreaper) is;
      pauses = over_waits MarksNobody marks w pid Waiting.Pause;
      waits_for = over_wait4 MarksNobody marks w pid call;
      forks_one = marks_forks w pid (fork_answer w);
      ends = λ status. over_end MarksNobody marks w pid status there;
      kills = over_changes MarksNobody marks w 0 _ (over_kill MarksNobody marks w pid body.creds (signed call 0) (unsigned call 1));
      regroups = over_changes MarksNobody marks w 0 _ (over_setpgid MarksNobody marks w pid (signed call 0) (signed call 1));
      leads = over_changes MarksNobody marks w pid _ (over_setsid MarksNobody marks w pid);
    }) which

-- ---- events
marks_judged : (declared : Images) (w : World) (pid : ℕ) (body : Body) (call : Record) (verdict : ℕ) (a : Action) → declared.subreapers ≡ false
    → IsTrue (is_some (at w pid)) → MarksNobody w (judged declared w pid body call verdict a).world
marks_judged declared w pid body call verdict Action.Allow is there = marks_row declared w pid body (syscall_of call.nr) call is there
marks_judged declared w pid body call verdict Action.Log is there = marks_row declared w pid body (syscall_of call.nr) call is there
marks_judged declared w pid body call verdict Action.Trap is there = marks_changed w pid (λ body. record body { signals = sigsys_forced body.signals }) (λ body. refl)
marks_judged declared w pid body call verdict Action.Errno is there = λ none. none
marks_judged declared w pid body call verdict Action.UserNotif is there = λ none. none
marks_judged declared w pid body call verdict Action.Trace is there = λ none. none
marks_judged declared w pid body call verdict Action.KillProcess is there = over_end MarksNobody marks w pid SIGSYS there
marks_judged declared w pid body call verdict Action.KillThread is there = over_end MarksNobody marks w pid SIGSYS there
marks_judged declared w pid body call verdict Action.Unknown is there = over_end MarksNobody marks w pid SIGSYS there

marks_happened : (declared : Images) (w : World) (body : Body) (event : Event) → declared.subreapers ≡ false → IsTrue (is_some (at w (pid_of event)))
    → MarksNobody w (happened declared w body event).world
marks_happened declared w body (Call pid ip asked) is there =
    let call : Record = recorded ip asked in
    let verdict : ℕ = verdict_of body.chain call in
    marks_judged declared w pid body call verdict (action_of verdict) is there
marks_happened declared w body (Deliver pid) is there = at_delivery w pid body (signal_for body) (λ s. MarksNobody w s.world) (λ none. none) (λ n. over_delivered MarksNobody marks w pid body n there)
marks_happened declared w body (Resume pid) is there = over_resumed MarksNobody marks w pid body.waiting
marks_happened declared w body (Fault pid) is there = over_end MarksNobody marks w pid SIGSEGV there

pub event_marks_nobody : EventMarksNobody
event_marks_nobody declared w event is =
    at_step declared w event (λ s. MarksNobody w s.world) (λ _ _ none. none)
    (λ p there alive. marks_happened declared w p.body event is (alive_is_there (at w (pid_of event)) alive))

pub run_marks_nobody : RunMarksNobody
run_marks_nobody declared w [] is none = none
run_marks_nobody declared w (event ∷ events) is none = run_marks_nobody declared (step_of declared w event).world events is (event_marks_nobody declared w event is none)

first_unmarked : (b : Bool) → is_subreaper (cond b (Some first_process) None) ≡ false
first_unmarked true = refl
first_unmarked false = refl

pub nobody_is_marked : NobodyIsMarked
nobody_is_marked declared events is =
    run_marks_nobody declared opening events is (λ pid. ap is_subreaper (get_store none INIT (Some first_process) pid) ∙ first_unmarked (pid == INIT))

-- ---- whom orphans go to
takes_none : (w : World) (dying : ℕ) → HasNoSubreapers w → (pids : List ℕ) → find (takes_children w dying) pids ≡ None
takes_none w dying unmarked [] = refl
takes_none w dying unmarked (pid ∷ rest) =
    ap (λ b. cond (b && not (pid == dying)) (Some pid) (find (takes_children w dying) rest)) (unmarked pid) ∙ takes_none w dying unmarked rest

pub init_takes_orphans : InitTakesOrphans
unfolding new_parent ancestors
init_takes_orphans w pid unmarked = ap (λ o. unwrap_or o INIT) (takes_none w pid unmarked (ancestors w pid))

pub orphans_go_to_init : OrphansGoToInit
orphans_go_to_init declared events pid is = init_takes_orphans (world_after declared opening events) pid (nobody_is_marked declared events is)
