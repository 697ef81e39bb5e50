-- Whom wait4(2) tells of, and how often.
use Rattle.std.proofs.Common.{◌≡◌, ◌∙◌, ℕ, ◌+◌, ◌*◌, ◌==◌, arith, ap, sym, refl, subst, cond, not, Bool, true, false, IsTrue, List, [], ◌∷◌, Option, None, Some, Result, Ok, Err}
use Rattle.sk_laws.specs.Common.{is_some, unwrap_or, option_map, option_map_or, list_any, find, Record, Action, action_of, verdict_of, Errno, Esrch, Einval, SignalState, Life, Running, Stopped, Zombie, Note, Waiting, Body, Proc, Request, Poll, pids, World, at, is_zombie, stored, body_changed, changed, fork_answer, is_no_hang, is_untraced, is_continued, is_match, is_ready, has_match, status_of_note, status_of_body, status_of, ready_of, without_note, told, after_setpgid, after_setsid, Event, Call, Deliver, Resume, Fault, Syscall, pid_of, recorded, Images, syscall_of, unsigned, signed, Authority, Performed, returns, fails, asked, changes, authorises, waiting_in, waits, resignals, after_kill, are_wait_options, request_of, polled, wait4, polled_again, resumed, execve, forks, subreaper_set, subreaper_asked, where_subreapers, row, judged, step_of, world_after, Stepped, happened, Happening, is_fork_of, lineage_before, history_after, signal_for}
use Rattle.sk_world.proofs.Common.{false≢true, cond_both, or_parts, and_parts}
use Rattle.sk_world.specs.declared.request.WaitOptions.{WaitOptions}
use Rattle.sk_world.proofs.StatusChanges.{by_first, ready_first}
use Rattle.sk_world.proofs.Stored.{everywhere, at_here}
use Rattle.sk_world.proofs.KeptTold.{match_parent}
use Rattle.sk_world.proofs.Telling.{ready_lowest}
use Rattle.sk_laws.specs.LineageLaws.{happening}
use Rattle.sk_laws.specs.TellingLaws.{told_in, told_by, IsEnd, HasEndedUnder, EndIsToldToParent, EndIsToldOnce}
use Rattle.sk_laws.proofs.LineageSteps.{event_changes_authority}
use Rattle.sk_laws.proofs.EachCall.{each_call}
use Rattle.sk_laws.proofs.Happened.{at_step, at_delivery}

-- what a search tells
found_status : (o : Option ℕ) (status_at : ℕ → ℕ) (b : Bool) (child status : ℕ)
    → option_map_or (λ k. Poll.Told k (status_at k)) o (cond b Poll.NotReady Poll.NoMatch) ≡ Poll.Told child status → status ≡ status_at child
found_status None status_at true child status is = cc
found_status None status_at false child status is = cc
found_status (Some k) status_at b child status is =
    let same : k ≡ child = cc in
    let told : status_at k ≡ status = cc in
    sym told ∙ ap status_at same

-- a status that a note has is that of no end
stopped_is_no_end : (n : ℕ) → IsEnd (n * 256 + 0x7f) → ⊥
stopped_is_no_end n low = omega arith

note_is_no_end : (options : WaitOptions) (n : Note) → IsTrue (is_some (status_of_note options n)) → IsEnd (unwrap_or (status_of_note options n) 0) → ⊥
note_is_no_end options Note.Nothing some low = false≢true some
note_is_no_end options (Note.Stopped n) some low =
    cond_both (is_untraced options) (Some (n * 256 + 0x7f)) None (λ o. IsTrue (is_some o) → IsEnd (unwrap_or o 0) → ⊥)
    (λ _ _ low. stopped_is_no_end n low) (λ _ some _. false≢true some) some low
note_is_no_end options Note.Continued some low =
    cond_both (is_continued options) (Some 0xffff) None (λ o. IsTrue (is_some o) → IsEnd (unwrap_or o 0) → ⊥)
    (λ _ _ low. omega arith) (λ _ some _. false≢true some) some low

life_of_end : (options : WaitOptions) (n : Note) (life : Life) → IsTrue (is_some (status_of_body options n life)) → IsEnd (unwrap_or (status_of_body options n life) 0)
    → life ≡ Zombie (unwrap_or (status_of_body options n life) 0)
life_of_end options n (Zombie status) some low = refl
life_of_end options n Stopped some low = absurd (note_is_no_end options n some low)
life_of_end options n Running some low = absurd (note_is_no_end options n some low)

-- what is told of a child, and what is left of it
record IsTold (w after : World) (caller child status : ℕ) : Type 0 where
  there : IsTrue (is_some (at w child))
  ended : IsEnd status → (p : Proc) × (at w child ≡ Some p) × HasEndedUnder caller status p
  gone : IsEnd status → at after child ≡ None

match_there : (caller : ℕ) (request : Request) (child : ℕ) (o : Option Proc) → IsTrue (is_match caller request child o) → IsTrue (is_some o)
match_there caller request child None is = is
match_there caller request child (Some p) is = refl

ended_of : (caller : ℕ) (request : Request) (child status : ℕ) (o : Option Proc) → IsTrue (is_match caller request child o) → IsTrue (is_some (status_of request.options o))
    → status ≡ unwrap_or (status_of request.options o) 0 → IsEnd status → (p : Proc) × (o ≡ Some p) × HasEndedUnder caller status p
ended_of caller request child status None is some same low = absurd (false≢true is)
ended_of caller request child status (Some p) is some same low =
    let own : ℕ = unwrap_or (status_of_body request.options p.body.note p.body.life) 0 in (
      p,
      refl,
      record {
        life = life_of_end request.options p.body.note p.body.life some (subst IsEnd same low) ∙ ap Zombie (sym same);
        parent = match_parent caller request child (Some p) is;
      },
    )

zombie_at : (w : World) (caller child status : ℕ) → (p : Proc) × (at w child ≡ Some p) × HasEndedUnder caller status p → IsTrue (is_zombie (at w child))
zombie_at w caller child status (p, there, ended) = ap is_zombie there ∙ ap (λ life. is_zombie (Some (record p { body = record p.body { life = life } }))) ended.life

told_gone : (w : World) (child status : ℕ) → IsTrue (is_zombie (at w child)) → at (told w (Poll.Told child status)) child ≡ None
told_gone w child status zombie = ap (λ b. at (cond b (stored w child None) (changed w child without_note)) child) zombie ∙ at_here w child None

told_of_ready : (w : World) (caller : ℕ) (request : Request) (child status : ℕ) → ready_of w caller request ≡ Poll.Told child status
    → IsTold w (told w (Poll.Told child status)) caller child status
unfolding by_first
told_of_ready w caller request child status is =
    let ready = (ready_lowest w caller request child status is).0 in
    let both = and_parts (is_match caller request child (at w child)) (is_some (status_of request.options (at w child))) ready in
    let same : status ≡ unwrap_or (status_of request.options (at w child)) 0 =
    found_status (find (is_ready w caller request) (pids w.procs)) (λ k. unwrap_or (status_of request.options (at w k)) 0) (has_match w caller request) child status (sym (ready_first w caller request) ∙ is) in
    let ended : IsEnd status → (p : Proc) × (at w child ≡ Some p) × HasEndedUnder caller status p = ended_of caller request child status (at w child) both.0 both.1 same in
    record {
      there = match_there caller request child (at w child) both.0;
      ended = ended;
      gone = λ low. told_gone w child status (zombie_at w caller child status (ended low));
    }

-- ---- which outcome tells
abbrev TellsRight : World → ℕ → Performed → Type 0
TellsRight w pid p = (child status : ℕ) → told_in p.outcome ≡ Some (child, status) → IsTold w p.world pid child status

nothing_told : (w after : World) (pid child status : ℕ) → ◌≡◌ {A = Option (ℕ × ℕ)} None (Some (child, status)) → IsTold w after pid child status
nothing_told w after pid child status is = absurd (false≢true (ap is_some is))

tells_resignals : (w : World) (pid : ℕ) (r : Result SignalState Errno) → TellsRight w pid (resignals w pid r)
tells_resignals w pid (Ok s) child status is = nothing_told w _ pid child status is
tells_resignals w pid (Err e) child status is = nothing_told w _ pid child status is

tells_authorises : (w : World) (pid : ℕ) (r : Result Authority Errno) → TellsRight w pid (authorises w pid r)
tells_authorises w pid (Ok a) child status is = nothing_told w _ pid child status is
tells_authorises w pid (Err e) child status is = nothing_told w _ pid child status is

tells_execve : (w : World) (pid : ℕ) (r : Result Authority Errno) → TellsRight w pid (execve w pid r)
tells_execve w pid (Ok a) child status is = nothing_told w _ pid child status is
tells_execve w pid (Err e) child status is = nothing_told w _ pid child status is

tells_forks : (w : World) (pid : ℕ) (r : Result ℕ Errno) → TellsRight w pid (forks w pid r)
tells_forks w pid (Ok n) child status is = nothing_told w _ pid child status is
tells_forks w pid (Err e) child status is = nothing_told w _ pid child status is

tells_changes : (w : World) (pid n : ℕ) (r : Result World Errno) → TellsRight w pid (changes w n r)
tells_changes w pid n (Ok after) child status is = nothing_told w _ pid child status is
tells_changes w pid n (Err e) child status is = nothing_told w _ pid child status is

tells_asked : (w : World) (pid : ℕ) (r : Result ℕ Errno) → TellsRight w pid (asked w r)
tells_asked w pid (Ok n) child status is = nothing_told w _ pid child status is
tells_asked w pid (Err e) child status is = nothing_told w _ pid child status is

tells_polled : (w : World) (pid : ℕ) (request : Request) (p : Poll) → ready_of w pid request ≡ p → TellsRight w pid (polled w pid request p)
tells_polled w pid request (Poll.Told k s) ready child status is =
    let same_child : k ≡ child = ap (λ (o : Option (ℕ × ℕ)). (unwrap_or o (0, 0)).0) is in
    let same_status : s ≡ status = ap (λ (o : Option (ℕ × ℕ)). (unwrap_or o (0, 0)).1) is in
    subst (λ n. IsTold w (told w (Poll.Told k s)) pid child n) same_status
    (subst (λ c. IsTold w (told w (Poll.Told k s)) pid c s) same_child (told_of_ready w pid request k s ready))
tells_polled w pid request Poll.NoMatch ready child status is = nothing_told w _ pid child status is
tells_polled w pid request Poll.NotReady ready child status is =
    cond_both (is_no_hang request.options) (returns w 0) (waits w pid (Waiting.Asks request)) (λ (p : Performed). told_in p.outcome ≡ Some (child, status) → IsTold w p.world pid child status)
    (λ _ is. nothing_told w _ pid child status is) (λ _ is. nothing_told w _ pid child status is) is

tells_wait4 : (w : World) (pid : ℕ) (call : Record) → TellsRight w pid (wait4 w pid call)
tells_wait4 w pid call =
    cond_both (not (are_wait_options (unsigned call 2))) (fails w Einval) _ (TellsRight w pid) (λ _ child status is. nothing_told w _ pid child status is)
    (λ _. cond_both (unsigned call 0 == 2147483648) (fails w Esrch) _ (TellsRight w pid) (λ _ child status is. nothing_told w _ pid child status is)
    (λ _. tells_polled w pid (request_of w pid call) (ready_of w pid (request_of w pid call)) refl))

tells_subreapers : (there : Bool) (w : World) (pid : ℕ) (p : Performed) → TellsRight w pid p → TellsRight w pid (where_subreapers there w p)
tells_subreapers true w pid p right = right
tells_subreapers false w pid p right = λ child status is. nothing_told w w pid child status is

tells_row : (declared : Images) (w : World) (pid : ℕ) (body : Body) (which : Option Syscall) (call : Record) → TellsRight w pid (row declared w pid body which call)
tells_row declared w pid body which call =
    let none = λ (after : World) (child status : ℕ) (is : ◌≡◌ {A = Option (ℕ × ℕ)} None (Some (child, status))). nothing_told w after pid child status is in
    each_call declared w pid body call (λ _. TellsRight w pid) (record {
      answers = tells_asked w pid;
      tells_signals = λ _. none w;
      tells_ids = none w;
      resignals = tells_resignals w pid;
      authorises = tells_authorises w pid;
      executes = tells_execve w pid;
      marks = tells_subreapers declared.subreapers w pid (subreaper_set w pid call) (λ child status is. nothing_told w _ pid child status is);
      asks_mark = tells_subreapers declared.subreapers w pid (subreaper_asked w body.subreaper) (λ child status is. nothing_told w _ pid child status is);
      pauses = λ child status is. nothing_told w _ pid child status is;
      waits_for = tells_wait4 w pid call;
      forks_one = tells_forks w pid (fork_answer w);
      ends = λ code child status is. nothing_told w _ pid child status is;
      kills = tells_changes w pid 0 (after_kill w pid body.creds (signed call 0) (unsigned call 1));
      regroups = tells_changes w pid 0 (after_setpgid w pid (signed call 0) (signed call 1));
      leads = tells_changes w pid pid (after_setsid w pid);
    }) which

tells_judged : (declared : Images) (w : World) (pid : ℕ) (body : Body) (call : Record) (verdict : ℕ) (a : Action)
    → TellsRight w pid (judged declared w pid body call verdict a)
tells_judged declared w pid body call verdict Action.Allow = tells_row declared w pid body (syscall_of call.nr) call
tells_judged declared w pid body call verdict Action.Log = tells_row declared w pid body (syscall_of call.nr) call
tells_judged declared w pid body call verdict Action.Trap = λ child status is. nothing_told w _ pid child status is
tells_judged declared w pid body call verdict Action.Errno = λ child status is. nothing_told w _ pid child status is
tells_judged declared w pid body call verdict Action.UserNotif = λ child status is. nothing_told w _ pid child status is
tells_judged declared w pid body call verdict Action.Trace = λ child status is. nothing_told w _ pid child status is
tells_judged declared w pid body call verdict Action.KillProcess = λ child status is. nothing_told w _ pid child status is
tells_judged declared w pid body call verdict Action.KillThread = λ child status is. nothing_told w _ pid child status is
tells_judged declared w pid body call verdict Action.Unknown = λ child status is. nothing_told w _ pid child status is

still_gone : (w : World) (pid k : ℕ) (f : Body → Body) → at w k ≡ None → at (changed w pid f) k ≡ None
still_gone w pid k f gone =
    everywhere w pid (option_map (body_changed f) (at w pid)) (λ q x. q ≡ k → x ≡ None) (λ here. ap (λ o. option_map (body_changed f) o) (ap (at w) here ∙ gone))
    (λ q ne is. ap (at w) is ∙ gone) k refl

tells_again : (w : World) (pid : ℕ) (request : Request) (p : Poll) → ready_of w pid request ≡ p → TellsRight w pid (polled_again w pid p)
tells_again w pid request (Poll.Told k s) ready child status is =
    let same_child : k ≡ child = ap (λ (o : Option (ℕ × ℕ)). (unwrap_or o (0, 0)).0) is in
    let same_status : s ≡ status = ap (λ (o : Option (ℕ × ℕ)). (unwrap_or o (0, 0)).1) is in
    let after : World = told w (Poll.Told k s) in
    let tells = told_of_ready w pid request k s ready in
    subst (λ n. IsTold w (changed after pid (waiting_in Waiting.Nothing)) pid child n) same_status
    (subst (λ c. IsTold w (changed after pid (waiting_in Waiting.Nothing)) pid c s) same_child (record {
      there = tells.there;
      ended = tells.ended;
      gone = λ low. still_gone after pid k (waiting_in Waiting.Nothing) (tells.gone low);
    }))
tells_again w pid request Poll.NoMatch ready child status is = nothing_told w _ pid child status is
tells_again w pid request Poll.NotReady ready child status is = nothing_told w _ pid child status is

tells_resumed : (w : World) (pid : ℕ) (waiting : Waiting) → TellsRight w pid (resumed w pid waiting)
tells_resumed w pid (Waiting.Asks request) = tells_again w pid request (ready_of w pid request) refl
tells_resumed w pid Waiting.Pause = λ child status is. nothing_told w _ pid child status is
tells_resumed w pid Waiting.Nothing = λ child status is. nothing_told w _ pid child status is

-- what is told by what a step comes to
abbrev StepTells : World → ℕ → Stepped → Type 0
StepTells w pid s = (child status : ℕ) → told_by s.answer ≡ Some (child, status) → IsTold w s.world pid child status

tells_happened : (declared : Images) (w : World) (body : Body) (event : Event) → StepTells w (pid_of event) (happened declared w body event)
tells_happened declared w body (Call pid ip asked) child status is =
    let call : Record = recorded ip asked in
    let verdict : ℕ = verdict_of body.chain call in
    tells_judged declared w pid body call verdict (action_of verdict) child status is
tells_happened declared w body (Deliver pid) child status is =
    at_delivery w pid body (signal_for body) (StepTells w pid) (λ child status is. nothing_told w _ pid child status is) (λ n child status is. nothing_told w _ pid child status is) child status is
tells_happened declared w body (Resume pid) child status is = tells_resumed w pid body.waiting child status is
tells_happened declared w body (Fault pid) child status is = nothing_told w _ pid child status is

tells_step : (declared : Images) (w : World) (event : Event) → StepTells w (pid_of event) (step_of declared w event)
tells_step declared w event =
    at_step declared w event (StepTells w (pid_of event)) (λ _ _ child status is. nothing_told w _ (pid_of event) child status is)
    (λ p there alive. tells_happened declared w p.body event)

pub end_is_told_to_parent : EndIsToldToParent
end_is_told_to_parent declared w event child status is low =
    let tells = tells_step declared w event child status is in
    let ended = tells.ended low in
    (ended.0, ended.1, ended.2, tells.gone low)

-- ---- who is gone stays away until a fork gives its pid
absent : (o : Option Proc) → (IsTrue (is_some o) → ⊥) → o ≡ None
absent None away = refl
absent (Some p) away = absurd (away refl)

stays_absent : (declared : Images) (w : World) (event : Event) (k : ℕ) → at w k ≡ None → is_fork_of k (happening declared w event) ≡ false → at (step_of declared w event).world k ≡ None
stays_absent declared w event k gone no_fork =
    absent (at (step_of declared w event).world k) (λ there.
    let before = (event_changes_authority declared w event k there).0 in
    let same : lineage_before k (happening declared w event) ≡ k = ap (λ b. cond b (pid_of event) k) no_fork in
    false≢true (sym (ap is_some (ap (at w) same ∙ gone)) ∙ before))

none_before : (declared : Images) (w : World) (events : List Event) (before : List Happening) (k : ℕ)
    → list_any (is_fork_of k) (history_after declared w events before) ≡ false → list_any (is_fork_of k) before ≡ false
none_before declared w [] before k none = none
none_before declared w (event ∷ events) before k none =
    (or_parts (is_fork_of k (happening declared w event)) (list_any (is_fork_of k) before)
    (none_before declared (step_of declared w event).world events (happening declared w event ∷ before) k none)).1

stays_away : (declared : Images) (w : World) (events : List Event) (before : List Happening) (k : ℕ)
    → list_any (is_fork_of k) (history_after declared w events before) ≡ false → at w k ≡ None → at (world_after declared w events) k ≡ None
stays_away declared w [] before k none gone = gone
stays_away declared w (event ∷ events) before k none gone =
    let first = (or_parts (is_fork_of k (happening declared w event)) (list_any (is_fork_of k) before)
    (none_before declared (step_of declared w event).world events (happening declared w event ∷ before) k none)).0 in
    stays_away declared (step_of declared w event).world events (happening declared w event ∷ before) k none (stays_absent declared w event k gone first)

pub end_is_told_once : EndIsToldOnce
end_is_told_once declared w first between later child status again is low is_again =
    let middle : World = (step_of declared w first).world in
    let forks : Bool = list_any (is_fork_of child) (history_after declared middle between []) in
    elim forks as (λ b. forks ≡ b → IsTrue b) [
      | true ↦ λ _. refl
      | false ↦ λ none.
          let gone = stays_away declared middle between [] child none ((tells_step declared w first child status is).gone low) in
          let there = (tells_step declared (world_after declared middle between) later child again is_again).there in
          absurd (false≢true (sym (ap is_some gone) ∙ there))
    ] refl
