-- Whose turn it is, and that who can run has the event that it needs, and who cannot does nothing.
use Rattle.std.proofs.Common.{◌≡◌, ◌∙◌, ◌⊎◌, ◌↔◌, inl, inr, ℕ, arith, ◌&&◌, ◌||◌, ap, sym, refl, subst, cond, not, nat_lt, Bool, true, false, IsTrue, List, [], ◌∷◌, Option, None, Some}
use Rattle.sk_laws.specs.Common.{is_some, option_or, option_map_or, unwrap_or, find, list_any, Proc, Waiting, Poll, pids, World, at, has_ended, is_halted, is_stopped, is_zombie, is_alive, is_ready, has_match, status_of, Event, Call, Deliver, Resume, Fault, Resumed, Waits, Reason, pid_of, Images, polled_again, resumed, signal_due, is_waiting, is_in_call, Stepped, resume_answered, call_reason, own_reason, is_due_delivery, reason_of, stepped, step_of, world_after, happened_to, waits_no_more, is_runnable, need_of, need_met_by, goes_on}
use Rattle.sk_world.proofs.Common.{false≢true, not-true, not-false, and_parts, and_from, or_parts, cond_both, ltb-true, lt-ltb, ltb-false}
use Rattle.sk_world.proofs.StatusChanges.{by_first, ready_first}
use Rattle.sk_world.proofs.KeptTold.{found}
use Rattle.sk_world.proofs.Telling.{least_found, none_found as nobody_found}
use Rattle.sk_world.proofs.KeptEnd.{alive_is_there}
use Rattle.sk_machine.specs.declared.event.Need.{Need}
use Rattle.sk_laws.specs.TurnLaws.{IsTurn, NextIsTurn, NobodysTurn, RunnableHasEvent, IdleDoesNothing, EndIsFinal}

-- ---- whose turn it is
runs_there : (w : World) (k : ℕ) → IsTrue (is_runnable w k) → IsTrue (is_some (at w k))
runs_there w k runs =
    let both = and_parts (not (is_halted w) && is_alive (at w k)) (is_some (signal_due (at w k)) || (not (is_stopped (at w k)) && goes_on w k (at w k))) runs in
    alive_is_there (at w k) (and_parts (not (is_halted w)) (is_alive (at w k)) both.0).1

left_fails : (a b : Bool) → (a && b) ≡ false → b ≡ true → a ≡ false
left_fails true b fails holds = absurd (false≢true (sym fails ∙ holds))
left_fails false b fails holds = refl

abbrev can_run_above : World → ℕ → ℕ → Bool
can_run_above w last k = nat_lt last k && is_runnable w k

turn_from : (w : World) (last pid : ℕ) (o : Option ℕ) → find (can_run_above w last) (pids w.procs) ≡ o → option_or o (find (is_runnable w) (pids w.procs)) ≡ Some pid → IsTurn w last pid
turn_from w last pid None none is = record {
  runs = found (is_runnable w) (pids w.procs) pid is;
  least = inr (λ k runs.
      let there = runs_there w k runs in
      let below = ltb-false last k (left_fails (nat_lt last k) (is_runnable w k) (nobody_found (can_run_above w last) w.procs.entries none k there) runs) in
      (omega arith, least_found (is_runnable w) w.procs.entries w.procs.rising pid is k runs there));
}
turn_from w last pid (Some first) some is =
    let both = and_parts (nat_lt last pid) (is_runnable w pid) (found (can_run_above w last) (pids w.procs) pid (some ∙ is)) in
    record {
      runs = both.1;
      least = inl (
        ltb-true last pid both.0,
        λ k runs above.
            least_found (can_run_above w last) w.procs.entries w.procs.rising pid (some ∙ is) k (and_from (nat_lt last k) (is_runnable w k) (lt-ltb last k above) runs) (runs_there w k runs),
      );
    }

pub next_is_turn : NextIsTurn
next_is_turn w last pid is = turn_from w last pid (find (can_run_above w last) (pids w.procs)) refl is

-- ---- who can run
-- nothing stands in the way of a process that lives
no_reason : (halted nobody zombie : Bool) (own : Option Reason) → halted ≡ false → nobody ≡ false → zombie ≡ false
    → cond halted (Some Reason.Halted) (cond nobody (Some Reason.NoProcess) (cond zombie (Some Reason.Zombie) own)) ≡ own
no_reason halted nobody zombie own going there living =
    ap (λ b. cond b (Some Reason.Halted) (cond nobody (Some Reason.NoProcess) (cond zombie (Some Reason.Zombie) own))) going
    ∙ ap (λ b. cond b (Some Reason.NoProcess) (cond zombie (Some Reason.Zombie) own)) there
    ∙ ap (λ b. cond b (Some Reason.Zombie) own) living

has_not_ended : (o : Option Proc) → IsTrue (is_alive o) → is_zombie o ≡ false
has_not_ended None alive = refl
has_not_ended (Some p) alive = not-true (has_ended p.body.life) alive

-- what is needed of a process that a signal is due to, or not, and that waits, or not
abbrev needed : Bool → Bool → Need
needed due waits = cond due Need.Deliver (cond waits Need.Resume Need.Call)

-- the answer to an event of a process that is stopped, or not
abbrev own : Bool → Option Reason → Option Reason
own stopped r = cond stopped (Some Reason.Stopped) r

call_meets : (due stopped waits end_of_caller : Bool) → IsTrue (due || (not stopped && end_of_caller))
    → (own (stopped && true) (cond waits (Some Reason.Waiting) (cond due (Some Reason.SignalFirst) None)) ≡ None) ↔ (Need.Call ≡ needed due waits)
call_meets true true waits end_of_caller runs = (λ is. cc, λ is. cc)
call_meets true false true end_of_caller runs = (λ is. cc, λ is. cc)
call_meets true false false end_of_caller runs = (λ is. cc, λ is. cc)
call_meets false true waits end_of_caller runs = absurd (false≢true runs)
call_meets false false true end_of_caller runs = (λ is. cc, λ is. cc)
call_meets false false false end_of_caller runs = (λ is. refl, λ is. refl)

resumption_meets : (due stopped waits end_of_caller : Bool) → IsTrue (due || (not stopped && end_of_caller))
    → (own (stopped && true) (cond (not waits) (Some Reason.NothingWaits) (cond due (Some Reason.SignalFirst) None)) ≡ None) ↔ (Need.Resume ≡ needed due waits)
resumption_meets true true waits end_of_caller runs = (λ is. cc, λ is. cc)
resumption_meets true false true end_of_caller runs = (λ is. cc, λ is. cc)
resumption_meets true false false end_of_caller runs = (λ is. cc, λ is. cc)
resumption_meets false true waits end_of_caller runs = absurd (false≢true runs)
resumption_meets false false true end_of_caller runs = (λ is. refl, λ is. refl)
resumption_meets false false false end_of_caller runs = (λ is. cc, λ is. cc)

delivery_meets : (due stopped waits end_of_caller : Bool) → IsTrue (due || (not stopped && end_of_caller))
    → (own (stopped && not due) (cond due None (Some Reason.NothingWaits)) ≡ None) ↔ (Need.Deliver ≡ needed due waits)
delivery_meets true true waits end_of_caller runs = (λ is. refl, λ is. refl)
delivery_meets true false waits end_of_caller runs = (λ is. refl, λ is. refl)
delivery_meets false true waits end_of_caller runs = absurd (false≢true runs)
delivery_meets false false true end_of_caller runs = (λ is. cc, λ is. cc)
delivery_meets false false false end_of_caller runs = (λ is. cc, λ is. cc)

own_meets : (w : World) (event : Event)
    → IsTrue (is_some (signal_due (at w (pid_of event))) || (not (is_stopped (at w (pid_of event))) && goes_on w (pid_of event) (at w (pid_of event))))
    → (own (is_stopped (at w (pid_of event)) && not (is_due_delivery w event)) (own_reason w event) ≡ None) ↔ (need_met_by event ≡ need_of w (pid_of event))
own_meets w (Call pid ip call) runs = call_meets (is_some (signal_due (at w pid))) (is_stopped (at w pid)) (is_in_call (at w pid)) (goes_on w pid (at w pid)) runs
own_meets w (Deliver pid) runs = delivery_meets (is_some (signal_due (at w pid))) (is_stopped (at w pid)) (is_in_call (at w pid)) (goes_on w pid (at w pid)) runs
own_meets w (Resume pid) runs = resumption_meets (is_some (signal_due (at w pid))) (is_stopped (at w pid)) (is_in_call (at w pid)) (goes_on w pid (at w pid)) runs
own_meets w (Fault pid) runs = call_meets (is_some (signal_due (at w pid))) (is_stopped (at w pid)) (is_in_call (at w pid)) (goes_on w pid (at w pid)) runs

pub runnable_has_event : RunnableHasEvent
runnable_has_event w event runs =
    let o : Option Proc = at w (pid_of event) in
    let both = and_parts (not (is_halted w) && is_alive o) (is_some (signal_due o) || (not (is_stopped o) && goes_on w (pid_of event) (at w (pid_of event)))) runs in
    let lives = and_parts (not (is_halted w)) (is_alive o) both.0 in
    let last : Option Reason = own (is_stopped o && not (is_due_delivery w event)) (own_reason w event) in
    subst (λ r. (r ≡ None) ↔ (need_met_by event ≡ need_of w (pid_of event)))
    (sym (no_reason (is_halted w) (not (is_some o)) (is_zombie o) last (not-true (is_halted w) lives.0) (ap not (alive_is_there o lives.1)) (has_not_ended o lives.1)))
    (own_meets w event both.1)

-- ---- who cannot run
none_found : (p : ℕ → Bool) (xs : List ℕ) → list_any p xs ≡ false → find p xs ≡ None
none_found p [] none = refl
none_found p (x ∷ xs) none =
    let both = or_parts (p x) (list_any p xs) none in
    ap (λ b. cond b (Some x) (find p xs)) both.0 ∙ none_found p xs both.1

-- a call that would not end goes on waiting
keeps_waiting : (w : World) (pid : ℕ) (what : Waiting) → waits_no_more w pid what ≡ false → resumed w pid what ≡ record { outcome = Waits; world = w }
unfolding by_first
keeps_waiting w pid Waiting.Nothing waits = refl
keeps_waiting w pid Waiting.Pause waits = refl
keeps_waiting w pid (Waiting.Asks request) waits =
    let both = or_parts (list_any (is_ready w pid request) (pids w.procs)) (not (has_match w pid request)) waits in
    let answer : Option ℕ → Poll → Poll = λ o none. option_map_or (λ k. Poll.Told k (unwrap_or (status_of request.options (at w k)) 0)) o none in
    ap (polled_again w pid) (ready_first w pid request)
    ∙ ap (λ o. polled_again w pid (answer o (cond (has_match w pid request) Poll.NotReady Poll.NoMatch))) (none_found (is_ready w pid request) (pids w.procs) both.0)
    ∙ ap (λ b. polled_again w pid (cond b Poll.NotReady Poll.NoMatch)) (not-false (has_match w pid request) both.1)

-- one that waits in no call would go on
waits_in_none : (w : World) (pid : ℕ) (what : Waiting) → is_waiting what ≡ false → waits_no_more w pid what ≡ true
waits_in_none w pid Waiting.Nothing is = refl
waits_in_none w pid Waiting.Pause is = absurd (false≢true (sym is))
waits_in_none w pid (Waiting.Asks request) is = absurd (false≢true (sym is))

runs_on : (w : World) (pid : ℕ) (o : Option Proc) → IsTrue (is_some o) → is_in_call o ≡ false → goes_on w pid o ≡ true
runs_on w pid None there free = absurd (false≢true there)
runs_on w pid (Some p) there free = waits_in_none w pid p.body.waiting free

-- one that lives and cannot run has no signal due, and is stopped or goes on waiting
idle_parts : (halted : Bool) (o : Option Proc) (b : Bool) → (not halted && is_alive o && b) ≡ false → halted ≡ false → not (is_some o) ≡ false → is_zombie o ≡ false → b ≡ false
idle_parts true o b idle going there living = absurd (false≢true (sym going))
idle_parts false None b idle going there living = absurd (false≢true (sym there))
idle_parts false (Some p) b idle going there living = sym (ap (λ e. not e && b) living) ∙ idle

idle_waits : (due stopped end_of_caller : Bool) → (due || (not stopped && end_of_caller)) ≡ false → (stopped && true) ≡ false → end_of_caller ≡ false
idle_waits true stopped end_of_caller idle moves = absurd (false≢true (sym idle))
idle_waits false true end_of_caller idle moves = absurd (false≢true (sym moves))
idle_waits false false end_of_caller idle moves = idle

-- the event is not possible for this reason, or does nothing
abbrev Idles : Images → World → Event → Option Reason → Type 0
Idles declared w event o = IsTrue (is_some o) ⊎ (stepped declared w event o ≡ record { answer = Resumed Waits; world = w })

idle_call : (declared : Images) (w : World) (pid : ℕ) (event : Event) → IsTrue (is_some (at w pid)) → goes_on w pid (at w pid) ≡ false
    → Idles declared w event (call_reason w pid)
idle_call declared w pid event there waits =
    cond_both (is_in_call (at w pid)) (Some Reason.Waiting) _ (Idles declared w event) (λ _. inl refl)
    (λ free. absurd (false≢true (sym waits ∙ runs_on w pid (at w pid) there free)))

-- one that asks again goes on waiting
asks_again : (declared : Images) (w : World) (pid : ℕ) (o : Option Proc) → IsTrue (is_some o) → goes_on w pid o ≡ false
    → happened_to declared w (Resume pid) o ≡ record { answer = Resumed Waits; world = w }
asks_again declared w pid None there waits = absurd (false≢true there)
asks_again declared w pid (Some p) there waits = ap resume_answered (keeps_waiting w pid p.body.waiting waits)

idle_own : (declared : Images) (w : World) (event : Event) → IsTrue (is_some (at w (pid_of event)))
    → (is_some (signal_due (at w (pid_of event))) || (not (is_stopped (at w (pid_of event))) && goes_on w (pid_of event) (at w (pid_of event)))) ≡ false
    → (is_stopped (at w (pid_of event)) && not (is_due_delivery w event)) ≡ false → Idles declared w event (own_reason w event)
idle_own declared w (Call pid ip call) there idle moves =
    idle_call declared w pid (Call pid ip call) there (idle_waits (is_some (signal_due (at w pid))) (is_stopped (at w pid)) (goes_on w pid (at w pid)) idle moves)
idle_own declared w (Fault pid) there idle moves =
    idle_call declared w pid (Fault pid) there (idle_waits (is_some (signal_due (at w pid))) (is_stopped (at w pid)) (goes_on w pid (at w pid)) idle moves)
idle_own declared w (Deliver pid) there idle moves =
    let quiet = (or_parts (is_some (signal_due (at w pid))) (not (is_stopped (at w pid)) && goes_on w pid (at w pid)) idle).0 in
    cond_both (is_some (signal_due (at w pid))) None (Some Reason.NothingWaits) (Idles declared w (Deliver pid)) (λ due. absurd (false≢true (sym quiet ∙ due))) (λ _. inl refl)
idle_own declared w (Resume pid) there idle moves =
    let waits : goes_on w pid (at w pid) ≡ false = idle_waits (is_some (signal_due (at w pid))) (is_stopped (at w pid)) (goes_on w pid (at w pid)) idle moves in
    cond_both (not (is_in_call (at w pid))) (Some Reason.NothingWaits) _ (Idles declared w (Resume pid)) (λ _. inl refl)
    (λ _. cond_both (is_some (signal_due (at w pid))) (Some Reason.SignalFirst) None (Idles declared w (Resume pid)) (λ _. inl refl)
    (λ _. inr (asks_again declared w pid (at w pid) there waits)))

pub idle_does_nothing : IdleDoesNothing
unfolding step_of
idle_does_nothing declared w event idle =
    let o : Option Proc = at w (pid_of event) in
    let P : Option Reason → Type 0 = Idles declared w event in
    cond_both (is_halted w) (Some Reason.Halted) _ P (λ _. inl refl) (λ going.
    cond_both (not (is_some o)) (Some Reason.NoProcess) _ P (λ _. inl refl) (λ there.
    cond_both (is_zombie o) (Some Reason.Zombie) _ P (λ _. inl refl) (λ living.
    let quiet = idle_parts (is_halted w) o (is_some (signal_due o) || (not (is_stopped o) && goes_on w (pid_of event) (at w (pid_of event)))) idle going there living in
    cond_both (is_stopped o && not (is_due_delivery w event)) (Some Reason.Stopped) (own_reason w event) P (λ _. inl refl)
    (λ moves. idle_own declared w event (not-false (is_some o) there) quiet moves))))

-- ---- where nobody can run
impossible : (declared : Images) (w : World) (event : Event) (o : Option Reason) → IsTrue (is_some o) → (stepped declared w event o).world ≡ w
impossible declared w event None there = absurd (false≢true there)
impossible declared w event (Some reason) there = refl

idle_world : (declared : Images) (w : World) (event : Event) → is_runnable w (pid_of event) ≡ false → (step_of declared w event).world ≡ w
unfolding step_of
idle_world declared w event idle =
    elim (idle_does_nothing declared w event idle) [
      | inl is ↦ impossible declared w event (reason_of w event) is
      | inr nothing ↦ ap (λ (s : Stepped). s.world) nothing
    ]

idle_for_good : (declared : Images) (w : World) (events : List Event) → ((q : ℕ) → is_runnable w q ≡ false) → world_after declared w events ≡ w
idle_for_good declared w [] idle = refl
idle_for_good declared w (event ∷ events) idle =
    ap (λ v. world_after declared v events) (idle_world declared w event (idle (pid_of event))) ∙ idle_for_good declared w events idle

absent : (halted : Bool) (o : Option Proc) (b : Bool) → is_some o ≡ false → (not halted && is_alive o && b) ≡ false
absent true o b gone = refl
absent false None b gone = refl
absent false (Some p) b gone = absurd (false≢true (sym gone))

nobody_runs : (w : World) → find (is_runnable w) (pids w.procs) ≡ None → (q : ℕ) → is_runnable w q ≡ false
nobody_runs w none q =
    elim (is_some (at w q)) as (λ b. is_some (at w q) ≡ b → is_runnable w q ≡ false) [
      | true ↦ λ there. nobody_found (is_runnable w) w.procs.entries none q there
      | false ↦ λ gone. absent (is_halted w) (at w q) (is_some (signal_due (at w q)) || (not (is_stopped (at w q)) && goes_on w q (at w q))) gone
    ] refl

neither : (a b : Option ℕ) → option_or a b ≡ None → b ≡ None
neither None b none = none
neither (Some k) b none = cc

pub nobodys_turn : NobodysTurn
nobodys_turn w last none = nobody_runs w (neither (find (λ pid. nat_lt last pid && is_runnable w pid) (pids w.procs)) (find (is_runnable w) (pids w.procs)) none)

pub end_is_final : EndIsFinal
end_is_final declared w last events none =
    idle_for_good declared w events (nobodys_turn w last none)
