-- The event that is due to whoever has the turn is possible, and so it happens.
use Rattle.std.proofs.Common.{◌≡◌, ◌∙◌, ℕ, zero, suc, ap, refl, sym, subst, false, not, ◌&&◌, IsTrue, List, [], slice_get, Option, None, Some, Result, Ok, Err}
use Rattle.std.specs.Option.{option_and_then}
use Rattle.std.proofs.lemmas.Bool.{false≢true, and_parts, cond_both, not-true}
use Rattle.sk_world.specs.declared.process.TheConstants.{INIT}
use Rattle.sk_world.specs.declared.process.Life.{Life}
use Rattle.sk_world.specs.declared.process.Life.TheVariants as life
use Rattle.sk_world.specs.declared.process.Proc.{Proc}
use Rattle.sk_world.specs.World.{World, at, has_ended, is_alive, is_halted, is_zombie}
use Rattle.sk_scenario.specs.declared.call.ScriptCall.{ScriptCall}
use Rattle.sk_scenario.specs.Scenario.{Script, Setting}
use Rattle.sk_machine.specs.declared.event.Event.{Event}
use Rattle.sk_machine.specs.declared.event.Need.{Need}
use Rattle.sk_machine.specs.declared.event.Need.TheVariants as need
use Rattle.sk_machine.specs.declared.answer.Answer.TheVariants as answer
use Rattle.sk_machine.specs.declared.answer.Reason.{Reason}
use Rattle.sk_machine.specs.Events.{pid_of}
use Rattle.sk_machine.specs.Machine.{end_status, halted_of, reason_of}
use Rattle.sk_machine.specs.Turns.{is_runnable, need_of, need_met_by, next_of}
use Rattle.sk_laws.proofs.Turns.{next_is_turn, runnable_has_event}
use Rattle.sk_laws.proofs.Unchanged.{possible_happens}
use Rattle.sk_run.specs.declared.turn.End.{End}
use Rattle.sk_run.specs.declared.turn.ReportLine.TheVariants as turn
use Rattle.sk_run.specs.Levels.{Stack}
use Rattle.sk_run.specs.Scheduling.{Scheduled, opened, line_due, own_event, event_by, event_of, images_of, runner_by, runner_of, stepped_by, turn_by, after_turn_by}
use Rattle.sk_run.specs.Report.{Report, onto, ended, report_from}
use Rattle.sk_run.specs.laws.ReportLaws.{DueIsPossible, EachTurnHappens}

-- an event of this process that meets this need
record Meets (pid : ℕ) (what : Need) (event : Event) : Type 0 where
  of_it : pid_of event ≡ pid
  met : need_met_by event ≡ what

own_meets : (scripts : List Script) (pid : ℕ) (s : Stack) (line : Option ScriptCall) → Meets pid need.Call (own_event scripts pid s line)
own_meets scripts pid s (Some line) = record { of_it = refl; met = refl }
own_meets scripts pid s None =
    cond_both s.top.refused _ _ (Meets pid need.Call) (λ _. record { of_it = refl; met = refl }) (λ _. record { of_it = refl; met = refl })

due_meets : (scripts : List Script) (pid : ℕ) (s : Stack) (what : Need) → Meets pid what (event_by scripts pid s what)
due_meets scripts pid s need.Deliver = record { of_it = refl; met = refl }
due_meets scripts pid s need.Resume = record { of_it = refl; met = refl }
due_meets scripts pid s need.Call = own_meets scripts pid s (line_due scripts s)

pub due_of_it : (scripts : List Script) (pid : ℕ) (s : Stack) (what : Need) (event : Event) → event ≡ event_by scripts pid s what → pid_of event ≡ pid
due_of_it scripts pid s what event is = ap pid_of is ∙ (due_meets scripts pid s what).of_it

pub due_is_possible : DueIsPossible
due_is_possible setting s pid runs =
    let meets = due_meets setting.programs pid (s.stacks pid) (need_of s.world pid) in
    (runnable_has_event s.world (event_of setting s pid) (subst (λ q. IsTrue (is_runnable s.world q)) (sym meets.of_it) runs)).1
    (meets.met ∙ ap (need_of s.world) (sym meets.of_it))

-- who is next can run, and so has the turn
is_alive_not_halted : (o : Option Proc) → is_zombie o ≡ false → option_and_then (λ p. end_status p.body.life) o ≡ None
is_alive_not_halted None going = refl
is_alive_not_halted (Some p) going = no_status p.body.life going
  where
    no_status : (l : Life) → has_ended l ≡ false → end_status l ≡ None
    no_status (life.Zombie status) going = absurd (false≢true (sym going))
    no_status life.Stopped going = refl
    no_status life.Running going = refl

pub next_runs : (w : World) (last pid : ℕ) → next_of w last ≡ Some pid → IsTrue (is_runnable w pid)
next_runs w last pid is = (next_is_turn w last pid is).runs

pub next_has_the_turn : (w : World) (last pid : ℕ) → next_of w last ≡ Some pid → Ok pid ≡ runner_by (halted_of w) (next_of w last)
next_has_the_turn w last pid is =
    let runs = and_parts (not (is_halted w) && is_alive (at w pid)) _ (next_runs w last pid is) in
    let going : is_halted w ≡ false = not-true (is_halted w) (and_parts (not (is_halted w)) (is_alive (at w pid)) runs.0).0 in
    sym ((λ i. runner_by (is_alive_not_halted (at w INIT) going i) (is i)))

-- the event that is due, by the levels alone
pub due_now : (setting : Setting) (w : World) (pid : ℕ) (s : Stack) (event : Event) → event ≡ event_by setting.programs pid s (need_of w pid) → IsTrue (is_runnable w pid) → reason_of w event ≡ None
due_now setting w pid s event is runs =
    ap (reason_of w) is ∙ due_is_possible setting (record { world = w; stacks = λ other. s; last = 0; used = 0 }) pid runs

-- whoever has the turn can run
has_the_turn : (halted next : Option ℕ) (pid : ℕ) → runner_by halted next ≡ Ok pid → next ≡ Some pid
has_the_turn (Some status) next pid is = cc
has_the_turn None (Some first) pid is = cc
has_the_turn None None pid is = cc

happens_now : (setting : Setting) (s : Scheduled) (pid n : ℕ) (event : Event) (reason : Reason) → runner_of s ≡ Ok pid
    → turn_by setting s pid ≡ turn.Turn n event (answer.NotNow reason) → ⊥
happens_now setting s pid n event reason runner is =
    let runs = (next_is_turn s.world s.last pid (has_the_turn (halted_of s.world) (next_of s.world s.last) pid runner)).runs in
    let not_now : (stepped_by setting s pid).answer ≡ answer.NotNow reason = cc in
    possible_happens (images_of setting) s.world (event_of setting s pid) reason (due_is_possible setting s pid runs) not_now

-- the report where so many turns are left, by whose turn it is
abbrev by_runner : Setting → Scheduled → ℕ → Result ℕ End → Report
by_runner setting s left r =
    elim r [ Ok pid ↦ onto (turn_by setting s pid) (report_from left setting (after_turn_by setting s pid)) | Err end ↦ ended end ]

nothing_stands : {X : Type 0} (place : ℕ) (x : X) → slice_get [] place ≡ Some x → ⊥
nothing_stands zero x is = cc
nothing_stands (suc place) x is = cc

-- no turn of the report from here on, where so many are left, tells of an event that was not possible
abbrev Happens : Setting → ℕ → Type 0
Happens setting left =
    (s : Scheduled) (place n : ℕ) (event : Event) (reason : Reason)
    → slice_get (report_from left setting s).turns place ≡ Some (turn.Turn n event (answer.NotNow reason)) → ⊥

happens_by : (setting : Setting) (left : ℕ) → Happens setting left → (s : Scheduled) (r : Result ℕ End) (place n : ℕ) (event : Event) (reason : Reason) → runner_of s ≡ r
    → slice_get (by_runner setting s left r).turns place ≡ Some (turn.Turn n event (answer.NotNow reason)) → ⊥
happens_by setting left rest s (Err end) place n event reason runner is = nothing_stands place _ is
happens_by setting left rest s (Ok pid) zero n event reason runner is = happens_now setting s pid n event reason runner cc
happens_by setting left rest s (Ok pid) (suc place) n event reason runner is = rest (after_turn_by setting s pid) place n event reason is

happens_from : (setting : Setting) (left : ℕ) → Happens setting left
unfolding report_from
happens_from setting zero s place n event reason is = nothing_stands place _ is
happens_from setting (suc left) s place n event reason is = happens_by setting left (happens_from setting left) s (runner_of s) place n event reason refl is

pub each_turn_happens : EachTurnHappens
each_turn_happens setting place n event reason = happens_from setting setting.turns opened place n event reason
