-- A report is a run of the machine.
use Rattle.std.proofs.Common.{◌≡◌, ◌∙◌, ℕ, zero, suc, ◌+◌, arith, ap, refl, subst, false, List, [], ◌∷◌, length, Option, None, Some, Result, Ok, Err}
use Rattle.sk_scenario.specs.Scenario.{Setting}
use Rattle.sk_world.specs.World.{World, opening}
use Rattle.sk_machine.specs.declared.event.Event.{Event}
use Rattle.sk_machine.specs.Machine.{halted_of, answers_of, world_after}
use Rattle.sk_machine.specs.Turns.{is_runnable, next_of}
use Rattle.sk_laws.proofs.Turns.{nobodys_turn}
use Rattle.sk_laws.proofs.KeptEvents.{kept_reached}
use Rattle.sk_laws.proofs.Accepted.{filters_in_force_are_accepted}
use Rattle.sk_laws.proofs.Runs.{runs_are_lawful}
use Rattle.sk_run.specs.declared.turn.End.{End}
use Rattle.sk_run.specs.declared.turn.End.TheVariants.{Halt, Idle, Limit}
use Rattle.sk_run.specs.Scheduling.{Scheduled, opened, images_of, event_of, runner_by, runner_of, turn_by, after_turn_by}
use Rattle.sk_run.specs.Report.{Report, onto, ended, all_used, report_from, report_of}
use Rattle.sk_run.specs.laws.ReportLaws.{numbered, LeavesSo, ReportsAreRuns}

-- why nobody has the turn
abbrev Stops : World → End → Type 0
Stops w (Halt status) = halted_of w ≡ Some status
Stops w Idle = (halted_of w ≡ None) × ((pid : ℕ) → is_runnable w pid ≡ false)
Stops w Limit = ⊥

stops_by : (w : World) (last : ℕ) (halted next : Option ℕ) (end : End) → halted_of w ≡ halted → next_of w last ≡ next → runner_by halted next ≡ Err end → Stops w end
stops_by w last (Some status) next (Halt other) halts nobody is = halts ∙ cc
stops_by w last (Some status) next Idle halts nobody is = cc
stops_by w last (Some status) next Limit halts nobody is = cc
stops_by w last None (Some pid) end halts nobody is = cc
stops_by w last None None (Halt status) halts nobody is = cc
stops_by w last None None Idle halts nobody is = (halts, nobodys_turn w last nobody)
stops_by w last None None Limit halts nobody is = cc

leaves : (setting : Setting) (w : World) (turns : ℕ) (end : End) → Stops w end → LeavesSo setting w turns end
leaves setting w turns (Halt status) stops = stops
leaves setting w turns Idle stops = stops
leaves setting w turns Limit stops = absurd stops

-- the report from here on, where so many turns are left, is a run
record RunsFrom (setting : Setting) (s : Scheduled) (left : ℕ) (report : Report) : Type 0 where
  events : List Event
  turns : report.turns ≡ numbered (s.used + 1) events (answers_of (images_of setting) s.world events)
  end : (used : ℕ) → used + left ≡ setting.turns → LeavesSo setting (world_after (images_of setting) s.world events) (used + length events) report.end

no_more : (setting : Setting) (s : Scheduled) (left : ℕ) (end : End) → runner_of s ≡ Err end → RunsFrom setting s left (ended end)
no_more setting s left end is = record {
  events = [];
  turns = refl;
  end = λ used all. leaves setting s.world (used + 0) end (stops_by s.world s.last (halted_of s.world) (next_of s.world s.last) end refl refl is);
}

none_left : (setting : Setting) (s : Scheduled) (r : Result ℕ End) → runner_of s ≡ r → RunsFrom setting s 0 (ended (all_used r))
none_left setting s (Ok pid) is = record { events = []; turns = refl; end = λ used all. all }
none_left setting s (Err end) is = no_more setting s 0 end is

-- the report where so many turns are left, by whose turn it is
abbrev by_runner : Setting → Scheduled → ℕ → Result ℕ End → Report
by_runner setting s left r =
    elim r [ Ok pid ↦ onto (turn_by setting s pid) (report_from left setting (after_turn_by setting s pid)) | Err end ↦ ended end ]

one_more : (setting : Setting) (s : Scheduled) (left pid : ℕ) → RunsFrom setting (after_turn_by setting s pid) left (report_from left setting (after_turn_by setting s pid))
    → RunsFrom setting s (suc left) (onto (turn_by setting s pid) (report_from left setting (after_turn_by setting s pid)))
one_more setting s left pid rest = record {
  events = event_of setting s pid ∷ rest.events;
  turns = ap (λ turns. turn_by setting s pid ∷ turns) rest.turns;
  end = λ used all.
      let next : (used + 1) + left ≡ setting.turns = omega (arith, all) in
      let count : (used + 1) + length rest.events ≡ used + suc (length rest.events) = omega arith in
      subst (λ n. LeavesSo setting (world_after (images_of setting) (after_turn_by setting s pid).world rest.events) n (report_from left setting (after_turn_by setting s pid)).end) count (rest.end (used + 1) next);
}

runs_by : (setting : Setting) (left : ℕ) → ((s : Scheduled) → RunsFrom setting s left (report_from left setting s))
    → (s : Scheduled) (r : Result ℕ End) → runner_of s ≡ r → RunsFrom setting s (suc left) (by_runner setting s left r)
runs_by setting left rest s (Ok pid) is = one_more setting s left pid (rest (after_turn_by setting s pid))
runs_by setting left rest s (Err end) is = no_more setting s (suc left) end is

runs_from : (setting : Setting) (left : ℕ) (s : Scheduled) → RunsFrom setting s left (report_from left setting s)
unfolding report_from
runs_from setting zero s = none_left setting s (runner_of s) refl
runs_from setting (suc left) s = runs_by setting left (runs_from setting left) s (runner_of s) refl

pub reports_are_runs : ReportsAreRuns
reports_are_runs setting =
    let run = runs_from setting setting.turns opened in
    let all : 0 + setting.turns ≡ setting.turns = omega arith in
    let count : 0 + length run.events ≡ length run.events = omega arith in (
      run.events,
      record {
        turns = run.turns;
        end = subst (λ n. LeavesSo setting (world_after (images_of setting) opening run.events) n (report_of setting).end) count (run.end 0 all);
        lawful = runs_are_lawful (images_of setting) opening run.events (kept_reached (images_of setting) []) (filters_in_force_are_accepted (images_of setting) []);
      },
    )
