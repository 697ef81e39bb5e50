-- Laws on turns and reports: what is due can happen, so a report tells of nothing that was not possible; and a report is a run of
-- the machine, so whatever holds of each run holds of each report.
use Rattle.std.specs.Prelude.{ℕ, ◌+◌, ◌≡◌, ◌≢◌, IsTrue, IsFalse, List, [], ◌∷◌, length, slice_get, None, Some}
use Rattle.sk_scenario.specs.Scenario.{Setting}
use Rattle.sk_machine.specs.declared.event.Event.{Event}
use Rattle.sk_world.specs.World.{World, opening}
use Rattle.sk_machine.specs.declared.answer.Answer.{Answer}
use Rattle.sk_machine.specs.declared.answer.Answer.TheVariants as answer
use Rattle.sk_machine.specs.declared.answer.Reason.{Reason}
use Rattle.sk_machine.specs.Machine.{reason_of, answers_of, world_after, halted_of}
use Rattle.sk_machine.specs.Turns.{is_runnable}
use Rattle.sk_laws.specs.RunLaws.{RunIsLawful}
use Rattle.sk_run.specs.declared.turn.End.{End}
use Rattle.sk_run.specs.declared.turn.End.TheVariants.{Halt, Idle, Limit}
use Rattle.sk_run.specs.declared.turn.ReportLine.{ReportLine}
use Rattle.sk_run.specs.declared.turn.ReportLine.TheVariants as turn
use Rattle.sk_run.specs.Scheduling.{Scheduled, images_of, event_of}
use Rattle.sk_run.specs.Report.{Report, report_of}

-- the event that is due to a process that can run is possible, whatever its levels are
abbrev pub DueIsPossible : Type 0
DueIsPossible = (setting : Setting) (s : Scheduled) (pid : ℕ) → IsTrue (is_runnable s.world pid) → reason_of s.world (event_of setting s pid) ≡ None

-- so in no report stands an event that was not possible
abbrev pub EachTurnHappens : Type 0
EachTurnHappens =
    (setting : Setting) (place n : ℕ) (event : Event) (reason : Reason)
    → slice_get (report_of setting).turns place ≢ Some (turn.Turn n event (answer.NotNow reason))

-- events with their answers as turns, of which the first has this number
abbrev pub numbered : ℕ → List Event → List Answer → List ReportLine
numbered n [] answers = []
numbered n (event ∷ events) [] = []
numbered n (event ∷ events) (answer ∷ answers) = turn.Turn n event answer ∷ numbered (n + 1) events answers

-- the end tells how the world is left behind so many turns: it has halted with this status, or nobody can run, or all turns are used
abbrev pub LeavesSo : Setting → World → ℕ → End → Type 0
LeavesSo setting w turns (Halt status) = halted_of w ≡ Some status
LeavesSo setting w turns Idle = (halted_of w ≡ None) × ((pid : ℕ) → IsFalse (is_runnable w pid))
LeavesSo setting w turns Limit = turns ≡ setting.turns

-- the turns of a report are these events from the opening world, numbered from 1, each with the answer that the machine gives
-- to it; and their run is lawful
pub record IsRunOf (setting : Setting) (report : Report) (events : List Event) : Type 0 where
  pub turns : report.turns ≡ numbered 1 events (answers_of (images_of setting) opening events)
  pub end : LeavesSo setting (world_after (images_of setting) opening events) (length events) report.end
  pub lawful : RunIsLawful (images_of setting) opening events

-- each report is a run of the machine
abbrev pub ReportsAreRuns : Type 0
ReportsAreRuns = (setting : Setting) → (events : List Event) × IsRunOf setting (report_of setting) events
