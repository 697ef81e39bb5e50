-- Runs that are worked out by hand: events that are not possible, whose turn is next, and what it needs.
use Rattle.std.specs.Prelude.{ℕ, ◌≡◌, true, [], ◌∷◌, List, Option, Some, None}
use Rattle.sk_laws.specs.Common.{Zombie, Ended, Outcome, Effect, Reason, Deliver, Resume, Fault, INIT, World, opening, Happening, Images, Event, pid_of, step_of, is_runnable, need_of, next_of}
use Rattle.sk_laws.specs.Scripts.{nothing_given, given, plain, set_user_id, for_number, pause, getpid, fork, exit, wait4, kill, gives, waits, ends, resumes, delivers, crashes, not_now, events_of, Runs, after}
use Rattle.sk_machine.specs.declared.event.Need.TheVariants as need
use Rattle.sk_laws.specs.WorkedCalls.{kept_filter}
use Rattle.sk_laws.specs.WorkedWaits.{no_zombies, crash, stop_and_continue, orphan}
use Rattle.sk_laws.specs.WorkedGroups.{kills_by_ids, regrouping}
use Rattle.sk_laws.specs.WorkedSignals.{life_at}

-- after the end of process 1 nothing is possible
abbrev pub halted : World
halted = after nothing_given opening ((fork 1, gives 2) ∷ (Fault 1, crashes) ∷ [])

-- whose turn it is at each event of a list, where this process was the last to run
abbrev pub turns_of : Images → World → ℕ → List Event → List (Option ℕ)
turns_of declared w last [] = next_of w last ∷ []
turns_of declared w last (event ∷ events) =
    next_of w last ∷ turns_of declared (step_of declared w event).world (pid_of event) events

-- the turns of the lines, and then nobody's
abbrev pub turns_told : List Happening → List (Option ℕ)
turns_told [] = None ∷ []
turns_told (line ∷ lines) = Some (pid_of line.0) ∷ turns_told lines

-- round robin makes just these events, and ends where the system has halted or nobody can run
abbrev pub TakesTurns : Images → List Happening → Type 0
TakesTurns declared lines = turns_of declared opening 0 (events_of lines) ≡ turns_told lines

-- one that waits in pause(2) cannot run, a stopped one only to be killed, and one that waits for a
-- child until no child is left
abbrev pub stopped_child : World
stopped_child =
    after nothing_given opening ((fork 1, gives 2) ∷ (kill 1 2 19, gives 0) ∷ (Deliver 2, delivers 19 Effect.Stopped) ∷ (wait4 1 2 0, waits) ∷ [])

-- SIGKILL is sent to the stopped child, and the parent waits in pause(2)
abbrev pub killed_child : World
killed_child =
    after nothing_given opening ((fork 1, gives 2) ∷ (kill 1 2 19, gives 0) ∷ (Deliver 2, delivers 19 Effect.Stopped) ∷ (kill 1 2 9, gives 0) ∷ (pause 1, waits) ∷ [])

pub record WorkedTurns : Type 0 where
  -- every reason for which an event is not possible
  pub tells_reasons : Runs nothing_given opening (
      (getpid 9, not_now Reason.NoProcess)
      ∷ (Deliver 1, not_now Reason.NothingWaits)
      ∷ (Resume 1, not_now Reason.NothingWaits)
      ∷ (fork 1, gives 2)
      ∷ (exit 2 0, ends 0)
      ∷ (getpid 2, not_now Reason.Zombie)
      ∷ (fork 1, gives 3)
      ∷ (kill 1 3 19, gives 0)
      ∷ (Fault 3, not_now Reason.SignalFirst)
      ∷ (Deliver 3, delivers 19 Effect.Stopped)
      ∷ (getpid 3, not_now Reason.Stopped)
      ∷ (Deliver 3, not_now Reason.Stopped)
      ∷ (kill 1 3 9, gives 0)
      ∷ (Resume 3, not_now Reason.Stopped)
      ∷ (Deliver 3, delivers 9 (Effect.Ended 9))
      ∷ (pause 1, waits)
      ∷ (getpid 1, not_now Reason.Waiting)
      ∷ (Fault 1, not_now Reason.Waiting)
      ∷ (Resume 1, resumes Outcome.Waits)
      ∷ [])
  -- process 1 has ended by SIGSEGV
  pub ends_system : life_at halted INIT ≡ Some (Zombie 11)
  -- and no event is possible
  pub halts_all : Runs nothing_given halted (
      (getpid 1, not_now Reason.Halted)
      ∷ (getpid 2, not_now Reason.Halted)
      ∷ (Deliver 9, not_now Reason.Halted)
      ∷ (Resume 1, not_now Reason.Halted)
      ∷ (Fault 2, not_now Reason.Halted)
      ∷ [])
  -- the run with a kept filter
  pub turns_with_filter : TakesTurns (given (for_number 110 0x00050001 ∷ []) (plain ∷ plain ∷ set_user_id 0 ∷ [])) kept_filter
  -- the run without zombies
  pub turns_without_zombies : TakesTurns (given [] (plain ∷ plain ∷ [])) no_zombies
  -- the run that ends in a fault
  pub turns_of_crash : TakesTurns (given (for_number 15 0x00050001 ∷ []) (plain ∷ plain ∷ plain ∷ [])) crash
  -- the run with a stop and a continuation
  pub turns_of_stop_and_continue : TakesTurns (given [] (plain ∷ plain ∷ [])) stop_and_continue
  -- the run with an orphan
  pub turns_of_orphan : TakesTurns (given [] (plain ∷ plain ∷ plain ∷ [])) orphan
  -- the run of signals among users
  pub turns_of_kills : TakesTurns (given [] (plain ∷ plain ∷ plain ∷ [])) kills_by_ids
  -- the run in which a child changes its group
  pub turns_of_regrouping : TakesTurns (given [] (plain ∷ plain ∷ plain ∷ [])) regrouping
  -- a process 1 that waits in pause(2) leaves nobody to run
  pub turns_of_pause : TakesTurns nothing_given ((pause 1, waits) ∷ [])
  -- the parent of the stopped child waits, so nobody can run
  pub nobody_runs : next_of stopped_child 1 ≡ None
  -- the stopped child can run
  pub killed_runs : is_runnable killed_child 2 ≡ true
  -- it needs the delivery of SIGKILL
  pub killed_needs_delivery : need_of killed_child 2 ≡ need.Deliver
  -- its parent, which no signal is due to, needs to ask again
  pub paused_needs_resumption : need_of killed_child 1 ≡ need.Resume
  -- where a signal is due to a process that waits, the delivery comes first
  pub signalled_needs_delivery :
      need_of (after nothing_given opening ((fork 1, gives 2) ∷ (pause 2, waits) ∷ (kill 1 2 15, gives 0) ∷ [])) 2 ≡ need.Deliver
  -- process 1 as the system starts makes a call
  pub first_needs_call : need_of opening INIT ≡ need.Call
