-- How a signal is delivered: signal(7).
use Rattle.std.specs.Prelude.{ℕ, ◌==◌, Bool, true, false, not, ◌&&◌, if◌then◌else◌, length, Option, None, Some}
use Rattle.std.specs.Option.{option_and_then, option_map_or}
use Rattle.sk_world.specs.Sets as set
use Rattle.sk_world.specs.declared.signals.TheConstants.{SIGKILL, SIGSEGV, SIGCHLD, SIGSYS}
use Rattle.sk_world.specs.declared.signal_state.TheConstants.{FRAMES}
use Rattle.sk_world.specs.declared.disposition.DefaultAction.{DefaultAction}
use Rattle.sk_world.specs.declared.disposition.DefaultAction.TheVariants as action
use Rattle.sk_world.specs.declared.disposition.Disposition.{Disposition}
use Rattle.sk_world.specs.declared.disposition.Disposition.TheVariants as disposition
use Rattle.sk_world.specs.SignalSet.{Signals}
use Rattle.sk_world.specs.Actions.{default_action, is_tty_stop}
use Rattle.sk_world.specs.SignalState.{disposition_of}
use Rattle.sk_world.specs.Delivery.{deliverable, taken, pushed}
use Rattle.sk_world.specs.declared.process.TheConstants.{INIT}
use Rattle.sk_world.specs.declared.process.Life.TheVariants as life
use Rattle.sk_world.specs.declared.process.Waiting.{Waiting}
use Rattle.sk_world.specs.declared.process.Waiting.TheVariants as waiting
use Rattle.sk_world.specs.declared.process.Note.TheVariants as note
use Rattle.sk_world.specs.declared.process.Body.{Body}
use Rattle.sk_world.specs.declared.process.Proc.{Proc}
use Rattle.sk_world.specs.World.{World, at, has_stopped, parent_of, changed}
use Rattle.sk_world.specs.Sending.{sent}
use Rattle.sk_machine.specs.Sessions.{group_of}
use Rattle.sk_machine.specs.Orphans.{is_orphaned, ended_and_hung_up}
use Rattle.sk_machine.specs.declared.answer.Effect.{Effect}
use Rattle.sk_machine.specs.declared.answer.Effect.TheVariants.{Ignored, Stopped, Ended, Handler}

-- what a delivery comes to
pub record Delivered : Type 0 where
  pub effect : Effect
  pub world : World

-- the signal that is delivered next: to a process that is stopped SIGKILL alone
abbrev pub signal_for : Body → Option ℕ
signal_for body =
    if has_stopped body.life then (if set.contains body.signals.pending SIGKILL then Some SIGKILL else None)
    else deliverable body.signals

-- the signal that is delivered next to the process of a pid, if there is one
abbrev pub signal_due : Option Proc → Option ℕ
signal_due o = option_and_then (λ p. signal_for p.body) o

-- the process waits in a call
abbrev pub is_waiting : Waiting → Bool
is_waiting waiting.Nothing = false
is_waiting waiting.Pause = true
is_waiting (waiting.Asks request) = true

-- a process is there, and waits in a call
abbrev pub is_in_call : Option Proc → Bool
is_in_call o = option_map_or (λ p. is_waiting p.body.waiting) o false

-- the signal ends the process with this status
abbrev pub terminated_by : World → ℕ → ℕ → Delivered
terminated_by w pid status = record { effect = Ended status; world = ended_and_hung_up w pid status }

-- a handler of signal n begins, and ends a call that the process waits in
abbrev pub in_handler : ℕ → Signals → Body → Body
in_handler n mask body = record body { signals = pushed n mask body.signals; waiting = waiting.Nothing }

-- SIGSEGV ends a process that has no room for one more frame
abbrev pub enters_handler : World → ℕ → Body → ℕ → ℕ → Signals → Delivered
enters_handler w pid body n program mask =
    if length body.signals.frames == FRAMES then terminated_by w pid SIGSEGV
    else record { effect = Handler program (is_waiting body.waiting); world = changed w pid (in_handler n mask) }

-- signal n stops the process. A call that it waits in goes on waiting
abbrev pub stopping : ℕ → Body → Body
stopping n body = record body { life = life.Stopped; note = note.Stopped n }

-- signal n stops the process of a pid, and its parent gets SIGCHLD
abbrev pub stopped_by : World → ℕ → ℕ → Delivered
stopped_by w pid n = record {
  effect = Stopped;
  world = sent (changed w pid (stopping n)) (parent_of (at w pid)) SIGCHLD;
}

-- nothing more is done
abbrev pub ignored : World → Delivered
ignored w = record { effect = Ignored; world = w }

-- the default action of signal n is taken. A stop signal of a terminal stops no process of an orphaned group:
-- setpgid(2), "Notes"
abbrev pub acts_by_default : World → ℕ → ℕ → DefaultAction → Delivered
acts_by_default w pid n action.Ignore = ignored w
acts_by_default w pid n action.Continue = ignored w
acts_by_default w pid n action.Stop = if is_tty_stop n && is_orphaned w (group_of (at w pid)) then ignored w else stopped_by w pid n
acts_by_default w pid n action.Terminate = terminated_by w pid n

-- what is done by a disposition. By default process 1 minds only a SIGSYS, which is forced on it
abbrev pub acts_by_disposition : World → ℕ → Body → ℕ → Disposition → Delivered
acts_by_disposition w pid body n disposition.Ignore = ignored w
acts_by_disposition w pid body n (disposition.Handler program mask) = enters_handler w pid body n program mask
acts_by_disposition w pid body n disposition.Default =
    if (pid == INIT) && not (n == SIGSYS) then ignored w else acts_by_default w pid n (default_action n)

-- signal n is pending no more
abbrev pub taking : ℕ → Body → Body
taking n body = record body { signals = taken n body.signals }

-- what signal n does to a process with this body once it is pending no more. SIGKILL has no disposition:
-- signal(7)
abbrev pub acted_on : World → ℕ → Body → ℕ → Delivered
acted_on w pid body n =
    if n == SIGKILL then terminated_by w pid SIGKILL else acts_by_disposition w pid body n (disposition_of body.signals n)

-- signal n is delivered to the process of a pid, which has this body
abbrev pub delivered : World → ℕ → Body → ℕ → Delivered
delivered w pid body n = acted_on (changed w pid (taking n)) pid (taking n body) n
