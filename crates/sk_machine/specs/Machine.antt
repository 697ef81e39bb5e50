-- The process machine: what every event comes to, and a list of events.
use Rattle.std.specs.Prelude.{ℕ, Bool, false, not, ◌&&◌, if◌then◌else◌, pos, neg_ℤ, min, List, [], ◌∷◌, Option, None, Some}
use Rattle.std.specs.Option.{is_some, option_and_then, option_map_or}
use Rattle.sk_insn.specs.declared.record.Record.{Record}
use Rattle.sk_insn.specs.declared.action.Action.{Action}
use Rattle.sk_insn.specs.declared.action.Action.TheVariants as action
use Rattle.sk_insn.specs.Actions.{action_of, data_part}
use Rattle.sk_filter.specs.Verdict.{verdict_of}
use Rattle.sk_world.specs.declared.errno.Errno.TheVariants.{Enosys}
use Rattle.sk_world.specs.declared.signals.TheConstants.{SIGSEGV, SIGSYS}
use Rattle.sk_world.specs.declared.process.TheConstants.{INIT}
use Rattle.sk_world.specs.declared.process.Life.{Life}
use Rattle.sk_world.specs.declared.process.Life.TheVariants as life
use Rattle.sk_world.specs.declared.process.Body.{Body}
use Rattle.sk_world.specs.declared.process.Proc.{Proc}
use Rattle.sk_world.specs.World.{World, at, is_halted, is_zombie, is_stopped}
use Rattle.sk_world.specs.Sending.{forced}
use Rattle.sk_machine.specs.Orphans.{ended_and_hung_up}
use Rattle.sk_machine.specs.declared.event.Event.{Event}
use Rattle.sk_machine.specs.declared.event.Event.TheVariants.{Call, Deliver, Resume, Fault}
use Rattle.sk_machine.specs.declared.answer.Answer.{Answer}
use Rattle.sk_machine.specs.declared.answer.Answer.TheVariants as answer
use Rattle.sk_machine.specs.declared.answer.Outcome.TheVariants.{Returned, Trapped}
use Rattle.sk_machine.specs.declared.answer.Reason.{Reason}
use Rattle.sk_machine.specs.declared.answer.Reason.TheVariants.{NoProcess, Zombie, Stopped, Waiting, SignalFirst, NothingWaits, Halted}
use Rattle.sk_machine.specs.Events.{pid_of, recorded}
use Rattle.sk_machine.specs.Images.{Images}
use Rattle.sk_machine.specs.Performed.{Performed, fails}
use Rattle.sk_machine.specs.Performing.{performed, end_of_caller}
use Rattle.sk_machine.specs.WaitCalls.{resumed}
use Rattle.sk_machine.specs.Delivering.{Delivered, signal_for, signal_due, is_in_call, delivered}

-- what an event comes to
pub record Stepped : Type 0 where
  pub answer : Answer
  pub world : World

-- a call whose filters answer an errno returns it negated, and at most 4095: seccomp(2)
abbrev pub refused : World → ℕ → Performed
refused w errno = record { outcome = Returned (neg_ℤ (pos (min errno 4095))); world = w }

-- SIGSYS is forced on the caller, and nothing else is done: seccomp(2), SECCOMP_RET_TRAP
abbrev pub trapped : World → ℕ → Performed
trapped w pid = record { outcome = Trapped; world = forced w pid }

-- what becomes of a call by its verdict, which has this action: seccomp(2). The data of SECCOMP_RET_ERRNO
-- are the error. Nobody listens and nobody traces, so SECCOMP_RET_USER_NOTIF and SECCOMP_RET_TRACE answer ENOSYS. A kill ends
-- the process as SIGSYS does
abbrev pub judged : Images → World → ℕ → Body → Record → ℕ → Action → Performed
judged declared w pid body call verdict action.Allow = performed declared w pid body call
judged declared w pid body call verdict action.Log = performed declared w pid body call
judged declared w pid body call verdict action.Trap = trapped w pid
judged declared w pid body call verdict action.Errno = refused w (data_part verdict)
judged declared w pid body call verdict action.UserNotif = fails w Enosys
judged declared w pid body call verdict action.Trace = fails w Enosys
judged declared w pid body call verdict action.KillProcess = end_of_caller w pid SIGSYS
judged declared w pid body call verdict action.KillThread = end_of_caller w pid SIGSYS
judged declared w pid body call verdict action.Unknown = end_of_caller w pid SIGSYS

-- a call with this verdict has come to this
abbrev pub call_answered : ℕ → Performed → Stepped
call_answered verdict p = record { answer = answer.Call verdict p.outcome; world = p.world }

-- a call with a verdict
abbrev pub called_with : Images → World → ℕ → Body → Record → ℕ → Stepped
called_with declared w pid body call verdict =
    call_answered verdict (judged declared w pid body call verdict (action_of verdict))

-- a call: all filters of the caller judge it
abbrev pub called : Images → World → ℕ → Body → Record → Stepped
called declared w pid body call = called_with declared w pid body call (verdict_of body.chain call)

-- a delivery has done this
abbrev pub signal_answered : ℕ → Delivered → Stepped
signal_answered n d = record { answer = answer.Signal n d.effect; world = d.world }

-- a call that waited has come to this
abbrev pub resume_answered : Performed → Stepped
resume_answered p = record { answer = answer.Resumed p.outcome; world = p.world }

-- an event that is not possible changes nothing
abbrev pub not_now : World → Reason → Stepped
not_now w reason = record { answer = answer.NotNow reason; world = w }

-- the delivery of this signal to a process with this body, if one is due
abbrev pub delivery : World → ℕ → Body → Option ℕ → Stepped
delivery w pid body o = option_map_or (λ n. signal_answered n (delivered w pid body n)) o (not_now w NothingWaits)

-- an event that is possible, of a process with this body
abbrev pub happened : Images → World → Body → Event → Stepped
happened declared w body (Call pid ip call) = called declared w pid body (recorded ip call)
happened declared w body (Deliver pid) = delivery w pid body (signal_for body)
happened declared w body (Resume pid) = resume_answered (resumed w pid body.waiting)
happened declared w body (Fault pid) = record { answer = answer.Crashed; world = ended_and_hung_up w pid SIGSEGV }

-- why a process that runs cannot make a call of its own: it waits in one, or a signal comes first
abbrev pub call_reason : World → ℕ → Option Reason
call_reason w pid =
    if is_in_call (at w pid) then Some Waiting
    else if is_some (signal_due (at w pid)) then Some SignalFirst
    else None

-- why a process cannot ask again: it waits in no call, or a signal comes first
abbrev pub resume_reason : World → ℕ → Option Reason
resume_reason w pid =
    if not (is_in_call (at w pid)) then Some NothingWaits
    else if is_some (signal_due (at w pid)) then Some SignalFirst
    else None

-- why no signal can be delivered to it: none is due
abbrev pub deliver_reason : World → ℕ → Option Reason
deliver_reason w pid = if is_some (signal_due (at w pid)) then None else Some NothingWaits

-- why an event of a process that lives is not possible
abbrev pub own_reason : World → Event → Option Reason
own_reason w (Call pid ip call) = call_reason w pid
own_reason w (Deliver pid) = deliver_reason w pid
own_reason w (Resume pid) = resume_reason w pid
own_reason w (Fault pid) = call_reason w pid

-- the event delivers the signal that is due, which to a stopped process is SIGKILL alone
abbrev pub is_due_delivery : World → Event → Bool
is_due_delivery w (Deliver pid) = is_some (signal_due (at w pid))
is_due_delivery w other = false

-- the first reason for which an event is not possible, if there is one
abbrev pub reason_of : World → Event → Option Reason
reason_of w event =
    if is_halted w then Some Halted
    else if not (is_some (at w (pid_of event))) then Some NoProcess
    else if is_zombie (at w (pid_of event)) then Some Zombie
    else if is_stopped (at w (pid_of event)) && not (is_due_delivery w event) then Some Stopped
    else own_reason w event

-- an event of this process, if it is there
abbrev pub happened_to : Images → World → Event → Option Proc → Stepped
happened_to declared w event o = option_map_or (λ p. happened declared w p.body event) o (not_now w NoProcess)

-- an event by the first reason for which it is not possible
abbrev pub stepped : Images → World → Event → Option Reason → Stepped
stepped declared w event (Some reason) = not_now w reason
stepped declared w event None = happened_to declared w event (at w (pid_of event))

-- one event
unfoldable pub step_of : Images → World → Event → Stepped
step_of declared w event = stepped declared w event (reason_of w event)

-- the status with which a process has ended, if it has
abbrev pub end_status : Life → Option ℕ
end_status (life.Zombie status) = Some status
end_status life.Stopped = None
end_status life.Running = None

-- the status with which the system has halted, if it has: that of process 1
abbrev pub halted_of : World → Option ℕ
halted_of w = option_and_then (λ p. end_status p.body.life) (at w INIT)

-- a list of events: the answers, and the world afterwards
abbrev pub answers_of : Images → World → List Event → List Answer
answers_of declared w [] = []
answers_of declared w (event ∷ events) =
    (step_of declared w event).answer ∷ answers_of declared (step_of declared w event).world events

-- the world after a list of events
abbrev pub world_after : Images → World → List Event → World
world_after declared w [] = w
world_after declared w (event ∷ events) = world_after declared (step_of declared w event).world events
