-- Why an event of a process that is there is not possible, told by the process alone. Only code and proofs look at
-- this.
use Rattle.std.specs.Prelude.{Bool, not, if◌then◌else◌, Option, None, Some}
use Rattle.sk_laws.specs.Common.{is_some, signal_for, is_waiting}
use Rattle.sk_world.specs.declared.process.Life.{Life}
use Rattle.sk_world.specs.declared.process.Proc.{Proc}
use Rattle.sk_machine.specs.declared.event.Event.{Event}
use Rattle.sk_machine.specs.declared.event.Event.TheVariants.{Call, Deliver, Resume, Fault}
use Rattle.sk_machine.specs.declared.answer.Reason.{Reason}
use Rattle.sk_machine.specs.declared.answer.Reason.TheVariants.{Zombie, Stopped, Waiting, SignalFirst, NothingWaits}
use Rattle.sk_world.specs.declared.process.Life.TheVariants as life

-- of one that runs, by whether it waits in a call and whether a signal is due
abbrev pub running_reason : Bool → Bool → Event → Option Reason
running_reason waits due (Call pid ip call) = if waits then Some Waiting else if due then Some SignalFirst else None
running_reason waits due (Deliver pid) = if due then None else Some NothingWaits
running_reason waits due (Resume pid) = if not waits then Some NothingWaits else if due then Some SignalFirst else None
running_reason waits due (Fault pid) = if waits then Some Waiting else if due then Some SignalFirst else None

-- of one that is stopped, by whether SIGKILL is due
abbrev pub stopped_reason : Bool → Event → Option Reason
stopped_reason due (Call pid ip call) = Some Stopped
stopped_reason due (Deliver pid) = if due then None else Some Stopped
stopped_reason due (Resume pid) = Some Stopped
stopped_reason due (Fault pid) = Some Stopped

-- by its life
abbrev pub reason_by : Life → Bool → Bool → Event → Option Reason
reason_by (life.Zombie status) waits due event = Some Zombie
reason_by life.Stopped waits due event = stopped_reason due event
reason_by life.Running waits due event = running_reason waits due event

-- of this process
abbrev pub reason_for : Proc → Event → Option Reason
reason_for p event = reason_by p.body.life (is_waiting p.body.waiting) (is_some (signal_for p.body)) event
