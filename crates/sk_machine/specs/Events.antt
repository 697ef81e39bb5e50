-- Whose an event is, what filters see of its call, and the numbers of the reasons for which one is not possible.
use Rattle.std.specs.Prelude.{ℕ}
use Rattle.sk_insn.specs.declared.record.Record.{Record}
use Rattle.sk_insn.specs.Record.{native}
use Rattle.sk_names.specs.declared.call.Call.{Call}
use Rattle.sk_machine.specs.declared.event.Event.{Event}
use Rattle.sk_machine.specs.declared.event.Event.TheVariants as event
use Rattle.sk_machine.specs.declared.answer.Reason.{Reason}
use Rattle.sk_machine.specs.declared.answer.Reason.TheVariants.{NoProcess, Zombie, Stopped, Waiting, SignalFirst, NothingWaits, Halted}

-- the process whose event it is
abbrev pub pid_of : Event → ℕ
pid_of (event.Call pid ip call) = pid
pid_of (event.Deliver pid) = pid
pid_of (event.Resume pid) = pid
pid_of (event.Fault pid) = pid

-- what filters see of a call that stands at this address
abbrev pub recorded : ℕ → Call → Record
recorded ip call = native call.nr ip call.args

-- the number of a reason
abbrev pub number_of : Reason → ℕ
number_of NoProcess = 1
number_of Zombie = 2
number_of Stopped = 3
number_of Waiting = 4
number_of SignalFirst = 5
number_of NothingWaits = 6
number_of Halted = 7
