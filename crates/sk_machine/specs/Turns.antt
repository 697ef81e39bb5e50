-- Which processes can run, what they need next, and whose turn is next.
use Rattle.std.specs.Prelude.{ℕ, Bool, true, false, not, ◌&&◌, ◌||◌, if◌then◌else◌, nat_lt, find, Option}
use Rattle.std.specs.Option.{is_some, option_map_or, option_or}
use Rattle.sk_world.specs.declared.process.Proc.{Proc}
use Rattle.sk_world.specs.declared.process.Waiting.{Waiting}
use Rattle.sk_world.specs.declared.process.Waiting.TheVariants.{Nothing, Pause, Asks}
use Rattle.sk_world.specs.Processes.{pids}
use Rattle.sk_world.specs.World.{World, at, is_halted, is_stopped, is_alive}
use Rattle.sk_world.specs.Waits.{is_ready, has_match}
use Rattle.std.specs.List.{list_any}
use Rattle.sk_machine.specs.declared.event.Event.{Event}
use Rattle.sk_machine.specs.declared.event.Event.TheVariants.{Call, Deliver, Resume, Fault}
use Rattle.sk_machine.specs.declared.event.Need.{Need}
use Rattle.sk_machine.specs.declared.event.Need.TheVariants as need
use Rattle.sk_machine.specs.Delivering.{signal_due, is_in_call}

-- a process that waits so would not go on waiting: it waits in no call, or in one that would end now, a wait4(2)
-- whose child is ready, or that no child matches
abbrev pub waits_no_more : World → ℕ → Waiting → Bool
waits_no_more w pid Nothing = true
waits_no_more w pid Pause = false
waits_no_more w pid (Asks request) = list_any (is_ready w pid request) (pids w.procs) || not (has_match w pid request)

-- a process is there, and would not go on waiting
abbrev pub goes_on : World → ℕ → Option Proc → Bool
goes_on w pid o = option_map_or (λ p. waits_no_more w pid p.body.waiting) o false

-- a process can run: it lives, and a signal is due, or it is not stopped and its call would not go on
-- waiting
abbrev pub is_runnable : World → ℕ → Bool
is_runnable w pid =
    not (is_halted w) && is_alive (at w pid)
    && (is_some (signal_due (at w pid)) || (not (is_stopped (at w pid)) && goes_on w pid (at w pid)))

-- what the next event of a process is: a delivery where a signal is due, else a resumption where it waits
-- in a call, else a call of its own
abbrev pub need_of : World → ℕ → Need
need_of w pid =
    if is_some (signal_due (at w pid)) then need.Deliver
    else if is_in_call (at w pid) then need.Resume
    else need.Call

-- the need that an event meets: a fault comes in place of a call
abbrev pub need_met_by : Event → Need
need_met_by (Call pid ip call) = need.Call
need_met_by (Deliver pid) = need.Deliver
need_met_by (Resume pid) = need.Resume
need_met_by (Fault pid) = need.Call

-- round robin: the first one that can run above the last one that ran, and else the first of all
abbrev pub next_of : World → ℕ → Option ℕ
next_of w last =
    option_or (find (λ pid. nat_lt last pid && is_runnable w pid) (pids w.procs)) (find (is_runnable w) (pids w.procs))
