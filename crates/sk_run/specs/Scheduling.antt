-- Round robin: which event is due, what it leads to, and when no further turn is made.
use Rattle.std.specs.Prelude.{ℕ, ◌+◌, ◌*◌, ◌%◌, ◌^◌, nat_lt, if◌then◌else◌, List, [], ◌∷◌, length, map, replicate, slice_get, Option, None, Some, Result, Ok, Err}
use Rattle.std.specs.Option.{option_map_or}
use Rattle.sk_names.specs.declared.call.Call.{Call}
use Rattle.sk_names.specs.declared.syscall.Syscall.TheVariants as syscall
use Rattle.sk_names.specs.Syscalls.{number_of}
use Rattle.sk_scenario.specs.declared.call.ScriptCall.{ScriptCall}
use Rattle.sk_scenario.specs.Scenario.{Script, Setting}
use Rattle.sk_world.specs.World.{World, opening}
use Rattle.sk_machine.specs.declared.event.Event.{Event}
use Rattle.sk_machine.specs.declared.event.Event.TheVariants as event
use Rattle.sk_machine.specs.declared.event.Need.{Need}
use Rattle.sk_machine.specs.declared.event.Need.TheVariants as need
use Rattle.sk_machine.specs.declared.images.Mark.{Mark}
use Rattle.sk_machine.specs.Images.{Images}
use Rattle.sk_machine.specs.Machine.{Stepped, step_of, halted_of}
use Rattle.sk_machine.specs.Turns.{need_of, next_of}
use Rattle.sk_run.specs.declared.level.Level.{Level}
use Rattle.sk_run.specs.declared.turn.End.{End}
use Rattle.sk_run.specs.declared.turn.End.TheVariants.{Halt, Idle, Limit}
use Rattle.sk_run.specs.declared.turn.ReportLine.{ReportLine}
use Rattle.sk_run.specs.declared.turn.ReportLine.TheVariants as turn
use Rattle.sk_run.specs.Levels.{Stack, Stacks, first_call, alone, stacks_after}

-- ---- the event that is due

-- the script of a program; one that is not declared has the empty script
abbrev pub script_of : List Script → ℕ → List ScriptCall
script_of scripts program = option_map_or (λ script. script.calls) (slice_get scripts program) []

-- the call of the script that is next, if one is left
abbrev pub line_due : List Script → Stack → Option ScriptCall
line_due scripts s = slice_get (script_of scripts s.top.program) s.top.position

-- where a call stands, as filters see it
abbrev pub address_of : ℕ → ℕ → ℕ
address_of program position = 65536 * (program % 2 ^ 32) + position

-- a call of this number, whose registers are 0
abbrev pub bare : ℕ → Call
bare nr = record { nr = nr; args = replicate 6 0 }

-- the call that ends a script: rt_sigreturn(2) of a handler, exit_group(2) where none runs
abbrev pub closing : List Level → Call
closing [] = bare (number_of syscall.ExitGroup)
closing (level ∷ below) = bare (number_of syscall.RtSigreturn)

-- the event of a process that makes a call of its own: the line that is due; where none is left the call that ends the script, and a
-- fault where that was refused
abbrev pub own_event : List Script → ℕ → Stack → Option ScriptCall → Event
own_event scripts pid s (Some line) = event.Call pid (address_of s.top.program s.top.position) line.call
own_event scripts pid s None =
    if s.top.refused then event.Fault pid
    else event.Call pid (address_of s.top.program (length (script_of scripts s.top.program))) (closing s.below)

-- the event of a process by what it needs
abbrev pub event_by : List Script → ℕ → Stack → Need → Event
event_by scripts pid s need.Deliver = event.Deliver pid
event_by scripts pid s need.Resume = event.Resume pid
event_by scripts pid s need.Call = own_event scripts pid s (line_due scripts s)

-- ---- turns

-- what a scenario has come to: the world, the levels, the process that ran last, and how many turns are used
pub record Scheduled : Type 0 where
  pub world : World
  pub stacks : Stacks
  pub last : ℕ
  pub used : ℕ

-- process 1 opens with the first call of program 0. Every other process has its levels from the fork that makes it
abbrev pub opened : Scheduled
opened = record { world = opening; stacks = λ pid. alone (first_call 0); last = 0; used = 0 }

-- what execve(2) finds of a program
abbrev pub mark_of_script : Script → Mark
mark_of_script script = record { owner = script.owner; setuid = script.setuid }

-- what calls name by numbers
abbrev pub images_of : Setting → Images
images_of setting = record {
  filters = setting.filters;
  programs = map mark_of_script setting.programs;
  subreapers = setting.subreapers;
}

-- the event that is due to this process
abbrev pub event_of : Setting → Scheduled → ℕ → Event
event_of setting s pid = event_by setting.programs pid (s.stacks pid) (need_of s.world pid)

-- what an event with its answer leads to
abbrev pub followed : Setting → Scheduled → ℕ → Event → Stepped → Scheduled
followed setting s pid event stepped = record {
  world = stepped.world;
  stacks = stacks_after (line_due setting.programs (s.stacks pid)) event stepped.answer s.stacks;
  last = pid;
  used = s.used + 1;
}

-- the event of this process is made
abbrev pub stepped_by : Setting → Scheduled → ℕ → Stepped
stepped_by setting s pid = step_of (images_of setting) s.world (event_of setting s pid)

-- the turn of this process, and what it leads to
abbrev pub turn_by : Setting → Scheduled → ℕ → ReportLine
turn_by setting s pid = turn.Turn (s.used + 1) (event_of setting s pid) (stepped_by setting s pid).answer

abbrev pub after_turn_by : Setting → Scheduled → ℕ → Scheduled
after_turn_by setting s pid = followed setting s pid (event_of setting s pid) (stepped_by setting s pid)

-- whose turn it is where the system goes on, and where nobody's is the end
abbrev pub next_or_idle : Option ℕ → Result ℕ End
next_or_idle (Some pid) = Ok pid
next_or_idle None = Err Idle

-- whose turn it is, or why nobody's is: the system has halted, or nobody can run
abbrev pub runner_by : Option ℕ → Option ℕ → Result ℕ End
runner_by (Some status) next = Err (Halt status)
runner_by None next = next_or_idle next

abbrev pub runner_of : Scheduled → Result ℕ End
runner_of s = runner_by (halted_of s.world) (next_of s.world s.last)

-- the next turn: a line of the process whose turn it is, if turns are left
abbrev pub turn_for : Setting → Scheduled → Result ℕ End → ReportLine
turn_for setting s (Err end) = turn.End end
turn_for setting s (Ok pid) = if nat_lt s.used setting.turns then turn_by setting s pid else turn.End Limit

unfoldable pub turn_of : Setting → Scheduled → ReportLine
turn_of setting s = turn_for setting s (runner_of s)

-- what it leads to; the end leads nowhere
abbrev pub after_turn_for : Setting → Scheduled → Result ℕ End → Scheduled
after_turn_for setting s (Err end) = s
after_turn_for setting s (Ok pid) = if nat_lt s.used setting.turns then after_turn_by setting s pid else s

unfoldable pub after_turn : Setting → Scheduled → Scheduled
after_turn setting s = after_turn_for setting s (runner_of s)
