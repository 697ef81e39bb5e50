-- The code's levels as the definitions see them.
use Rattle.std.specs.Prelude.{ℕ, ◌≡◌, ◌<◌, ◌≤◌, Bool, false, ◌==◌, IfSome, Option, List, reverse, slice_get, vec_len, vec_capacity, ⊤}
use Rattle.std.specs.Option.{is_some, option_map_or}
use Rattle.sk_names.specs.declared.syscall.Syscall.TheVariants as syscall
use Rattle.sk_names.specs.Syscalls.{number_of}
use Rattle.sk_world.specs.declared.process.TheConstants.{LAST_PID}
use Rattle.sk_machine.specs.declared.answer.Answer.{Answer}
use Rattle.sk_machine.specs.declared.answer.Answer.TheVariants as answer
use Rattle.sk_machine.specs.declared.event.Event.{Event}
use Rattle.sk_machine.specs.declared.event.Event.TheVariants.{Call, Deliver}
use Rattle.sk_run.specs.Levels.{Stack, Stacks, first_call, alone, pid_in}
use Rattle.sk_run.specs.declared.levels.Levels.{Levels}

abbrev pub stack_of : Levels → Stack
stack_of levels = record { top = levels.top; below = reverse levels.below.items }

-- the levels of each process stand at the place of its pid. One without a place has the levels that process 1 opens with
abbrev pub stacks_of : List Levels → Stacks
stacks_of places = λ pid. option_map_or stack_of (slice_get places pid) (alone (first_call 0))

-- there is room for one level more
abbrev pub HasRoom : Levels → Type 0
HasRoom levels = vec_len levels.below < vec_capacity levels.below

-- ---- what an event is

-- a fork(2)
abbrev pub is_fork : Event → Bool
is_fork (Call pid ip call) = call.nr == number_of syscall.Fork
is_fork other = false

-- ---- what an answer is

-- a child, if the answer tells of one, has a pid that there may be
abbrev pub ChildIsLow : Answer → Type 0
ChildIsLow (answer.Call verdict outcome) = IfSome (pid_in outcome) (λ child. child ≤ LAST_PID)
ChildIsLow other = ⊤

-- ---- what is made ready for an event

-- for a fork(2), and for no other call, there is a copy of the levels of its caller, and room for the place of each pid that there may
-- be; for a delivery there is room for the level of a handler
abbrev pub IsReady : List Levels → ℕ → Event → Option Levels → Type 0
IsReady places room (Call pid ip call) copy =
    (is_some copy ≡ (call.nr == number_of syscall.Fork)) × IfSome copy (λ levels. (LAST_PID < room) × (stack_of levels ≡ stacks_of places pid))
IsReady places room (Deliver pid) copy = IfSome (slice_get places pid) HasRoom
IsReady places room other copy = ⊤
