-- Which events may want memory: a call that attaches a filter, and a fork of a process that has filters.
use Rattle.std.specs.Prelude.{ℕ, ◌==◌, Bool, false, not, ◌&&◌, if◌then◌else◌, IsTrue, List, Option, None, Some}
use Rattle.std.specs.Option.{is_some, option_map_or}
use Rattle.std.specs.Result.{is_ok}
use Rattle.sk_insn.specs.declared.record.Record.{Record}
use Rattle.sk_insn.specs.Actions.{action_of, performs}
use Rattle.sk_insn.specs.Instructions.{instructions_of}
use Rattle.sk_filter.specs.Verdict.{verdict_of}
use Rattle.sk_names.specs.declared.syscall.Syscall.{Syscall}
use Rattle.sk_names.specs.declared.syscall.Syscall.TheVariants as syscall
use Rattle.sk_names.specs.Syscalls.{syscall_of}
use Rattle.sk_insn.specs.declared.insn.Insn.{Insn}
use Rattle.sk_world.specs.World.{World, at}
use Rattle.sk_world.specs.Forking.{has_room, has_filters}
use Rattle.sk_machine.specs.declared.event.Event.{Event}
use Rattle.sk_machine.specs.declared.event.Event.TheVariants.{Call}
use Rattle.sk_machine.specs.declared.operation.PrctlOption.{PrctlOption}
use Rattle.sk_machine.specs.declared.operation.PrctlOption.TheVariants as option
use Rattle.sk_machine.specs.declared.operation.SeccompOperation.{SeccompOperation}
use Rattle.sk_machine.specs.declared.operation.SeccompOperation.TheVariants as operation
use Rattle.sk_machine.specs.Arguments.{register, unsigned, prctl_option_of, seccomp_operation_of}
use Rattle.sk_machine.specs.Events.{recorded}
use Rattle.sk_machine.specs.Images.{Images, filter_image}
use Rattle.sk_machine.specs.Machine.{reason_of}

-- the image that prctl(2) attaches, if it attaches one: PR_SET_SECCOMP
abbrev pub prctl_attaches : Option PrctlOption → Record → Option ℕ
prctl_attaches (Some option.SetSeccomp) call = if register call 1 == 2 then Some (register call 2) else None
prctl_attaches other call = None

-- the image that seccomp(2) attaches, if it attaches one without flags: SECCOMP_SET_MODE_FILTER
abbrev pub seccomp_attaches : Option SeccompOperation → Record → Option ℕ
seccomp_attaches (Some operation.SetModeFilter) call = if unsigned call 1 == 0 then Some (register call 2) else None
seccomp_attaches other call = None

-- the image is declared, and its bytes are instructions
abbrev pub is_read : Images → ℕ → Bool
is_read declared n = option_map_or (λ image. is_ok (instructions_of image)) (filter_image declared n) false

-- a call may want memory: it attaches such an image, or forks a process that has filters where there is room
abbrev pub may_grow : Images → World → ℕ → Option Syscall → Record → Bool
may_grow declared w pid (Some syscall.Prctl) call = option_map_or (is_read declared) (prctl_attaches (prctl_option_of (unsigned call 0)) call) false
may_grow declared w pid (Some syscall.Seccomp) call = option_map_or (is_read declared) (seccomp_attaches (seccomp_operation_of (unsigned call 0)) call) false
may_grow declared w pid (Some syscall.Fork) call = has_room w && has_filters (at w pid)
may_grow declared w pid other call = false

-- these filters let a call through
abbrev pub let_through : Record → List (List Insn) → Bool
let_through call filters = performs (action_of (verdict_of filters call))

-- a call may want memory, and the filters of its caller let it through
abbrev pub call_takes_memory : Images → World → ℕ → Record → Bool
call_takes_memory declared w pid call =
    option_map_or (λ p. let_through call p.body.chain) (at w pid) false && may_grow declared w pid (syscall_of call.nr) call

-- an event may want memory: it is such a call, and possible. No other event ever does
abbrev pub takes_memory : Images → World → Event → Bool
takes_memory declared w (Call pid ip call) =
    not (is_some (reason_of w (Call pid ip call))) && call_takes_memory declared w pid (recorded ip call)
takes_memory declared w other = false

-- the same as a statement
abbrev pub TakesMemory : Images → World → Event → Type 0
TakesMemory declared w event = IsTrue (takes_memory declared w event)
