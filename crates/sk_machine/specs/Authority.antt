-- What a process may do, and the calls that change it: seccomp(2), prctl(2), setuid(2), setresuid(2) and
-- execve(2). They look at what is declared, the call and the authority, and at nothing else.
use Rattle.std.specs.Prelude.{ℕ, ◌+◌, ◌==◌, true, not, ◌&&◌, nat_lt, if◌then◌else◌, List, ◌∷◌, length, Option, Some, None, Result, Ok, Err}
use Rattle.std.specs.Option.{is_some}
use Rattle.sk_insn.specs.declared.insn.Insn.{Insn}
use Rattle.sk_insn.specs.declared.image.ImageFault.{ImageFault}
use Rattle.sk_insn.specs.declared.record.Record.{Record}
use Rattle.sk_insn.specs.Instructions.{instructions_of}
use Rattle.sk_filter.specs.FirstFault.{first_fault}
use Rattle.sk_filter.specs.PathLimit.{path_limit, cost_of}
use Rattle.sk_world.specs.declared.errno.Errno.{Errno}
use Rattle.sk_world.specs.declared.errno.Errno.TheVariants.{Enoent, Enomem, Eacces, Efault, Einval}
use Rattle.sk_world.specs.declared.creds.Creds.{Creds}
use Rattle.sk_world.specs.Creds.{is_privileged, after_setuid, after_setresuid, after_exec}
use Rattle.sk_world.specs.declared.process.Body.{Body}
use Rattle.sk_machine.specs.declared.images.Mark.{Mark}
use Rattle.sk_machine.specs.declared.operation.PrctlOption.{PrctlOption}
use Rattle.sk_machine.specs.declared.operation.PrctlOption.TheVariants as option
use Rattle.sk_machine.specs.declared.operation.SeccompOperation.{SeccompOperation}
use Rattle.sk_machine.specs.declared.operation.SeccompOperation.TheVariants as operation
use Rattle.sk_names.specs.declared.syscall.Syscall.{Syscall}
use Rattle.sk_names.specs.declared.syscall.Syscall.TheVariants as syscall
use Rattle.sk_machine.specs.Images.{Images, filter_image, mark_of}
use Rattle.sk_names.specs.Syscalls.{syscall_of}
use Rattle.sk_machine.specs.Arguments.{register, unsigned, prctl_option_of, seccomp_operation_of}

-- its filters, the newest first, and its user ids with no_new_privs
pub record Authority : Type 0 where
  pub filters : List (List Insn)
  pub creds : Creds

-- the authority that a process has
abbrev pub authority_of : Body → Authority
authority_of body = record { filters = body.chain; creds = body.creds }

-- a process with another authority, and all else as it was
abbrev pub with_authority : Authority → Body → Body
with_authority a body = record body { chain = a.filters; creds = a.creds }

-- the filter that an image's bytes are: EINVAL where they are none
abbrev pub filter_in : Result (List Insn) ImageFault → Result (List Insn) Errno
filter_in (Ok insns) = Ok insns
filter_in (Err fault) = Err Einval

-- the filter of an image that a call names: EFAULT where none is declared
abbrev pub filter_of : Option (List ℕ) → Result (List Insn) Errno
filter_of None = Err Efault
filter_of (Some image) = filter_in (instructions_of image)

-- a filter is attached: the caller is privileged or has no_new_privs, the filter is valid, and the path
-- limit holds
abbrev pub filtered : Authority → Result (List Insn) Errno → Result Authority Errno
filtered a (Ok insns) =
    if not (is_privileged a.creds) && not a.creds.no_new_privs then Err Eacces
    else if is_some (first_fault insns) then Err Einval
    else if nat_lt path_limit (length insns + cost_of a.filters) then Err Enomem
    else Ok (record a { filters = insns ∷ a.filters })
filtered a (Err e) = Err e

-- the filter of an image's number is attached: seccomp(2). No flag is taken: EINVAL
abbrev pub after_attach : Images → ℕ → ℕ → Authority → Result Authority Errno
after_attach declared flags image a =
    if not (flags == 0) then Err Einval else filtered a (filter_of (filter_image declared image))

-- other ids, or the error
abbrev pub with_creds : Authority → Result Creds Errno → Result Authority Errno
with_creds a (Ok creds) = Ok (record a { creds = creds })
with_creds a (Err e) = Err e

-- execve(2): ENOENT where no such program is declared
abbrev pub after_execve : Authority → Option Mark → Result Authority Errno
after_execve a None = Err Enoent
after_execve a (Some mark) = Ok (record a { creds = after_exec mark.owner mark.setuid a.creds })

-- prctl(2), PR_SET_NO_NEW_PRIVS: it is set, and never cleared
abbrev pub after_no_new_privs : Record → Authority → Result Authority Errno
after_no_new_privs call a =
    if (register call 1 == 1) && (register call 2 == 0) && (register call 3 == 0) && (register call 4 == 0)
    then Ok (record a { creds = record a.creds { no_new_privs = true } })
    else Err Einval

-- prctl(2), PR_SET_SECCOMP: the only mode is 2, SECCOMP_MODE_FILTER
abbrev pub after_set_seccomp : Images → Record → Authority → Result Authority Errno
after_set_seccomp declared call a =
    if register call 1 == 2 then after_attach declared 0 (register call 2) a else Err Einval

-- prctl(2), by its option. Those that only ask, the mark of a subreaper, and a number that is no option leave the
-- authority
abbrev pub after_prctl : Images → Option PrctlOption → Record → Authority → Result Authority Errno
after_prctl declared (Some option.SetNoNewPrivs) call a = after_no_new_privs call a
after_prctl declared (Some option.SetSeccomp) call a = after_set_seccomp declared call a
after_prctl declared (Some option.GetSeccomp) call a = Ok a
after_prctl declared (Some option.GetNoNewPrivs) call a = Ok a
after_prctl declared (Some option.SetChildSubreaper) call a = Ok a
after_prctl declared (Some option.GetChildSubreaper) call a = Ok a
after_prctl declared None call a = Ok a

-- seccomp(2), SECCOMP_SET_MODE_FILTER
abbrev pub after_set_mode_filter : Images → Record → Authority → Result Authority Errno
after_set_mode_filter declared call a = after_attach declared (unsigned call 1) (register call 2) a

-- seccomp(2), by its operation. The one that only asks, and a number that is no operation, leave the authority
abbrev pub after_seccomp : Images → Option SeccompOperation → Record → Authority → Result Authority Errno
after_seccomp declared (Some operation.SetModeFilter) call a = after_set_mode_filter declared call a
after_seccomp declared (Some operation.GetActionAvail) call a = Ok a
after_seccomp declared None call a = Ok a

-- the authority after a performed call, or the error of a call that would change it. Every other call
-- leaves it as it is, and so does an operation of prctl(2) or seccomp(2) that changes no authority, though
-- the call itself may fail
abbrev pub authority_after : Images → Option Syscall → Record → Authority → Result Authority Errno
authority_after declared (Some syscall.Setuid) call a = with_creds a (after_setuid (unsigned call 0) a.creds)
authority_after declared (Some syscall.Setresuid) call a =
    with_creds a (after_setresuid (unsigned call 0) (unsigned call 1) (unsigned call 2) a.creds)
authority_after declared (Some syscall.Execve) call a = after_execve a (mark_of declared (register call 0))
authority_after declared (Some syscall.Prctl) call a = after_prctl declared (prctl_option_of (unsigned call 0)) call a
authority_after declared (Some syscall.Seccomp) call a =
    after_seccomp declared (seccomp_operation_of (unsigned call 0)) call a
authority_after declared other call a = Ok a

-- the same of a call by its number
abbrev pub authority_after_call : Images → Record → Authority → Result Authority Errno
authority_after_call declared call a = authority_after declared (syscall_of call.nr) call a
