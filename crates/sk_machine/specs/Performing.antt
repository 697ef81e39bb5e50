-- What each call does when it is performed, one row a call, with the errors in the order in which they
-- are told.
use Rattle.std.specs.Prelude.{ℕ, ◌*◌, ◌%◌, ◌==◌, Bool, true, not, ◌&&◌, if◌then◌else◌, List, [], ◌∷◌, Option, None, Some, Result, Ok, Err}
use Rattle.std.specs.Option.{is_some}
use Rattle.sk_insn.specs.declared.record.Record.{Record}
use Rattle.sk_insn.specs.declared.insn.Insn.{Insn}
use Rattle.sk_insn.specs.Actions.{value_of, action_of, data_part}
use Rattle.sk_world.specs.declared.errno.Errno.{Errno}
use Rattle.sk_world.specs.declared.errno.Errno.TheVariants.{Einval, Enosys, Eopnotsupp}
use Rattle.sk_world.specs.declared.creds.Creds.{Creds}
use Rattle.sk_world.specs.SignalSet.{Signals as SignalMembers}
use Rattle.sk_world.specs.Signalling.{after_exec}
use Rattle.sk_world.specs.declared.process.Waiting.TheVariants as waiting
use Rattle.sk_world.specs.declared.process.Body.{Body}
use Rattle.sk_world.specs.World.{World, at, parent_of, changed}
use Rattle.sk_world.specs.Forking.{fork_answer, forked}
use Rattle.sk_machine.specs.Orphans.{ended_and_hung_up}
use Rattle.sk_machine.specs.Sessions.{group_of, after_setpgid, after_setsid, group_asked, session_asked}
use Rattle.sk_machine.specs.declared.answer.Outcome.TheVariants.{Ids, Signals, Ended, Executed}
use Rattle.sk_machine.specs.declared.operation.PrctlOption.{PrctlOption}
use Rattle.sk_machine.specs.declared.operation.PrctlOption.TheVariants as option
use Rattle.sk_machine.specs.declared.operation.SeccompOperation.{SeccompOperation}
use Rattle.sk_machine.specs.declared.operation.SeccompOperation.TheVariants as operation
use Rattle.sk_names.specs.declared.syscall.Syscall.{Syscall}
use Rattle.sk_names.specs.declared.syscall.Syscall.TheVariants as syscall
use Rattle.sk_machine.specs.Images.{Images}
use Rattle.sk_names.specs.Syscalls.{syscall_of}
use Rattle.sk_machine.specs.Arguments.{register, unsigned, signed, prctl_option_of, seccomp_operation_of}
use Rattle.sk_machine.specs.Authority.{Authority, authority_of, with_authority, after_no_new_privs, after_set_seccomp, after_set_mode_filter, authority_after}
use Rattle.sk_machine.specs.Performed.{Performed, returns, fails, asked, changes, authorises, waits}
use Rattle.sk_machine.specs.SignalCalls.{resignals, after_sigaction, after_sigprocmask, after_sigreturn}
use Rattle.sk_machine.specs.Killing.{after_kill}
use Rattle.sk_machine.specs.WaitCalls.{wait4}

-- the process runs another program: its handlers are gone, and it counts as executed
abbrev pub executing : Authority → Body → Body
executing a body = record (with_authority a body) { signals = after_exec body.signals; executed = true }

-- execve(2): all this at once, or the error and nothing
abbrev pub execve : World → ℕ → Result Authority Errno → Performed
execve w pid (Ok a) = record { outcome = Executed; world = changed w pid (executing a) }
execve w pid (Err e) = fails w e

-- fork(2)
abbrev pub forks : World → ℕ → Result ℕ Errno → Performed
forks w pid (Ok child) = returns (forked w pid) child
forks w pid (Err e) = fails w e

-- the status of a process that ends by this code: wait(2), WEXITSTATUS
abbrev pub exit_status : ℕ → ℕ
exit_status code = code % 256 * 256

-- a process ends, by a call or by a filter
abbrev pub end_of_caller : World → ℕ → ℕ → Performed
end_of_caller w pid status = record { outcome = Ended status; world = ended_and_hung_up w pid status }

-- getresuid(2)
abbrev pub ids : World → Creds → Performed
ids w creds = record { outcome = Ids creds.real creds.effective creds.saved; world = w }

-- sigpending(2)
abbrev pub pending_signals : World → SignalMembers → Performed
pending_signals w pending = record { outcome = Signals pending; world = w }

-- what the call makes of the authority of a caller with this body
abbrev pub authorised : Images → Body → Syscall → Record → Result Authority Errno
authorised declared body which call = authority_after declared (Some which) call (authority_of body)

-- prctl(2), PR_GET_SECCOMP: 2 is SECCOMP_MODE_FILTER
abbrev pub seccomp_mode : List (List Insn) → ℕ
seccomp_mode [] = 0
seccomp_mode (newest ∷ older) = 2

-- prctl(2), PR_GET_NO_NEW_PRIVS
abbrev pub no_new_privs_asked : Record → Bool → Result ℕ Errno
no_new_privs_asked call is_set =
    if (register call 1 == 0) && (register call 2 == 0) && (register call 3 == 0) && (register call 4 == 0)
    then Ok (if is_set then 1 else 0)
    else Err Einval

-- the mark of a subreaper is set or cleared
abbrev pub with_subreaper : Bool → Body → Body
with_subreaper mark body = record body { subreaper = mark }

-- prctl(2), PR_SET_CHILD_SUBREAPER: any number but 0 sets the mark
abbrev pub subreaper_set : World → ℕ → Record → Performed
subreaper_set w pid call = returns (changed w pid (with_subreaper (not (register call 1 == 0)))) 0

-- prctl(2), PR_GET_CHILD_SUBREAPER
abbrev pub subreaper_asked : World → Bool → Performed
subreaper_asked w is_marked = returns w (if is_marked then 1 else 0)

-- what a call comes to that is there only where subreapers are
abbrev pub where_subreapers : Bool → World → Performed → Performed
where_subreapers there w p = if there then p else fails w Einval

-- prctl(2), by its option: EINVAL where the number is none
abbrev pub prctl : Images → World → ℕ → Body → Option PrctlOption → Record → Performed
prctl declared w pid body (Some option.GetSeccomp) call = returns w (seccomp_mode body.chain)
prctl declared w pid body (Some option.GetNoNewPrivs) call = asked w (no_new_privs_asked call body.creds.no_new_privs)
prctl declared w pid body (Some option.SetChildSubreaper) call = where_subreapers declared.subreapers w (subreaper_set w pid call)
prctl declared w pid body (Some option.GetChildSubreaper) call = where_subreapers declared.subreapers w (subreaper_asked w body.subreaper)
prctl declared w pid body None call = fails w Einval
prctl declared w pid body (Some option.SetNoNewPrivs) call = authorises w pid (after_no_new_privs call (authority_of body))
prctl declared w pid body (Some option.SetSeccomp) call = authorises w pid (after_set_seccomp declared call (authority_of body))

-- seccomp(2), SECCOMP_GET_ACTION_AVAIL: the number is one of the eight actions' values. No flag is taken
abbrev pub action_available : ℕ → ℕ → Result ℕ Errno
action_available flags value =
    if not (flags == 0) then Err Einval
    else if is_some (value_of (action_of value)) && (data_part value == 0) then Ok 0
    else Err Eopnotsupp

-- seccomp(2), by its operation: EINVAL where the number is none
abbrev pub seccomp : Images → World → ℕ → Body → Option SeccompOperation → Record → Performed
seccomp declared w pid body (Some operation.GetActionAvail) call = asked w (action_available (unsigned call 1) (unsigned call 2))
seccomp declared w pid body None call = fails w Einval
seccomp declared w pid body (Some operation.SetModeFilter) call = authorises w pid (after_set_mode_filter declared call (authority_of body))

-- what the process of a pid, which has this body, comes to when it makes the call, and nothing stands in its way
abbrev pub row : Images → World → ℕ → Body → Option Syscall → Record → Performed
row declared w pid body (Some syscall.RtSigaction) call = resignals w pid (after_sigaction pid call body.signals)
row declared w pid body (Some syscall.RtSigprocmask) call = resignals w pid (after_sigprocmask call body.signals)
row declared w pid body (Some syscall.RtSigreturn) call = resignals w pid (after_sigreturn body.signals.frames body.signals)
row declared w pid body (Some syscall.RtSigpending) call = pending_signals w body.signals.pending
row declared w pid body (Some syscall.SchedYield) call = returns w 0
row declared w pid body (Some syscall.Pause) call = waits w pid waiting.Pause
row declared w pid body (Some syscall.Getpid) call = returns w pid
row declared w pid body (Some syscall.Getppid) call = returns w (parent_of (at w pid))
row declared w pid body (Some syscall.Fork) call = forks w pid (fork_answer w)
row declared w pid body (Some syscall.Execve) call = execve w pid (authorised declared body syscall.Execve call)
row declared w pid body (Some syscall.Exit) call = end_of_caller w pid (exit_status (unsigned call 0))
row declared w pid body (Some syscall.ExitGroup) call = end_of_caller w pid (exit_status (unsigned call 0))
row declared w pid body (Some syscall.Wait4) call = wait4 w pid call
row declared w pid body (Some syscall.Kill) call = changes w 0 (after_kill w pid body.creds (signed call 0) (unsigned call 1))
row declared w pid body (Some syscall.Getuid) call = returns w body.creds.real
row declared w pid body (Some syscall.Geteuid) call = returns w body.creds.effective
row declared w pid body (Some syscall.Setuid) call = authorises w pid (authorised declared body syscall.Setuid call)
row declared w pid body (Some syscall.Setresuid) call = authorises w pid (authorised declared body syscall.Setresuid call)
row declared w pid body (Some syscall.Getresuid) call = ids w body.creds
row declared w pid body (Some syscall.Setpgid) call = changes w 0 (after_setpgid w pid (signed call 0) (signed call 1))
row declared w pid body (Some syscall.Getpgrp) call = returns w (group_of (at w pid))
row declared w pid body (Some syscall.Setsid) call = changes w pid (after_setsid w pid)
row declared w pid body (Some syscall.Getpgid) call = asked w (group_asked w pid (signed call 0))
row declared w pid body (Some syscall.Getsid) call = asked w (session_asked w pid (signed call 0))
row declared w pid body (Some syscall.Prctl) call = prctl declared w pid body (prctl_option_of (unsigned call 0)) call
row declared w pid body (Some syscall.Seccomp) call = seccomp declared w pid body (seccomp_operation_of (unsigned call 0)) call
row declared w pid body None call = fails w Enosys

-- the same of a call by its number
abbrev pub performed : Images → World → ℕ → Body → Record → Performed
performed declared w pid body call = row declared w pid body (syscall_of call.nr) call
