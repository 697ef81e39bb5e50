-- What a performed call comes to, by what it does, so that a law goes through a dozen cases and not through each call.
use Rattle.std.specs.Prelude.{ℕ, Bool, true, false, Option, None, Some, Result, Ok, Err}
use Rattle.sk_laws.specs.Common.{Record, Errno, Einval, Enosys, Signals, SignalState, Body, Waiting, World, at, parent_of, fork_answer, group_of, after_setpgid, after_setsid, group_asked, session_asked, PrctlOption, SeccompOperation, Syscall, Images, unsigned, signed, prctl_option_of, seccomp_operation_of, Authority, authority_of, after_prctl, after_seccomp, authority_after, Performed, asked, changes, authorises, waits, resignals, after_sigaction, after_sigprocmask, after_sigreturn, after_kill, wait4, execve, forks, exit_status, end_of_caller, ids, pending_signals, authorised, seccomp_mode, no_new_privs_asked, where_subreapers, subreaper_set, subreaper_asked, prctl, action_available, seccomp, row}
use Rattle.sk_machine.specs.declared.operation.PrctlOption.TheVariants as option
use Rattle.sk_machine.specs.declared.operation.SeccompOperation.TheVariants as operation

-- which call is a fork, and which a kill
abbrev pub is_fork_row : Option Syscall → Bool
is_fork_row (Some Syscall.Fork) = true
is_fork_row other = false

abbrev pub is_kill_row : Option Syscall → Bool
is_kill_row (Some Syscall.Kill) = true
is_kill_row other = false

-- what a law may go by beside what the call comes to: whether it is fork(2), or kill(2), and what it makes of its
-- caller's authority
pub record CallFacts : Type 0 where
  pub is_fork : Bool
  pub is_kill : Bool
  pub authority : Result Authority Errno

abbrev pub facts_of : Images → Body → Option Syscall → Record → CallFacts
facts_of declared body which call = record {
  is_fork = is_fork_row which;
  is_kill = is_kill_row which;
  authority = authority_after declared which call (authority_of body);
}

-- those of a call that is neither of the two
abbrev pub changing : Result Authority Errno → CallFacts
changing r = record { is_fork = false; is_kill = false; authority = r }

-- and leaves its caller's authority
abbrev pub leaving : Body → CallFacts
leaving body = changing (Ok (authority_of body))

-- what is to be shown of a caller's calls, with what a law may go by, so that it holds of each
pub record EachCall (declared : Images) (w : World) (pid : ℕ) (body : Body) (call : Record) (P : CallFacts → Performed → Type 0) : Type 0 where
  pub answers : (r : Result ℕ Errno) → P (leaving body) (asked w r)
  pub tells_signals : (set : Signals) → P (leaving body) (pending_signals w set)
  pub tells_ids : P (leaving body) (ids w body.creds)
  pub resignals : (r : Result SignalState Errno) → P (leaving body) (resignals w pid r)
  pub authorises : (r : Result Authority Errno) → P (changing r) (authorises w pid r)
  pub executes : (r : Result Authority Errno) → P (changing r) (execve w pid r)
  pub marks : P (leaving body) (where_subreapers declared.subreapers w (subreaper_set w pid call))
  pub asks_mark : P (leaving body) (where_subreapers declared.subreapers w (subreaper_asked w body.subreaper))
  pub pauses : P (leaving body) (waits w pid Waiting.Pause)
  pub waits_for : P (leaving body) (wait4 w pid call)
  pub forks_one : P (record (leaving body) { is_fork = true }) (forks w pid (fork_answer w))
  pub ends : (status : ℕ) → P (leaving body) (end_of_caller w pid status)
  pub kills : P (record (leaving body) { is_kill = true }) (changes w 0 (after_kill w pid body.creds (signed call 0) (unsigned call 1)))
  pub regroups : P (leaving body) (changes w 0 (after_setpgid w pid (signed call 0) (signed call 1)))
  pub leads : P (leaving body) (changes w pid (after_setsid w pid))

module _ (declared : Images) (w : World) (pid : ℕ) (body : Body) (call : Record) (P : CallFacts → Performed → Type 0) (c : EachCall declared w pid body call P) where
  each_prctl : (which : Option PrctlOption) → P (changing (after_prctl declared which call (authority_of body))) (prctl declared w pid body which call)
  each_prctl (Some option.GetSeccomp) = c.answers (Ok (seccomp_mode body.chain))
  each_prctl (Some option.GetNoNewPrivs) = c.answers (no_new_privs_asked call body.creds.no_new_privs)
  each_prctl (Some option.SetChildSubreaper) = c.marks
  each_prctl (Some option.GetChildSubreaper) = c.asks_mark
  each_prctl None = c.answers (Err Einval)
  each_prctl setting = c.authorises (after_prctl declared setting call (authority_of body))

  each_seccomp : (which : Option SeccompOperation) → P (changing (after_seccomp declared which call (authority_of body))) (seccomp declared w pid body which call)
  each_seccomp (Some operation.GetActionAvail) = c.answers (action_available (unsigned call 1) (unsigned call 2))
  each_seccomp None = c.answers (Err Einval)
  each_seccomp setting = c.authorises (after_seccomp declared setting call (authority_of body))

  pub each_call : (which : Option Syscall) → P (facts_of declared body which call) (row declared w pid body which call)
  each_call (Some Syscall.RtSigaction) = c.resignals (after_sigaction pid call body.signals)
  each_call (Some Syscall.RtSigprocmask) = c.resignals (after_sigprocmask call body.signals)
  each_call (Some Syscall.RtSigreturn) = c.resignals (after_sigreturn body.signals.frames body.signals)
  each_call (Some Syscall.RtSigpending) = c.tells_signals body.signals.pending
  each_call (Some Syscall.SchedYield) = c.answers (Ok 0)
  each_call (Some Syscall.Pause) = c.pauses
  each_call (Some Syscall.Getpid) = c.answers (Ok pid)
  each_call (Some Syscall.Getppid) = c.answers (Ok (parent_of (at w pid)))
  each_call (Some Syscall.Fork) = c.forks_one
  each_call (Some Syscall.Execve) = c.executes (authorised declared body Syscall.Execve call)
  each_call (Some Syscall.Exit) = c.ends (exit_status (unsigned call 0))
  each_call (Some Syscall.ExitGroup) = c.ends (exit_status (unsigned call 0))
  each_call (Some Syscall.Wait4) = c.waits_for
  each_call (Some Syscall.Kill) = c.kills
  each_call (Some Syscall.Getuid) = c.answers (Ok body.creds.real)
  each_call (Some Syscall.Geteuid) = c.answers (Ok body.creds.effective)
  each_call (Some Syscall.Setuid) = c.authorises (authorised declared body Syscall.Setuid call)
  each_call (Some Syscall.Setresuid) = c.authorises (authorised declared body Syscall.Setresuid call)
  each_call (Some Syscall.Getresuid) = c.tells_ids
  each_call (Some Syscall.Setpgid) = c.regroups
  each_call (Some Syscall.Getpgrp) = c.answers (Ok (group_of (at w pid)))
  each_call (Some Syscall.Setsid) = c.leads
  each_call (Some Syscall.Getpgid) = c.answers (group_asked w pid (signed call 0))
  each_call (Some Syscall.Getsid) = c.answers (session_asked w pid (signed call 0))
  each_call (Some Syscall.Prctl) = each_prctl (prctl_option_of (unsigned call 0))
  each_call (Some Syscall.Seccomp) = each_seccomp (seccomp_operation_of (unsigned call 0))
  each_call None = c.answers (Err Enosys)
