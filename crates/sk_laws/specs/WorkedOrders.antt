-- Runs that are worked out by hand: groups, permissions, filters, lineages and turns where several rules meet.
use Rattle.std.specs.Prelude.{ℕ, ◌≡◌, ◌^◌, pos, [], ◌∷◌, List, Some}
use Rattle.sk_laws.specs.Common.{Record, native, Eperm, Esrch, Eagain, Eacces, Efault, Einval, Eopnotsupp, opening, Answer, Returned, Ended, Effect, Reason, Deliver, Happening, lineage_of, history_after, next_of}
use Rattle.sk_laws.specs.Scripts.{nothing_given, given, plain, always, for_number, minus, only, sigaction, sigprocmask, sigreturn, sched_yield, pause, getpid, fork, execve, exit, wait4, kill, setuid, setpgid, getppid, setsid, setresuid, getpgid, prctl, seccomp, gives, fails, waits, told, ends, executed, refused, delivers, handles, not_now, events_of, Runs, after}

-- a call that passes one number, and no other
abbrev pub call_of_one : ℕ → ℕ → Record
call_of_one nr a = native nr 0 (a ∷ 0 ∷ 0 ∷ 0 ∷ 0 ∷ 0 ∷ [])

-- a pid that was given twice, with the newest event first
abbrev pub pid_given_twice : List Happening
pid_given_twice =
    (fork 1, gives 2)
    ∷ (wait4 1 2 0, told 2 0)
    ∷ (exit 2 0, ends 0)
    ∷ (setuid 2 5, gives 0)
    ∷ (fork 1, gives 2)
    ∷ (setuid 1 0, gives 0)
    ∷ []

-- forks of forks, some refused and some failing, with the newest event first
abbrev pub forks_of_forks : List Happening
forks_of_forks =
    (fork 3, gives 4)
    ∷ (setuid 3 6, gives 0)
    ∷ (fork 2, gives 3)
    ∷ (fork 2, fails Eagain)
    ∷ (fork 1, refused 2)
    ∷ (fork 1, refused 0)
    ∷ (fork 1, gives 2)
    ∷ []

pub record WorkedOrders : Type 0 where
  -- a zombie can be put into a group, and its group is one until it was waited for; which refusal of
  -- setpgid(2) comes first
  pub regroups_zombies : Runs (given [] (plain ∷ [])) opening (
      (fork 1, gives 2)
      ∷ (fork 1, gives 3)
      ∷ (exit 2 0, ends 0)
      ∷ (setpgid 1 2 0, gives 0)
      ∷ (setpgid 1 3 2, gives 0)
      ∷ (getpgid 3 2, gives 2)
      ∷ (setpgid 3 2 0, fails Esrch)
      ∷ (setpgid 3 1 0, fails Esrch)
      ∷ (setpgid 2 0 0, not_now Reason.Zombie)
      ∷ (wait4 1 (minus 2) 1, told 2 0)
      ∷ (setpgid 3 0 0, gives 0)
      ∷ (setpgid 3 0 2, fails Eperm)
      ∷ (setpgid 3 0 40000, fails Eperm)
      ∷ (setpgid 3 0 1, gives 0)
      ∷ (setpgid 3 1 (minus 1), fails Einval)
      ∷ (setsid 3, gives 3)
      ∷ (setpgid 3 0 3, fails Eperm)
      ∷ [])
  -- setsid(2) is refused while a process is in the group that would be the caller's, though the caller
  -- has left it, and a zombie counts: setsid(2)
  pub founds_session_alone : Runs nothing_given opening (
      (fork 1, gives 2)
      ∷ (setpgid 2 0 0, gives 0)
      ∷ (fork 2, gives 3)
      ∷ (setpgid 2 0 1, gives 0)
      ∷ (setsid 2, fails Eperm)
      ∷ (exit 3 0, ends 0)
      ∷ (setsid 2, fails Eperm)
      ∷ (wait4 2 3 0, told 3 0)
      ∷ (setsid 2, gives 2)
      ∷ (setpgid 1 2 0, fails Eperm)
      ∷ (kill 2 0 0, gives 0)
      ∷ (setpgid 2 0 2, fails Eperm)
      ∷ (kill 2 1 0, gives 0)
      ∷ [])
  -- setpgid(2) joins no group of another session
  pub stays_in_session : Runs nothing_given opening (
      (fork 1, gives 2)
      ∷ (setsid 2, gives 2)
      ∷ (fork 1, gives 3)
      ∷ (setpgid 1 3 2, fails Eperm)
      ∷ (setpgid 3 0 2, fails Eperm)
      ∷ [])
  -- SIGCONT to another session needs the same ids as every other signal; a signal to many is sent to those
  -- that it may be sent to, and fails where there are none: kill(2)
  pub everyone_may_not_continue : Runs nothing_given opening (
      (fork 1, gives 2)
      ∷ (fork 1, gives 3)
      ∷ (fork 1, gives 4)
      ∷ (setresuid 2 5 6 7, gives 0)
      ∷ (setresuid 3 6 9 9, gives 0)
      ∷ (setsid 4, gives 4)
      ∷ (setresuid 4 8 8 8, gives 0)
      ∷ (kill 3 2 0, fails Eperm)
      ∷ (kill 2 3 0, gives 0)
      ∷ (kill 2 4 18, fails Eperm)
      ∷ (kill 3 2 18, gives 0)
      ∷ (kill 3 1 18, gives 0)
      ∷ (kill 3 1 15, fails Eperm)
      ∷ (kill 2 (minus 1) 9, gives 0)
      ∷ (getpid 3, not_now Reason.SignalFirst)
      ∷ (getpid 4, gives 4)
      ∷ (Deliver 3, delivers 9 (Effect.Ended 9))
      ∷ (kill 4 3 0, fails Eperm)
      ∷ (kill 4 2 0, fails Eperm)
      ∷ (kill 4 (minus 4) 0, gives 0)
      ∷ (kill 4 0 15, gives 0)
      ∷ (Deliver 4, delivers 15 (Effect.Ended 15))
      ∷ (kill 2 (minus 1) 0, gives 0)
      ∷ (kill 2 4 0, fails Eperm)
      ∷ [])
  -- execve(2) drops handlers and the frames of those that run, and keeps what is ignored; fork(2) copies
  -- the frames; a child that has executed cannot be regrouped
  pub exec_keeps_ignored : Runs (given [] (plain ∷ plain ∷ [])) opening (
      (fork 1, gives 2)
      ∷ (execve 2 1, executed)
      ∷ (fork 2, gives 3)
      ∷ (setpgid 2 3 0, gives 0)
      ∷ (setpgid 1 2 0, fails Eacces)
      ∷ (setpgid 2 0 0, gives 0)
      ∷ (sigaction 2 10 2 0, gives 0)
      ∷ (sigaction 2 12 1 0, gives 0)
      ∷ (kill 2 2 10, gives 0)
      ∷ (Deliver 2, handles 10 0)
      ∷ (fork 2, gives 4)
      ∷ (execve 2 0, executed)
      ∷ (sigreturn 2, fails Einval)
      ∷ (kill 2 2 12, gives 0)
      ∷ (kill 2 2 10, gives 0)
      ∷ (getpid 2, gives 2)
      ∷ (sigreturn 4, gives 0)
      ∷ (kill 1 4 10, gives 0)
      ∷ (Deliver 4, handles 10 0)
      ∷ (sigprocmask 2 1 (only 10), gives 0)
      ∷ (Deliver 2, delivers 10 (Effect.Ended 10))
      ∷ [])
  -- prctl(2) attaches by the rules of seccomp(2), and its refusals come in the same order
  pub orders_refusals_of_attach :
      Runs (given (always 0x7fff0000 ∷ (6 ∷ 0 ∷ 0 ∷ []) ∷ (0x30 ∷ 0 ∷ 0 ∷ 0 ∷ 0 ∷ 0 ∷ 0 ∷ 0 ∷ []) ∷ []) []) opening (
      (setuid 1 3, gives 0)
      ∷ (prctl 1 22 2 1, fails Einval)
      ∷ (prctl 1 22 2 2, fails Eacces)
      ∷ (prctl 1 22 2 3, fails Efault)
      ∷ (prctl 1 22 2 0, fails Eacces)
      ∷ (prctl 1 22 0 0, fails Einval)
      ∷ (prctl 1 38 1 0, gives 0)
      ∷ (prctl 1 22 2 2, fails Einval)
      ∷ (seccomp 1 1 1 3, fails Einval)
      ∷ (prctl 1 22 2 0, gives 0)
      ∷ (prctl 1 21 0 0, gives 2)
      ∷ (prctl 1 37 0 0, fails Einval)
      ∷ (prctl 1 38 0 0, fails Einval)
      ∷ (prctl 1 39 0 0, gives 1)
      ∷ (seccomp 1 3 0 0, fails Einval)
      ∷ (seccomp 1 2 0 (2 ^ 32), gives 0)
      ∷ (seccomp 1 2 0 0x7ffd0000, fails Eopnotsupp)
      ∷ [])
  -- SECCOMP_RET_LOG performs the call, and has precedence over an unknown action of a greater number, which
  -- ends the process where it decides alone: seccomp(2)
  pub logs_and_ends_by_precedence :
      Runs (given (always 0x7ffc0005 ∷ for_number 39 0x7ffe0000 ∷ for_number 110 0x7ffe0000 ∷ []) []) opening (
      (fork 1, gives 2)
      ∷ (seccomp 1 1 0 0, gives 0)
      ∷ (seccomp 1 1 0 1, Answer.Call 0x7ffc0005 (Returned (pos 0)))
      ∷ (getpid 1, Answer.Call 0x7ffc0005 (Returned (pos 1)))
      ∷ (seccomp 2 1 0 2, gives 0)
      ∷ (getppid 2, Answer.Call 0x7ffe0000 (Ended 31))
      ∷ [])
  -- a fork that a filter refused with the error 0 made no process: its lineage is nobody's
  pub lineage_after_refused_fork : lineage_of (history_after (given (for_number 57 0x00050000 ∷ []) []) opening
      (events_of ((seccomp 1 1 0 0, gives 0) ∷ (fork 1, refused 0) ∷ [])) []) 0 ≡ record { root = 0; calls = [] }
  -- the lineage of a pid that was given twice is that of its last process
  pub lineage_of_pid_given_twice : lineage_of pid_given_twice 2
      ≡ record { root = 1; calls = call_of_one 105 0 ∷ call_of_one 57 0 ∷ call_of_one 61 2 ∷ [] }
  -- a lineage goes through every fork back to its root; a fork that fails is a call of its caller's lineage
  pub lineage_through_forks : lineage_of forks_of_forks 4 ≡ record { root = 1; calls = call_of_one 57 0 ∷ call_of_one 105 6 ∷ [] }
  -- a process that waits for a child that has ended can run, though another waits in pause(2)
  pub asks_when_child_ends :
      next_of (after nothing_given opening ((fork 1, gives 2) ∷ (fork 1, gives 3) ∷ (wait4 1 3 0, waits) ∷ (pause 2, waits) ∷ (exit 3 0, ends 0) ∷ [])) 1
      ≡ Some 1
  -- and so can one whose child has gone without a zombie: its wait fails
  pub asks_when_child_is_gone :
      next_of (after nothing_given opening ((sigaction 1 17 1 0, gives 0) ∷ (fork 1, gives 2) ∷ (fork 1, gives 3) ∷ (wait4 1 3 0, waits) ∷ (exit 3 0, ends 0) ∷ (sched_yield 2, gives 0) ∷ [])) 2
      ≡ Some 1
