-- Runs that are worked out by hand: orphaned process groups, setpgid(2), "Notes".
use Rattle.std.specs.Prelude.{◌≡◌, [], ◌∷◌, List}
use Rattle.sk_laws.specs.Common.{World, at, opening, Answer, Told, Ended, Effect, Reason, Deliver, Resume, Fault, Happening}
use Rattle.sk_laws.specs.Scripts.{nothing_given, given, plain, for_number, minus, only, sigaction, sigprocmask, sigreturn, sched_yield, getpid, fork, exit, wait4, kill, setpgid, getppid, setsid, sigpending, exit_group, seccomp, gives, waits, told, ends, signals, resumes, delivers, handles, crashes, not_now, Runs, after}
use Rattle.sk_laws.specs.WorkedTurns.{TakesTurns}
use Rattle.sk_laws.specs.WorkedSignals.{rounds}

-- the end of a shell leaves the group of its job orphaned, which is stopped: it gets SIGHUP, and is continued
abbrev pub stopped_job : List Happening
stopped_job =
    (fork 1, gives 2)
    ∷ (setsid 2, gives 2)
    ∷ (wait4 1 (minus 1) 0, waits)
    ∷ (fork 2, gives 3)
    ∷ (sched_yield 3, gives 0)
    ∷ (setpgid 2 3 0, gives 0)
    ∷ (kill 3 3 19, gives 0)
    ∷ (sched_yield 2, gives 0)
    ∷ (Deliver 3, delivers 19 Effect.Stopped)
    ∷ (exit 2 1, ends 0x0100)
    ∷ (Deliver 3, delivers 1 (Effect.Ended 0x0001))
    ∷ (Resume 1, resumes (Told 2 0x0100))
    ∷ (wait4 1 (minus 1) 0, told 3 0x0001)
    ∷ (exit_group 1 0, ends 0)
    ∷ []

-- group 1 is orphaned from the start, so SIGTSTP stops none of it
abbrev pub unstopped_child : List Happening
unstopped_child =
    (fork 1, gives 2)
    ∷ (kill 2 2 20, gives 0)
    ∷ (wait4 1 (minus 1) 2, waits)
    ∷ (Deliver 2, delivers 20 Effect.Ignored)
    ∷ (exit 2 4, ends 0x0400)
    ∷ (Resume 1, resumes (Told 2 0x0400))
    ∷ (exit_group 1 0, ends 0)
    ∷ []

-- a session of its own: process 2 leads it, and its children 3 and 4 are in groups of their own
abbrev pub session : List Happening
session =
    (fork 1, gives 2)
    ∷ (setsid 2, gives 2)
    ∷ (fork 2, gives 3)
    ∷ (setpgid 2 3 0, gives 0)
    ∷ (fork 2, gives 4)
    ∷ (setpgid 2 4 0, gives 0)
    ∷ []

-- the world then
abbrev pub in_session : World
in_session = after nothing_given opening session

-- process 3 is stopped, and eight handlers of the leader run one in the other
abbrev pub leader_with_eight : World
leader_with_eight =
    after (given [] (plain ∷ [])) in_session ((kill 2 3 19, gives 0) ∷ (Deliver 3, delivers 19 Effect.Stopped) ∷ (sigaction 2 10 2 0, gives 0) ∷ rounds 2 8)

-- eight more begin
abbrev pub leader_with_sixteen : World
leader_with_sixteen = after (given [] (plain ∷ [])) leader_with_eight (rounds 2 8)

-- the end of process 1 hangs up nobody
abbrev pub leaderless : World
leaderless = after nothing_given opening ((fork 1, gives 2) ∷ (setpgid 1 2 0, gives 0) ∷ (kill 1 2 19, gives 0) ∷ (Deliver 2, delivers 19 Effect.Stopped) ∷ [])

-- nobody but process 1 is another one
abbrev pub HaltHangsUpNobody : Type 0
HaltHangsUpNobody =
    at (after nothing_given leaderless ((exit 1 0, ends 0) ∷ [])) 2 ≡ at leaderless 2

pub record WorkedOrphans : Type 0 where
  -- these are its answers
  pub hangs_up_job : Runs (given [] (plain ∷ plain ∷ plain ∷ [])) opening stopped_job
  -- and its turns
  pub turns_of_job : TakesTurns (given [] (plain ∷ plain ∷ plain ∷ [])) stopped_job
  -- these are its answers
  pub ignores_terminal_stop : Runs (given [] (plain ∷ plain ∷ [])) opening unstopped_child
  -- and its turns
  pub turns_of_unstopped : TakesTurns (given [] (plain ∷ plain ∷ [])) unstopped_child
  -- the three stop signals of a terminal stop no process of an orphaned group by default, and SIGSTOP does; a
  -- handler runs for them as ever
  pub stops_by_sigstop_alone : Runs (given [] (plain ∷ [])) opening (
      (fork 1, gives 2)
      ∷ (kill 1 2 21, gives 0)
      ∷ (Deliver 2, delivers 21 Effect.Ignored)
      ∷ (kill 1 2 22, gives 0)
      ∷ (Deliver 2, delivers 22 Effect.Ignored)
      ∷ (sigaction 2 20 2 0, gives 0)
      ∷ (kill 1 2 20, gives 0)
      ∷ (Deliver 2, handles 20 0)
      ∷ (sigreturn 2, gives 0)
      ∷ (kill 1 2 19, gives 0)
      ∷ (Deliver 2, delivers 19 Effect.Stopped)
      ∷ [])
  -- a group is tied to its session by a process whose parent is outside the group and in the session. The leader's
  -- group is not: the leader's parent is in another session, and the others' parent is in the group
  pub stops_where_tied : Runs nothing_given in_session (
      (kill 2 3 20, gives 0)
      ∷ (Deliver 3, delivers 20 Effect.Stopped)
      ∷ (wait4 2 3 2, told 3 0x147f)
      ∷ (kill 2 2 20, gives 0)
      ∷ (Deliver 2, delivers 20 Effect.Ignored)
      ∷ (fork 2, gives 5)
      ∷ (kill 2 5 20, gives 0)
      ∷ (Deliver 5, delivers 20 Effect.Ignored)
      ∷ (fork 4, gives 6)
      ∷ (kill 2 6 20, gives 0)
      ∷ (Deliver 6, delivers 20 Effect.Stopped)
      ∷ [])
  -- each group that an end leaves orphaned is hung up, and all of it, if some process of it is stopped
  pub hangs_up_each_group : Runs nothing_given in_session (
      (fork 3, gives 5)
      ∷ (kill 2 3 19, gives 0)
      ∷ (Deliver 3, delivers 19 Effect.Stopped)
      ∷ (kill 2 4 19, gives 0)
      ∷ (Deliver 4, delivers 19 Effect.Stopped)
      ∷ (exit 2 0, ends 0)
      ∷ (getpid 3, not_now Reason.SignalFirst)
      ∷ (Deliver 3, delivers 1 (Effect.Ended 1))
      ∷ (Deliver 4, delivers 1 (Effect.Ended 1))
      ∷ (Deliver 5, delivers 1 (Effect.Ended 1))
      ∷ [])
  -- a group without a stopped process is not, though it is left orphaned, and though a zombie is in it
  pub spares_running_groups : Runs nothing_given in_session (
      (fork 2, gives 5)
      ∷ (setpgid 2 5 3, gives 0)
      ∷ (exit 5 0, ends 0)
      ∷ (exit 4 0, ends 0)
      ∷ (exit 2 0, ends 0)
      ∷ (Deliver 3, not_now Reason.NothingWaits)
      ∷ (getpid 3, gives 3)
      ∷ [])
  -- nor is one in which the process that ends was the only one stopped
  pub spares_where_stopped_one_ends : Runs nothing_given in_session (
      (fork 3, gives 5)
      ∷ (kill 2 3 19, gives 0)
      ∷ (Deliver 3, delivers 19 Effect.Stopped)
      ∷ (kill 2 3 9, gives 0)
      ∷ (Deliver 3, delivers 9 (Effect.Ended 9))
      ∷ (Deliver 5, not_now Reason.NothingWaits)
      ∷ (getpid 5, gives 5)
      ∷ [])
  -- nor is a group that was orphaned before
  pub spares_orphaned_before : Runs nothing_given in_session (
      (fork 2, gives 5)
      ∷ (kill 2 5 19, gives 0)
      ∷ (Deliver 5, delivers 19 Effect.Stopped)
      ∷ (exit 2 0, ends 0)
      ∷ (getpid 5, not_now Reason.Stopped)
      ∷ (exit 3 0, ends 0)
      ∷ (getpid 5, not_now Reason.Stopped)
      ∷ [])
  -- nor one that another process still ties; when that one ends, it is
  pub spares_tied_groups : Runs nothing_given in_session (
      (fork 4, gives 5)
      ∷ (setpgid 4 5 3, gives 0)
      ∷ (kill 2 3 19, gives 0)
      ∷ (Deliver 3, delivers 19 Effect.Stopped)
      ∷ (exit 2 0, ends 0)
      ∷ (getpid 3, not_now Reason.Stopped)
      ∷ (exit 4 0, ends 0)
      ∷ (Deliver 3, delivers 1 (Effect.Ended 1))
      ∷ (Deliver 5, delivers 1 (Effect.Ended 1))
      ∷ [])
  -- a zombie ties its group no more: the end of a parent hangs up its own group
  pub counts_no_zombies : Runs nothing_given in_session (
      (fork 3, gives 5)
      ∷ (kill 3 5 19, gives 0)
      ∷ (Deliver 5, delivers 19 Effect.Stopped)
      ∷ (exit 3 0, ends 0)
      ∷ (Deliver 5, delivers 1 (Effect.Ended 1))
      ∷ [])
  -- one that catches SIGHUP is continued by the SIGCONT of its own group, and its new parent is told
  pub continues_group : Runs (given [] (plain ∷ [])) in_session (
      (sigaction 3 1 2 0, gives 0)
      ∷ (kill 2 3 19, gives 0)
      ∷ (Deliver 3, delivers 19 Effect.Stopped)
      ∷ (sigaction 1 17 2 0, gives 0)
      ∷ (sigprocmask 1 0 (only 17), gives 0)
      ∷ (exit 2 0, ends 0)
      ∷ (sigpending 1, signals (only 17))
      ∷ (Deliver 3, handles 1 0)
      ∷ (getppid 3, gives 1)
      ∷ (wait4 1 3 9, told 3 0xffff)
      ∷ [])
  -- it is the new parent that is told, and not the one that has ended: here process 1, whose child has not ended
  pub announces_to_new_parent : Runs (given [] (plain ∷ [])) in_session (
      (fork 3, gives 5)
      ∷ (setpgid 3 5 0, gives 0)
      ∷ (kill 3 5 19, gives 0)
      ∷ (Deliver 5, delivers 19 Effect.Stopped)
      ∷ (sigaction 1 17 2 0, gives 0)
      ∷ (sigprocmask 1 0 (only 17), gives 0)
      ∷ (exit 3 0, ends 0)
      ∷ (sigpending 1, signals (only 17))
      ∷ (Deliver 5, delivers 1 (Effect.Ended 1))
      ∷ [])
  -- whatever ends the leader leaves the group orphaned: a kill by a filter
  pub hangs_up_after_filter_kill : Runs (given (for_number 39 0x80000000 ∷ []) []) in_session (
      (kill 2 3 19, gives 0)
      ∷ (Deliver 3, delivers 19 Effect.Stopped)
      ∷ (seccomp 2 1 0 0, gives 0)
      ∷ (getpid 2, Answer.Call 0x80000000 (Ended 31))
      ∷ (Deliver 3, delivers 1 (Effect.Ended 1))
      ∷ [])
  -- the other kill of a filter, and an unknown action
  pub hangs_up_after_other_kills : Runs (given (for_number 39 0 ∷ for_number 110 0x12340000 ∷ []) []) in_session (
      (seccomp 2 1 0 0, gives 0)
      ∷ (fork 4, gives 5)
      ∷ (setpgid 4 5 0, gives 0)
      ∷ (kill 2 3 19, gives 0)
      ∷ (Deliver 3, delivers 19 Effect.Stopped)
      ∷ (kill 2 5 19, gives 0)
      ∷ (Deliver 5, delivers 19 Effect.Stopped)
      ∷ (getpid 2, Answer.Call 0 (Ended 31))
      ∷ (Deliver 3, delivers 1 (Effect.Ended 1))
      ∷ (seccomp 4 1 0 1, gives 0)
      ∷ (getppid 4, Answer.Call 0x12340000 (Ended 31))
      ∷ (Deliver 5, delivers 1 (Effect.Ended 1))
      ∷ [])
  -- a fault of its own
  pub hangs_up_after_crash : Runs nothing_given in_session (
      (kill 2 3 19, gives 0)
      ∷ (Deliver 3, delivers 19 Effect.Stopped)
      ∷ (Fault 2, crashes)
      ∷ (Deliver 3, delivers 1 (Effect.Ended 1))
      ∷ [])
  -- a signal
  pub hangs_up_after_signal : Runs nothing_given in_session (
      (kill 2 3 19, gives 0)
      ∷ (Deliver 3, delivers 19 Effect.Stopped)
      ∷ (kill 1 2 9, gives 0)
      ∷ (Deliver 2, delivers 9 (Effect.Ended 9))
      ∷ (Deliver 3, delivers 1 (Effect.Ended 1))
      ∷ [])
  -- and a signal that finds no room for its handler's frame
  pub hangs_up_without_room_for_frame : Runs (given [] (plain ∷ [])) leader_with_sixteen (
      (kill 2 2 10, gives 0)
      ∷ (Deliver 2, delivers 10 (Effect.Ended 11))
      ∷ (Deliver 3, delivers 1 (Effect.Ended 1))
      ∷ [])
  pub halt_hangs_up_nobody : HaltHangsUpNobody
