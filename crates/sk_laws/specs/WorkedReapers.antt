-- Runs that are worked out by hand: subreapers, prctl(2), PR_SET_CHILD_SUBREAPER.
use Rattle.std.specs.Prelude.{◌+◌, ◌^◌, [], ◌∷◌, List}
use Rattle.sk_laws.specs.Common.{Esrch, Echild, Einval, opening, Told, Effect, Reason, Deliver, Resume, Images, Happening}
use Rattle.sk_laws.specs.Scripts.{given, given_with_subreapers, plain, call_with, minus, only, sigaction, sigprocmask, getpid, fork, execve, exit, wait4, kill, setpgid, getppid, setsid, getpgid, sigpending, prctl, exit_group, gives, fails, waits, told, ends, executed, signals, resumes, delivers, not_now, Runs, after}
use Rattle.sk_laws.specs.WorkedTurns.{TakesTurns}

-- a server that marks itself gets the orphans of its children, and tells their ends
abbrev pub server : List Happening
server =
    (fork 1, gives 2)
    ∷ (prctl 2 36 1 0, gives 0)
    ∷ (wait4 1 (minus 1) 0, waits)
    ∷ (fork 2, gives 3)
    ∷ (fork 3, gives 4)
    ∷ (getppid 4, gives 3)
    ∷ (wait4 2 (minus 1) 0, waits)
    ∷ (exit 3 1, ends 0x0100)
    ∷ (getppid 4, gives 2)
    ∷ (Resume 2, resumes (Told 3 0x0100))
    ∷ (exit 4 2, ends 0x0200)
    ∷ (wait4 2 (minus 1) 0, told 4 0x0200)
    ∷ (exit_group 2 0, ends 0)
    ∷ (Resume 1, resumes (Told 2 0))
    ∷ (exit_group 1 0, ends 0)
    ∷ []

-- four programs, and subreapers
abbrev pub with_subreapers : Images
with_subreapers = given_with_subreapers [] (plain ∷ plain ∷ plain ∷ plain ∷ [])

-- the same, and no subreapers
abbrev pub without_subreapers : Images
without_subreapers = given [] (plain ∷ plain ∷ plain ∷ plain ∷ [])

-- where there are no subreapers process 1 gets them
abbrev pub unmarked : List Happening
unmarked =
    (fork 1, gives 2)
    ∷ (prctl 2 36 1 0, fails Einval)
    ∷ (wait4 1 (minus 1) 0, waits)
    ∷ (fork 2, gives 3)
    ∷ (fork 3, gives 4)
    ∷ (getppid 4, gives 3)
    ∷ (wait4 2 (minus 1) 0, waits)
    ∷ (exit 3 1, ends 0x0100)
    ∷ (getppid 4, gives 1)
    ∷ (Resume 2, resumes (Told 3 0x0100))
    ∷ (exit 4 2, ends 0x0200)
    ∷ (Resume 1, resumes (Told 4 0x0200))
    ∷ (wait4 2 (minus 1) 0, fails Echild)
    ∷ []

-- the numbers mean nothing then, to process 1 as well
abbrev pub HasNoSubreapers : Type 0
HasNoSubreapers = Runs without_subreapers opening ((prctl 1 36 1 0, fails Einval) ∷ (prctl 1 37 0 0, fails Einval) ∷ [])

-- a subreaper in the session keeps the groups of its orphans tied to it, so that nobody hangs them up
abbrev pub session_of_three : List Happening
session_of_three =
    (fork 1, gives 2)
    ∷ (setsid 2, gives 2)
    ∷ (fork 2, gives 3)
    ∷ (fork 3, gives 4)
    ∷ (setpgid 3 4 0, gives 0)
    ∷ (kill 3 4 19, gives 0)
    ∷ (Deliver 4, delivers 19 Effect.Stopped)
    ∷ []

pub record WorkedReapers : Type 0 where
  -- these are its answers
  pub reaps_for_server : Runs with_subreapers opening server
  -- and its turns
  pub turns_of_server : TakesTurns with_subreapers server
  -- these are its answers
  pub reaps_for_init : Runs without_subreapers opening unmarked
  pub has_no_subreapers : HasNoSubreapers
  -- a child has no mark, and execve(2) keeps it
  pub keeps_mark_through_exec : Runs with_subreapers opening (
      (prctl 1 37 0 0, gives 0)
      ∷ (prctl 1 36 1 0, gives 0)
      ∷ (prctl 1 37 0 0, gives 1)
      ∷ (fork 1, gives 2)
      ∷ (prctl 2 37 0 0, gives 0)
      ∷ (execve 1 0, executed)
      ∷ (prctl 1 37 0 0, gives 1)
      ∷ [])
  -- any number but 0, of all 64 bits, sets the mark, 0 clears it, and the other arguments do not matter
  pub sets_and_clears_mark : Runs with_subreapers opening (
      (prctl 1 36 (2 ^ 32) 9, gives 0)
      ∷ (call_with 1 157 (37 ∷ 7 ∷ 7 ∷ 7 ∷ 7 ∷ 7 ∷ []), gives 1)
      ∷ (call_with 1 157 (36 ∷ 0 ∷ 7 ∷ 7 ∷ 7 ∷ 7 ∷ []), gives 0)
      ∷ (prctl 1 37 0 0, gives 0)
      ∷ (prctl 1 (2 ^ 32 + 36) 2 0, gives 0)
      ∷ (prctl 1 37 0 0, gives 1)
      ∷ [])
  -- of two marked ancestors the nearer one gets the orphan, and when it ends the other; a mark of one's own does
  -- not count
  pub reaps_for_nearest : Runs with_subreapers opening (
      (fork 1, gives 2)
      ∷ (prctl 2 36 1 0, gives 0)
      ∷ (fork 2, gives 3)
      ∷ (prctl 3 36 1 0, gives 0)
      ∷ (fork 3, gives 4)
      ∷ (fork 4, gives 5)
      ∷ (fork 5, gives 6)
      ∷ (exit 5 0, ends 0)
      ∷ (getppid 6, gives 3)
      ∷ (exit 4 0, ends 0)
      ∷ (exit 3 0, ends 0)
      ∷ (getppid 6, gives 2)
      ∷ (exit 2 0, ends 0)
      ∷ (getppid 6, gives 1)
      ∷ [])
  -- one that has cleared its mark gets no orphans any more, and keeps those that it has
  pub clears_mark : Runs with_subreapers opening (
      (fork 1, gives 2)
      ∷ (prctl 2 36 1 0, gives 0)
      ∷ (fork 2, gives 3)
      ∷ (fork 3, gives 4)
      ∷ (fork 2, gives 5)
      ∷ (fork 5, gives 6)
      ∷ (exit 3 0, ends 0)
      ∷ (getppid 4, gives 2)
      ∷ (prctl 2 36 0 0, gives 0)
      ∷ (getppid 4, gives 2)
      ∷ (exit 5 0, ends 0)
      ∷ (getppid 6, gives 1)
      ∷ [])
  -- a subreaper that is stopped gets them all the same
  pub reaps_while_stopped : Runs with_subreapers opening (
      (fork 1, gives 2)
      ∷ (prctl 2 36 1 0, gives 0)
      ∷ (fork 2, gives 3)
      ∷ (fork 3, gives 4)
      ∷ (kill 1 2 19, gives 0)
      ∷ (Deliver 2, delivers 19 Effect.Stopped)
      ∷ (exit 3 0, ends 0)
      ∷ (getppid 4, gives 2)
      ∷ (getpid 2, not_now Reason.Stopped)
      ∷ [])
  -- a zombie among the orphans is the subreaper's to wait for, though process 1 ignores SIGCHLD
  pub hands_zombie_to_reaper : Runs with_subreapers opening (
      (fork 1, gives 2)
      ∷ (sigaction 1 17 1 0, gives 0)
      ∷ (prctl 2 36 1 0, gives 0)
      ∷ (fork 2, gives 3)
      ∷ (fork 3, gives 4)
      ∷ (exit 4 5, ends 0x0500)
      ∷ (exit 3 0, ends 0)
      ∷ (wait4 2 4 0, told 4 0x0500)
      ∷ [])
  -- and goes where the subreaper ignores SIGCHLD, though process 1 does not
  pub leaves_reaper_no_zombies : Runs with_subreapers opening (
      (fork 1, gives 2)
      ∷ (prctl 2 36 1 0, gives 0)
      ∷ (fork 2, gives 3)
      ∷ (fork 3, gives 4)
      ∷ (exit 4 5, ends 0x0500)
      ∷ (sigaction 2 17 1 0, gives 0)
      ∷ (exit 3 0, ends 0)
      ∷ (getpgid 1 4, fails Esrch)
      ∷ (getpgid 1 3, fails Esrch)
      ∷ [])
  -- it is announced to the subreaper that there is a zombie among the orphans, and not to process 1
  pub announces_to_reaper : Runs with_subreapers opening (
      (sigaction 1 17 2 0, gives 0)
      ∷ (sigprocmask 1 0 (only 17), gives 0)
      ∷ (fork 1, gives 2)
      ∷ (prctl 2 36 1 0, gives 0)
      ∷ (fork 2, gives 3)
      ∷ (fork 3, gives 4)
      ∷ (fork 4, gives 5)
      ∷ (exit 5 0, ends 0)
      ∷ (exit 4 0, ends 0)
      ∷ (sigpending 1, signals 0)
      ∷ (sigpending 2, signals (only 17))
      ∷ (sigpending 3, signals (only 17))
      ∷ (wait4 2 5 0, told 5 0)
      ∷ [])
  -- with the mark the orphan stays stopped
  pub reaper_ties_group : Runs with_subreapers (after with_subreapers opening session_of_three) (
      (prctl 2 36 1 0, gives 0)
      ∷ (exit 3 0, ends 0)
      ∷ (getpid 4, not_now Reason.Stopped)
      ∷ (exit 2 0, ends 0)
      ∷ (Deliver 4, delivers 1 (Effect.Ended 1))
      ∷ [])
  -- without it the orphan is hung up at once
  pub init_ties_no_group : Runs with_subreapers (after with_subreapers opening session_of_three) (
      (exit 3 0, ends 0)
      ∷ (Deliver 4, delivers 1 (Effect.Ended 1))
      ∷ [])
  -- a subreaper that ignores SIGCHLD is told nothing of a zombie among its orphans: the zombie has gone
  pub tells_ignorer_of_no_orphan : Runs with_subreapers opening (
      (fork 1, gives 2)
      ∷ (prctl 2 36 1 0, gives 0)
      ∷ (sigaction 2 17 1 0, gives 0)
      ∷ (sigprocmask 2 0 (only 17), gives 0)
      ∷ (fork 2, gives 3)
      ∷ (sigaction 3 17 0 0, gives 0)
      ∷ (fork 3, gives 4)
      ∷ (exit 4 0, ends 0)
      ∷ (exit 3 0, ends 0)
      ∷ (sigpending 2, signals 0)
      ∷ (wait4 2 (minus 1) 1, fails Echild)
      ∷ [])
  -- a mark that is set by a number above 32 bits takes orphans like any other, and that of process 1 takes none from it
  pub marks_by_whole_register : Runs with_subreapers opening (
      (prctl 1 36 (2 ^ 32) 0, gives 0)
      ∷ (fork 1, gives 2)
      ∷ (prctl 2 36 (2 ^ 32) 0, gives 0)
      ∷ (fork 2, gives 3)
      ∷ (fork 3, gives 4)
      ∷ (exit 3 0, ends 0)
      ∷ (getppid 4, gives 2)
      ∷ [])
