-- Runs that are worked out by hand: ends, zombies and wait4(2).
use Rattle.std.specs.Prelude.{◌^◌, [], ◌∷◌, List}
use Rattle.sk_laws.specs.Common.{Told, Effect, Reason, Deliver, Resume, Fault, Esrch, Echild, Einval, opening, Happening}
use Rattle.sk_laws.specs.Scripts.{nothing_given, given, plain, for_number, minus, sigaction, sigreturn, sched_yield, pause, getpid, fork, exit, wait4, kill, setpgid, getppid, getpgid, exit_group, seccomp, gives, fails, waits, told, ends, refused, resumes, resumes_failing, delivers, handles, interrupts, crashes, not_now, Runs}

-- the children of a process that ignores SIGCHLD leave no zombies: its wait4(2) ends with ECHILD
abbrev pub no_zombies : List Happening
no_zombies =
    (sigaction 1 17 1 0, gives 0)
    ∷ (fork 1, gives 2)
    ∷ (sched_yield 2, gives 0)
    ∷ (fork 1, gives 3)
    ∷ (exit 2 3, ends 0x0300)
    ∷ (sched_yield 3, gives 0)
    ∷ (wait4 1 (minus 1) 0, waits)
    ∷ (exit 3 3, ends 0x0300)
    ∷ (Resume 1, resumes_failing Echild)
    ∷ (exit_group 1 0, ends 0)
    ∷ []

-- a handler whose sigreturn(2) is refused cannot go on: a fault of its own ends the process
abbrev pub crash : List Happening
crash =
    (fork 1, gives 2)
    ∷ (sigaction 2 10 4 0, gives 0)
    ∷ (wait4 1 (minus 1) 0, waits)
    ∷ (seccomp 2 1 0 0, gives 0)
    ∷ (kill 2 2 10, gives 0)
    ∷ (Deliver 2, handles 10 2)
    ∷ (sigreturn 2, refused 1)
    ∷ (Fault 2, crashes)
    ∷ (Resume 1, resumes (Told 2 0x000b))
    ∷ (exit_group 1 0, ends 0)
    ∷ []

-- a stop, a continuation and an end are told one after the other
abbrev pub stop_and_continue : List Happening
stop_and_continue =
    (fork 1, gives 2)
    ∷ (kill 2 2 19, gives 0)
    ∷ (wait4 1 (minus 1) 2, waits)
    ∷ (Deliver 2, delivers 19 Effect.Stopped)
    ∷ (Resume 1, resumes (Told 2 0x137f))
    ∷ (kill 1 2 18, gives 0)
    ∷ (pause 2, waits)
    ∷ (wait4 1 (minus 1) 8, told 2 0xffff)
    ∷ (kill 1 2 9, gives 0)
    ∷ (Deliver 2, delivers 9 (Effect.Ended 0x0009))
    ∷ (wait4 1 (minus 1) 0, told 2 0x0009)
    ∷ (exit_group 1 0, ends 0)
    ∷ []

-- a zombie that its parent never waited for is handed to process 1
abbrev pub orphan : List Happening
orphan =
    (fork 1, gives 2)
    ∷ (fork 2, gives 3)
    ∷ (exit 3 2, ends 0x0200)
    ∷ (wait4 1 (minus 1) 0, waits)
    ∷ (exit 2 1, ends 0x0100)
    ∷ (Resume 1, resumes (Told 2 0x0100))
    ∷ (wait4 1 (minus 1) 16, fails Einval)
    ∷ (wait4 1 (minus 1) 0, told 3 0x0200)
    ∷ (exit_group 1 0, ends 0)
    ∷ []

pub record WorkedWaits : Type 0 where
  -- these are its answers
  pub leaves_no_zombies : Runs (given [] (plain ∷ plain ∷ [])) opening no_zombies
  -- these are its answers
  pub crashes : Runs (given (for_number 15 0x00050001 ∷ []) (plain ∷ plain ∷ plain ∷ [])) opening crash
  -- these are its answers
  pub tells_stop_and_continue : Runs (given [] (plain ∷ plain ∷ [])) opening stop_and_continue
  -- these are its answers
  pub hands_zombie_on : Runs (given [] (plain ∷ plain ∷ plain ∷ [])) opening orphan
  -- a zombie that is handed to a process 1 that ignores SIGCHLD goes, and a child that lives has process 1
  -- for its parent
  pub hands_children_on : Runs nothing_given opening (
      (sigaction 1 17 1 0, gives 0)
      ∷ (fork 1, gives 2)
      ∷ (sigaction 2 17 0 0, gives 0)
      ∷ (fork 2, gives 3)
      ∷ (fork 2, gives 4)
      ∷ (exit 3 0, ends 0)
      ∷ (exit 2 0, ends 0)
      ∷ (getppid 4, gives 1)
      ∷ (getpgid 4 3, fails Esrch)
      ∷ (getpgid 4 2, fails Esrch)
      ∷ [])
  -- what wait4(2) refuses, and whom it asks for
  pub refuses_to_wait : Runs nothing_given opening (
      (wait4 1 (minus (2 ^ 31)) 0, fails Esrch)
      ∷ (wait4 1 (minus (2 ^ 31)) 16, fails Einval)
      ∷ (wait4 1 (minus 1) 0, fails Echild)
      ∷ (fork 1, gives 2)
      ∷ (wait4 1 (minus 1) 1, gives 0)
      ∷ (wait4 1 0 1, gives 0)
      ∷ (wait4 1 2 1, gives 0)
      ∷ (wait4 1 3 1, fails Echild)
      ∷ (wait4 1 (minus 2) 1, fails Echild)
      ∷ (setpgid 2 0 0, gives 0)
      ∷ (wait4 1 0 1, fails Echild)
      ∷ (wait4 1 (minus 2) 1, gives 0)
      ∷ (exit 2 256, ends 0)
      ∷ (wait4 1 (minus 2) 1, told 2 0)
      ∷ (wait4 1 (minus 1) 1, fails Echild)
      ∷ [])
  -- a handler for SIGCHLD interrupts a wait4(2), and the next one tells
  pub interrupts_wait : Runs (given [] (plain ∷ plain ∷ [])) opening (
      (sigaction 1 17 3 0, gives 0)
      ∷ (fork 1, gives 2)
      ∷ (wait4 1 (minus 1) 0, waits)
      ∷ (exit 2 5, ends 0x0500)
      ∷ (Resume 1, not_now Reason.SignalFirst)
      ∷ (Deliver 1, interrupts 17 1)
      ∷ (wait4 1 (minus 1) 0, told 2 0x0500)
      ∷ [])
  -- who was stopped and continued before anybody asked was continued
  pub tells_continuation_once : Runs nothing_given opening (
      (fork 1, gives 2)
      ∷ (kill 1 2 19, gives 0)
      ∷ (Deliver 2, delivers 19 Effect.Stopped)
      ∷ (kill 1 2 18, gives 0)
      ∷ (wait4 1 (minus 1) 3, gives 0)
      ∷ (wait4 1 (minus 1) 11, told 2 0xffff)
      ∷ (wait4 1 (minus 1) 11, gives 0)
      ∷ [])
  -- SIGCONT for a process that runs is no continuation
  pub tells_no_continuation : Runs nothing_given opening ((fork 1, gives 2) ∷ (kill 1 2 18, gives 0) ∷ (wait4 1 2 9, gives 0) ∷ [])
  -- a process that stops in a wait4(2) goes on waiting in it
  pub waits_while_stopped : Runs nothing_given opening (
      (fork 1, gives 2)
      ∷ (fork 2, gives 3)
      ∷ (wait4 2 (minus 1) 0, waits)
      ∷ (kill 1 2 19, gives 0)
      ∷ (Deliver 2, delivers 19 Effect.Stopped)
      ∷ (exit 3 0, ends 0)
      ∷ (Resume 2, not_now Reason.Stopped)
      ∷ (kill 1 2 18, gives 0)
      ∷ (Resume 2, resumes (Told 3 0))
      ∷ [])
  -- once an end was told, the process is there for nobody
  pub tells_end_once : Runs nothing_given opening (
      (fork 1, gives 2)
      ∷ (exit 2 0, ends 0)
      ∷ (wait4 1 2 0, told 2 0)
      ∷ (wait4 1 2 0, fails Echild)
      ∷ (getpid 2, not_now Reason.NoProcess)
      ∷ (Deliver 2, not_now Reason.NoProcess)
      ∷ (Resume 2, not_now Reason.NoProcess)
      ∷ (Fault 2, not_now Reason.NoProcess)
      ∷ [])
  -- the lowest child that has anything to tell is told first, also where it has only stopped and another one has ended
  pub tells_lowest_first : Runs nothing_given opening (
      (fork 1, gives 2)
      ∷ (fork 1, gives 3)
      ∷ (kill 1 2 19, gives 0)
      ∷ (Deliver 2, delivers 19 Effect.Stopped)
      ∷ (exit 3 0, ends 0)
      ∷ (wait4 1 (minus 1) 2, told 2 0x137f)
      ∷ (wait4 1 (minus 1) 2, told 3 0)
      ∷ [])
  -- of a child that has stopped and then ended, and was not told of, the end is told, and nothing else
  pub tells_end_in_place_of_stop : Runs nothing_given opening (
      (fork 1, gives 2)
      ∷ (kill 1 2 19, gives 0)
      ∷ (Deliver 2, delivers 19 Effect.Stopped)
      ∷ (kill 1 2 9, gives 0)
      ∷ (Deliver 2, delivers 9 (Effect.Ended 9))
      ∷ (wait4 1 (minus 1) 2, told 2 9)
      ∷ (wait4 1 (minus 1) 2, fails Echild)
      ∷ [])
  -- a stop that was not told goes with the child to its new parent
  pub hands_stop_on : Runs nothing_given opening (
      (fork 1, gives 2)
      ∷ (fork 2, gives 3)
      ∷ (kill 1 3 19, gives 0)
      ∷ (Deliver 3, delivers 19 Effect.Stopped)
      ∷ (exit 2 0, ends 0)
      ∷ (wait4 1 3 2, told 3 0x137f)
      ∷ [])
