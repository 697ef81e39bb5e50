-- Runs that are worked out by hand: process groups, sessions, and whom kill(2) means.
use Rattle.std.specs.Prelude.{◌≡◌, ◌^◌, [], ◌∷◌, List, Some}
use Rattle.sk_laws.specs.Common.{Reason, Eperm, Esrch, Eacces, Einval, Zombie, World, at, first_process, opening, Happening, Images}
use Rattle.sk_laws.specs.Scripts.{nothing_given, given, plain, for_number, minus, sigprocmask, sched_yield, pause, getpid, fork, execve, exit, kill, setuid, setpgid, getpgrp, setsid, getpgid, getsid, sigpending, exit_group, seccomp, gives, fails, waits, ends, executed, signals, refused, not_now, Runs, after}

-- who may signal whom: a user another user's processes not, but SIGCONT within the session
abbrev pub kills_by_ids : List Happening
kills_by_ids =
    (fork 1, gives 2)
    ∷ (kill 2 1 9, gives 0)
    ∷ (fork 1, gives 3)
    ∷ (setuid 2 1000, gives 0)
    ∷ (setuid 3 1001, gives 0)
    ∷ (pause 1, waits)
    ∷ (pause 2, waits)
    ∷ (kill 3 2 15, fails Eperm)
    ∷ (kill 3 2 18, gives 0)
    ∷ (kill 3 (minus 1) 0, fails Eperm)
    ∷ (exit_group 3 0, ends 0)
    ∷ []

-- a child is put into a group of its own, until it has executed another program
abbrev pub regrouping : List Happening
regrouping =
    (setsid 1, fails Eperm)
    ∷ (fork 1, gives 2)
    ∷ (sched_yield 2, gives 0)
    ∷ (setpgid 1 2 0, gives 0)
    ∷ (execve 2 2, executed)
    ∷ (setpgid 1 2 1, fails Eacces)
    ∷ (getpgrp 2, gives 2)
    ∷ (getpgid 1 2, gives 2)
    ∷ (exit_group 2 0, ends 0)
    ∷ (exit_group 1 0, ends 0)
    ∷ []

-- a zombie is in its group and can be meant by a signal, which changes nothing
abbrev pub zombie_in_group : World
zombie_in_group =
    after nothing_given opening ((fork 1, gives 2) ∷ (setpgid 1 2 0, gives 0) ∷ (exit 2 0, ends 0) ∷ [])

-- the signal changes nothing of it, nor of its sender
abbrev pub after_signal : World
after_signal = after nothing_given zombie_in_group ((kill 1 (minus 2) 15, gives 0) ∷ [])

-- a process whose filters refuse kill(2), and its child, leave another one as it is
abbrev pub confinement : List Happening
confinement =
    (fork 1, gives 2)
    ∷ (seccomp 2 1 0 0, gives 0)
    ∷ (fork 2, gives 3)
    ∷ (fork 1, gives 4)
    ∷ []

-- a filter that refuses kill(2)
abbrev pub no_kill : Images
no_kill = given (for_number 62 0x00050001 ∷ []) (plain ∷ [])

-- every kill(2) of the two is refused
abbrev pub confined_kills : List Happening
confined_kills =
    (kill 2 4 9, refused 1)
    ∷ (kill 2 (minus 1) 9, refused 1)
    ∷ (kill 2 0 9, refused 1)
    ∷ (kill 3 4 9, refused 1)
    ∷ (kill 3 (minus 1) 9, refused 1)
    ∷ (kill 3 0 9, refused 1)
    ∷ []

-- they change nothing
abbrev pub ChangesNothingConfined : Type 0
ChangesNothingConfined =
    after no_kill (after no_kill opening confinement) confined_kills ≡ after no_kill opening confinement

pub record WorkedGroups : Type 0 where
  -- these are its answers
  pub kills_by_ids : Runs (given [] (plain ∷ plain ∷ plain ∷ [])) opening kills_by_ids
  -- SIGCONT reaches another user's process within the session, and not beyond it
  pub continues_within_session : Runs nothing_given opening (
      (fork 1, gives 2)
      ∷ (fork 1, gives 3)
      ∷ (fork 1, gives 4)
      ∷ (setsid 4, gives 4)
      ∷ (setuid 2 1000, gives 0)
      ∷ (setuid 3 1001, gives 0)
      ∷ (setuid 4 1002, gives 0)
      ∷ (kill 2 3 18, gives 0)
      ∷ (kill 2 4 18, fails Eperm)
      ∷ (kill 4 3 18, fails Eperm)
      ∷ (kill 2 (minus 1) 18, gives 0)
      ∷ (kill 4 (minus 1) 18, fails Eperm)
      ∷ [])
  -- these are its answers
  pub regroups_child : Runs (given [] (plain ∷ plain ∷ plain ∷ [])) opening regrouping
  -- what setpgid(2) refuses: another session, a group outside the session, no number of a group, a child
  -- that has executed, a process that is no child, and one that leads a session
  pub refuses_to_regroup : Runs (given [] (plain ∷ [])) opening (
      (fork 1, gives 2)
      ∷ (setsid 2, gives 2)
      ∷ (setpgid 1 2 0, fails Eperm)
      ∷ (execve 2 0, executed)
      ∷ (setpgid 1 2 0, fails Eperm)
      ∷ (fork 1, gives 3)
      ∷ (setpgid 1 3 77, fails Eperm)
      ∷ (setpgid 1 3 (minus 5), fails Einval)
      ∷ (setpgid 1 3 0, gives 0)
      ∷ (execve 3 0, executed)
      ∷ (setpgid 1 3 0, fails Eacces)
      ∷ (setpgid 1 999 0, fails Esrch)
      ∷ (setpgid 1 (minus 3) 0, fails Esrch)
      ∷ (setpgid 1 0 0, fails Eperm)
      ∷ [])
  -- a new session has a group of its own, and a child is born into both
  pub founds_session : Runs nothing_given opening (
      (fork 1, gives 2)
      ∷ (getsid 2 0, gives 1)
      ∷ (setsid 2, gives 2)
      ∷ (fork 2, gives 3)
      ∷ (getpgrp 3, gives 2)
      ∷ (getsid 3 0, gives 2)
      ∷ (getsid 1 3, gives 2)
      ∷ (getsid 1 4, fails Esrch)
      ∷ (getpgid 1 (minus 1), fails Esrch)
      ∷ (setsid 2, fails Eperm)
      ∷ (setsid 3, gives 3)
      ∷ [])
  -- groups that nobody is in, and a caller for whom nobody else is there
  pub kills_nobody : Runs nothing_given opening (
      (kill 1 (minus 7) 0, fails Esrch)
      ∷ (kill 1 (minus (2 ^ 31)) 0, fails Esrch)
      ∷ (kill 1 (minus 7) 32, fails Einval)
      ∷ (fork 1, gives 2)
      ∷ (kill 2 (minus 1) 15, fails Esrch)
      ∷ (kill 2 9 0, fails Esrch)
      ∷ [])
  -- a signal for the caller's group, for all, and for another group
  pub kills_groups : Runs nothing_given opening (
      (fork 1, gives 2)
      ∷ (fork 1, gives 3)
      ∷ (setpgid 3 0 0, gives 0)
      ∷ (sigprocmask 2 2 (minus 1), gives 0)
      ∷ (sigprocmask 3 2 (minus 1), gives 0)
      ∷ (kill 2 0 10, gives 0)
      ∷ (kill 1 (minus 3) 12, gives 0)
      ∷ (kill 1 (minus 1) 15, gives 0)
      ∷ (sigpending 2, signals 0x4200)
      ∷ (sigpending 3, signals 0x4800)
      ∷ (kill 3 (minus 1) 3, gives 0)
      ∷ (sigpending 2, signals 0x4204)
      ∷ (sigpending 3, signals 0x4800)
      ∷ (sigpending 1, signals 0)
      ∷ [])
  -- it is found, and cannot act
  pub finds_zombie : Runs nothing_given zombie_in_group (
      (getpgid 1 2, gives 2)
      ∷ (getsid 1 2, gives 1)
      ∷ (kill 1 (minus 2) 15, gives 0)
      ∷ (kill 1 2 0, gives 0)
      ∷ (getpid 2, not_now Reason.Zombie)
      ∷ [])
  -- the zombie is what is left of a child that has done nothing but change its group
  pub leaves_zombie :
      at after_signal 2 ≡ Some (record { links = record { parent = 1; group = 2; session = 1 }; body = record first_process.body { life = Zombie 0 } })
  -- process 1 is as it started
  pub leaves_sender : at after_signal 1 ≡ Some first_process
  -- these are their answers
  pub confines_kill : Runs no_kill (after no_kill opening confinement) confined_kills
  pub changes_nothing_confined : ChangesNothingConfined
  -- and when the two end, the other one is as it was
  pub ends_confined : at (after no_kill (after no_kill opening confinement) ((exit 3 0, ends 0) ∷ (exit 2 0, ends 0) ∷ [])) 4
      ≡ at (after no_kill opening confinement) 4
