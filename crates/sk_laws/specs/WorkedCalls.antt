-- Runs that are worked out by hand: filters, and the calls on ids, programs and no_new_privs.
use Rattle.std.specs.Prelude.{pos, neg_ℤ, [], ◌∷◌, List}
use Rattle.sk_laws.specs.Common.{Answer, Returned, Told, Ids, Ended, Reason, Resume, Eperm, Enoent, Eacces, Efault, Einval, Enosys, Eopnotsupp, opening, Happening}
use Rattle.sk_laws.specs.Scripts.{nothing_given, given, plain, set_user_id, always, for_number, minus, getpid, fork, execve, wait4, getuid, setuid, geteuid, getppid, setresuid, getresuid, prctl, exit_group, seccomp, call, allowed, gives, fails, waits, told, ends, executed, refused, resumes, not_now, Runs}

-- no_new_privs lets a user attach a filter, which execve(2) and fork(2) keep, and a set-user-ID program
-- then gives no other id
abbrev pub kept_filter : List Happening
kept_filter =
    (setuid 1 1000, gives 0)
    ∷ (seccomp 1 1 0 0, fails Eacces)
    ∷ (prctl 1 38 1 0, gives 0)
    ∷ (seccomp 1 1 0 0, gives 0)
    ∷ (fork 1, gives 2)
    ∷ (execve 2 2, executed)
    ∷ (wait4 1 (minus 1) 0, waits)
    ∷ (geteuid 2, gives 1000)
    ∷ (getppid 2, refused 1)
    ∷ (exit_group 2 0, ends 0)
    ∷ (Resume 1, resumes (Told 2 0))
    ∷ (exit_group 1 0, ends 0)
    ∷ []

pub record WorkedCalls : Type 0 where
  -- a call that SECCOMP_RET_ERRNO refuses is not performed, and the others are
  pub answers_errno : Runs (given (for_number 110 0x00050001 ∷ []) (plain ∷ [])) opening (
      (seccomp 1 1 0 0, gives 0)
      ∷ (getppid 1, refused 1)
      ∷ (getpid 1, gives 1)
      ∷ (exit_group 1 0, ends 0)
      ∷ (getpid 1, not_now Reason.Halted)
      ∷ [])
  -- the data of SECCOMP_RET_ERRNO are the error, at most 4095
  pub answers_no_errno : Runs (given (for_number 39 0x00050000 ∷ []) []) opening ((seccomp 1 1 0 0, gives 0) ∷ (getpid 1, refused 0) ∷ [])
  -- a greater error is answered as 4095
  pub answers_greatest_errno : Runs (given (for_number 39 0x0005ffff ∷ []) []) opening (
      (seccomp 1 1 0 0, gives 0)
      ∷ (getpid 1, Answer.Call 0x0005ffff (Returned (neg_ℤ (pos 4095))))
      ∷ [])
  -- an unknown action ends the process, here process 1
  pub ends_by_unknown_action : Runs (given (for_number 39 0x00060000 ∷ []) []) opening (
      (seccomp 1 1 0 0, gives 0)
      ∷ (getpid 1, Answer.Call 0x00060000 (Ended 0x1f))
      ∷ (getpid 1, not_now Reason.Halted)
      ∷ [])
  -- what every other action does to a child that it meets
  pub actions_on_children : Runs (given
      (for_number 39 0x80000000 ∷ for_number 39 0 ∷ for_number 39 0x7fc00000 ∷ for_number 39 0x7ff00000 ∷ for_number 39 0x7ffc0000 ∷ [])
      []) opening (
      (fork 1, gives 2)
      ∷ (seccomp 2 1 0 0, gives 0)
      ∷ (getpid 2, Answer.Call 0x80000000 (Ended 0x1f))
      ∷ (wait4 1 2 0, told 2 0x1f)
      ∷ (fork 1, gives 3)
      ∷ (seccomp 3 1 0 1, gives 0)
      ∷ (getpid 3, Answer.Call 0 (Ended 0x1f))
      ∷ (wait4 1 3 0, told 3 0x1f)
      ∷ (fork 1, gives 4)
      ∷ (seccomp 4 1 0 2, gives 0)
      ∷ (getpid 4, Answer.Call 0x7fc00000 (Returned (neg_ℤ (pos 38))))
      ∷ (fork 1, gives 5)
      ∷ (seccomp 5 1 0 3, gives 0)
      ∷ (getpid 5, Answer.Call 0x7ff00000 (Returned (neg_ℤ (pos 38))))
      ∷ (fork 1, gives 6)
      ∷ (seccomp 6 1 0 4, gives 0)
      ∷ (getpid 6, Answer.Call 0x7ffc0000 (Returned (pos 6)))
      ∷ [])
  -- of several filters the one whose action has precedence decides, and among equal ones the newest
  pub judges_by_all_filters :
      Runs (given (for_number 39 0x00050002 ∷ for_number 39 0x00050001 ∷ for_number 39 0x7ffc0000 ∷ []) []) opening (
      (seccomp 1 1 0 0, gives 0)
      ∷ (seccomp 1 1 0 1, gives 0)
      ∷ (seccomp 1 1 0 2, gives 0)
      ∷ (getpid 1, refused 1)
      ∷ (getppid 1, gives 0)
      ∷ [])
  -- these are its answers
  pub keeps_filter_through_exec : Runs (given (for_number 110 0x00050001 ∷ []) (plain ∷ plain ∷ set_user_id 0 ∷ [])) opening kept_filter
  -- without no_new_privs a set-user-ID program gives its owner's id
  pub takes_owner : Runs (given [] (plain ∷ set_user_id 7 ∷ [])) opening (
      (setuid 1 1000, gives 0)
      ∷ (execve 1 1, executed)
      ∷ (getresuid 1, allowed (Ids 1000 7 7))
      ∷ (execve 1 0, executed)
      ∷ (geteuid 1, gives 7)
      ∷ (execve 1 2, fails Enoent)
      ∷ [])
  -- every execve(2) copies the effective id to the saved one
  pub saves_effective_id : Runs (given [] (plain ∷ [])) opening (
      (setresuid 1 0 5 7, gives 0)
      ∷ (getresuid 1, allowed (Ids 0 5 7))
      ∷ (execve 1 0, executed)
      ∷ (getresuid 1, allowed (Ids 0 5 5))
      ∷ [])
  -- an unprivileged process moves among its three ids
  pub moves_among_its_ids : Runs nothing_given opening (
      (setuid 1 4294967295, fails Einval)
      ∷ (setresuid 1 1000 1001 1002, gives 0)
      ∷ (setresuid 1 1002 1000 4294967295, gives 0)
      ∷ (getresuid 1, allowed (Ids 1002 1000 1002))
      ∷ (setuid 1 1001, fails Eperm)
      ∷ (setresuid 1 1002 1001 1002, fails Eperm)
      ∷ (setuid 1 1002, gives 0)
      ∷ (getresuid 1, allowed (Ids 1002 1002 1002))
      ∷ (getuid 1, gives 1002)
      ∷ (geteuid 1, gives 1002)
      ∷ [])
  -- what prctl(2) and seccomp(2) tell, and what they refuse
  pub asks_for_modes : Runs (given (always 0x7fff0000 ∷ []) []) opening (
      (prctl 1 21 0 0, gives 0)
      ∷ (prctl 1 22 2 0, gives 0)
      ∷ (prctl 1 21 0 0, gives 2)
      ∷ (prctl 1 38 1 1, fails Einval)
      ∷ (prctl 1 22 1 0, fails Einval)
      ∷ (prctl 1 22 4294967298 0, fails Einval)
      ∷ (prctl 1 39 0 0, gives 0)
      ∷ (prctl 1 38 1 0, gives 0)
      ∷ (prctl 1 39 0 0, gives 1)
      ∷ (prctl 1 39 1 0, fails Einval)
      ∷ (prctl 1 36 1 0, fails Einval)
      ∷ [])
  -- which actions seccomp(2) has, and what it refuses to tell; a call without a meaning fails with ENOSYS
  pub asks_for_actions : Runs nothing_given opening (
      (seccomp 1 2 0 0x7fc00000, gives 0)
      ∷ (seccomp 1 2 0 0x80000000, gives 0)
      ∷ (seccomp 1 2 0 0x00060000, fails Eopnotsupp)
      ∷ (seccomp 1 2 0 0x7fff0001, fails Eopnotsupp)
      ∷ (seccomp 1 2 1 0x7fff0000, fails Einval)
      ∷ (seccomp 1 0 0 0, fails Einval)
      ∷ (call 1 999 0 0 0, fails Enosys)
      ∷ [])
  -- the refusals of an attach in their order: flags, an image that is not declared, one without whole
  -- instructions, a user without no_new_privs, a filter that is not valid
  pub refuses_to_attach : Runs (given ([] ∷ (6 ∷ 0 ∷ 0 ∷ []) ∷ (0x30 ∷ 0 ∷ 0 ∷ 0 ∷ 0 ∷ 0 ∷ 0 ∷ 0 ∷ []) ∷ []) []) opening (
      (seccomp 1 1 1 3, fails Einval)
      ∷ (seccomp 1 1 0 3, fails Efault)
      ∷ (seccomp 1 1 0 0, fails Einval)
      ∷ (seccomp 1 1 0 2, fails Einval)
      ∷ (setuid 1 1000, gives 0)
      ∷ (seccomp 1 1 0 0, fails Einval)
      ∷ (seccomp 1 1 0 1, fails Einval)
      ∷ (seccomp 1 1 0 2, fails Eacces)
      ∷ (seccomp 1 1 0 3, fails Efault)
      ∷ [])
