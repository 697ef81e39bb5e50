-- Runs that are worked out by hand: which arguments a call takes as 32 bits, by its C type in the manual, and
-- which as a whole register.
use Rattle.std.specs.Prelude.{◌+◌, ◌-◌, ◌^◌, [], ◌∷◌}
use Rattle.sk_laws.specs.Common.{Enoent, Efault, Einval, opening, Ids, Effect, Deliver}
use Rattle.sk_laws.specs.Scripts.{nothing_given, given, plain, always, call_with, minus, sigaction, sigprocmask, getpid, fork, execve, exit, wait4, kill, setuid, setpgid, setresuid, getresuid, getpgid, getsid, prctl, exit_group, seccomp, allowed, gives, fails, ends, executed, delivers, handles, Runs}

pub record WorkedWidths : Type 0 where
  -- kill(2): the process and the signal are ints
  pub kill_takes_ints : Runs nothing_given opening (
      (fork 1, gives 2)
      ∷ (kill 1 (2 ^ 32 + 2) (2 ^ 32), gives 0)
      ∷ (getpid 2, gives 2)
      ∷ (kill 1 (2 ^ 32 + 2) (2 ^ 32 + 15), gives 0)
      ∷ (Deliver 2, delivers 15 (Effect.Ended 15))
      ∷ [])
  -- setpgid(2), getpgid(2), getsid(2): processes and groups are ints
  pub group_calls_take_ints : Runs nothing_given opening (
      (fork 1, gives 2)
      ∷ (getpgid 1 (2 ^ 32), gives 1)
      ∷ (getsid 2 (2 ^ 32 + 1), gives 1)
      ∷ (setpgid 1 (2 ^ 32 + 2) (2 ^ 32), gives 0)
      ∷ (getpgid 1 2, gives 2)
      ∷ [])
  -- wait4(2): whom it asks for and the options are ints
  pub wait_takes_ints : Runs nothing_given opening (
      (fork 1, gives 2)
      ∷ (wait4 1 (minus 1) (2 ^ 32 + 1), gives 0)
      ∷ (wait4 1 (2 ^ 32 + 2) 1, gives 0)
      ∷ (wait4 1 (2 ^ 32 - 1) 1, gives 0)
      ∷ [])
  -- execve(2): the program is a whole register
  pub execve_takes_whole : Runs (given [] (plain ∷ [])) opening (
      (execve 1 (2 ^ 32), fails Enoent)
      ∷ (execve 1 0, executed)
      ∷ [])
  -- seccomp(2): the operation and the flags are unsigned ints, the image is a whole register, the action asked
  -- for a number of 32 bits
  pub seccomp_takes_ints : Runs (given (always 0x7fff0000 ∷ []) []) opening (
      (seccomp 1 (2 ^ 32 + 1) (2 ^ 32) (2 ^ 32), fails Efault)
      ∷ (prctl 1 21 0 0, gives 0)
      ∷ (seccomp 1 (2 ^ 32 + 1) (2 ^ 32) 0, gives 0)
      ∷ (prctl 1 21 0 0, gives 2)
      ∷ (seccomp 1 (2 ^ 32 + 2) (2 ^ 32) (2 ^ 32 + 0x30000), gives 0)
      ∷ [])
  -- prctl(2): the option is an int, and every other argument a whole register. PR_SET_NO_NEW_PRIVS and
  -- PR_GET_NO_NEW_PRIVS mind all of them, PR_GET_SECCOMP none
  pub prctl_takes_int_and_wholes : Runs (given (always 0x7fff0000 ∷ []) []) opening (
      (prctl 1 38 (2 ^ 32 + 1) 0, fails Einval)
      ∷ (call_with 1 157 (38 ∷ 1 ∷ 0 ∷ 0 ∷ 1 ∷ 0 ∷ []), fails Einval)
      ∷ (call_with 1 157 (38 ∷ 1 ∷ 0 ∷ 1 ∷ 0 ∷ 0 ∷ []), fails Einval)
      ∷ (prctl 1 (2 ^ 32 + 38) 1 0, gives 0)
      ∷ (call_with 1 157 (39 ∷ 0 ∷ 0 ∷ 0 ∷ 2 ^ 32 ∷ 0 ∷ []), fails Einval)
      ∷ (call_with 1 157 (39 ∷ 0 ∷ 0 ∷ 0 ∷ 0 ∷ 1 ∷ []), gives 1)
      ∷ (prctl 1 22 2 (2 ^ 32), fails Efault)
      ∷ (call_with 1 157 (21 ∷ 9 ∷ 9 ∷ 9 ∷ 9 ∷ 9 ∷ []), gives 0)
      ∷ (prctl 1 22 2 0, gives 0)
      ∷ (call_with 1 157 (21 ∷ 9 ∷ 9 ∷ 9 ∷ 9 ∷ 9 ∷ []), gives 2)
      ∷ [])
  -- sigprocmask(2): how it is set is an int, the set a whole register
  pub mask_takes_int_and_set : Runs nothing_given opening (
      (sigprocmask 1 (2 ^ 32 + 1) (2 ^ 32), gives 0)
      ∷ (sigprocmask 1 (2 ^ 32 + 3) 0, fails Einval)
      ∷ [])
  -- sigaction(2): the signal is an int, the handler a whole register
  pub sigaction_takes_int_and_whole : Runs nothing_given opening (
      (sigaction 1 (2 ^ 32 + 10) (2 ^ 32) 0, gives 0)
      ∷ (kill 1 1 10, gives 0)
      ∷ (Deliver 1, handles 10 4294967294)
      ∷ [])
  -- setuid(2), setresuid(2): ids are numbers of 32 bits, and -1 leaves one as it is
  pub ids_are_ints : Runs nothing_given opening (
      (setresuid 1 (2 ^ 32 + 4294967295) (2 ^ 32 + 7) 4294967295, gives 0)
      ∷ (getresuid 1, allowed (Ids 0 7 0))
      ∷ (setuid 1 (2 ^ 33), gives 0)
      ∷ (getresuid 1, allowed (Ids 0 0 0))
      ∷ (setresuid 1 5 0 0, gives 0)
      ∷ (setuid 1 (2 ^ 33 + 6), gives 0)
      ∷ (getresuid 1, allowed (Ids 6 6 6))
      ∷ [])
  -- exit(2): the low eight bits of the code are told
  pub exit_takes_low_byte : Runs nothing_given opening (
      (fork 1, gives 2)
      ∷ (exit 2 (2 ^ 32 + 257), ends 0x100)
      ∷ (exit_group 1 (2 ^ 32 + 513), ends 0x100)
      ∷ [])
