-- Runs that are worked out by hand: what a call changes of its process, and what it leaves.
use Rattle.std.specs.Prelude.{◌≡◌, ◌^◌, [], ◌∷◌, List, Some}
use Rattle.sk_laws.specs.Common.{Eperm, Einval, Handler, signals_of, disposition_of, World, at, opening, Effect, Reason, Deliver, Happening, option_map}
use Rattle.sk_laws.specs.Scripts.{nothing_given, given, plain, call_with, minus, only, sigaction, sigprocmask, sigreturn, getpid, fork, wait4, kill, getuid, setuid, geteuid, setpgid, getppid, setresuid, sigpending, prctl, gives, fails, told, signals, delivers, handles, not_now, Runs, after}
use Rattle.sk_laws.specs.WorkedSignals.{mask_at}

-- SIG_BLOCK adds to the mask, SIG_UNBLOCK takes from it, and SIG_SETMASK replaces it: sigprocmask(2)
abbrev pub two_blocks : List Happening
two_blocks = (sigprocmask 1 0 0x200, gives 0) ∷ (sigprocmask 1 0 0x4, gives 0) ∷ []

-- signal 0 is sent to nobody: one who is stopped stays so, and nothing else is changed: kill(2)
abbrev pub stopped_one : World
stopped_one = after nothing_given opening ((fork 1, gives 2) ∷ (kill 1 2 19, gives 0) ∷ (Deliver 2, delivers 19 Effect.Stopped) ∷ [])

pub record WorkedStates : Type 0 where
  -- both are blocked
  pub adds_to_mask : mask_at (after nothing_given opening two_blocks) 1 ≡ Some (signals_of 0x204)
  -- one of them is unblocked, and another one that was not blocked
  pub takes_from_mask : mask_at (after nothing_given (after nothing_given opening two_blocks) ((sigprocmask 1 1 0x210, gives 0) ∷ [])) 1
      ≡ Some (signals_of 0x4)
  -- the mask is another one
  pub replaces_mask : mask_at (after nothing_given (after nothing_given opening two_blocks) ((sigprocmask 1 2 0x210, gives 0) ∷ [])) 1
      ≡ Some (signals_of 0x210)
  -- neither a handler's mask nor the mask while it runs has SIGKILL and SIGSTOP: sigaction(2)
  pub keeps_kill_out_of_handlers :
      option_map (λ p. disposition_of p.body.signals 10) (at (after (given [] (plain ∷ [])) opening ((sigaction 1 10 2 (minus 1), gives 0) ∷ [])) 1)
      ≡ Some (Handler 0 (signals_of 0x7ffbfeff))
  -- a handler within a handler: each return gives the mask back that was there when its handler began
  pub returns_one_by_one : Runs (given [] (plain ∷ plain ∷ [])) opening (
      (sigaction 1 10 2 0, gives 0)
      ∷ (sigaction 1 12 3 0, gives 0)
      ∷ (kill 1 1 10, gives 0)
      ∷ (Deliver 1, handles 10 0)
      ∷ (kill 1 1 12, gives 0)
      ∷ (Deliver 1, handles 12 1)
      ∷ (kill 1 1 12, gives 0)
      ∷ (kill 1 1 10, gives 0)
      ∷ (getpid 1, gives 1)
      ∷ (sigreturn 1, gives 0)
      ∷ (Deliver 1, handles 12 1)
      ∷ (sigreturn 1, gives 0)
      ∷ (sigreturn 1, gives 0)
      ∷ (Deliver 1, handles 10 0)
      ∷ (sigreturn 1, gives 0)
      ∷ (sigreturn 1, fails Einval)
      ∷ [])
  -- what is blocked is pending though it is ignored, and delivered it comes to nothing; so does SIGCONT, which
  -- has continued nobody: signal(7)
  pub ignores_what_was_blocked : Runs nothing_given opening (
      (fork 1, gives 2)
      ∷ (sigprocmask 2 0 (only 18), gives 0)
      ∷ (sigprocmask 2 0 (only 10), gives 0)
      ∷ (sigaction 2 10 1 0, gives 0)
      ∷ (kill 1 2 10, gives 0)
      ∷ (kill 1 2 18, gives 0)
      ∷ (sigpending 2, signals 0x20200)
      ∷ (sigprocmask 2 2 0, gives 0)
      ∷ (Deliver 2, delivers 10 Effect.Ignored)
      ∷ (Deliver 2, delivers 18 Effect.Ignored)
      ∷ (getpid 2, gives 2)
      ∷ (wait4 1 2 9, gives 0)
      ∷ [])
  -- that a process has stopped is announced to its parent, and not to process 1
  pub announces_stop_to_parent : Runs (given [] (plain ∷ [])) opening (
      (sigaction 1 17 2 0, gives 0)
      ∷ (sigprocmask 1 0 (only 17), gives 0)
      ∷ (fork 1, gives 2)
      ∷ (fork 2, gives 3)
      ∷ (kill 1 3 19, gives 0)
      ∷ (Deliver 3, delivers 19 Effect.Stopped)
      ∷ (sigpending 1, signals 0)
      ∷ (sigpending 2, signals (only 17))
      ∷ (wait4 1 (minus 1) 3, gives 0)
      ∷ (wait4 2 (minus 1) 2, told 3 0x137f)
      ∷ [])
  -- it may be sent
  pub sends_no_signal :
      Runs nothing_given stopped_one ((kill 1 2 0, gives 0) ∷ (getpid 2, not_now Reason.Stopped) ∷ (wait4 1 2 9, gives 0) ∷ [])
  -- and the world is as it was
  pub signals_nobody : after nothing_given stopped_one ((kill 1 2 0, gives 0) ∷ []) ≡ stopped_one
  -- SIGCONT reaches other users' processes in the whole session, not only in the sender's group: kill(2)
  pub continues_other_groups : Runs nothing_given opening (
      (fork 1, gives 2)
      ∷ (fork 1, gives 3)
      ∷ (setpgid 2 0 0, gives 0)
      ∷ (setuid 2 1000, gives 0)
      ∷ (setuid 3 1001, gives 0)
      ∷ (kill 2 3 15, fails Eperm)
      ∷ (kill 2 3 18, gives 0)
      ∷ (kill 3 2 18, gives 0)
      ∷ [])
  -- getuid(2) tells the real id, geteuid(2) the effective one
  pub tells_ids_apart : Runs nothing_given opening ((setresuid 1 0 5 7, gives 0) ∷ (getuid 1, gives 0) ∷ (geteuid 1, gives 5) ∷ [])
  -- getppid(2) tells the parent, whoever it is, and 0 to process 1, which has none
  pub tells_parents : Runs nothing_given opening (
      (fork 1, gives 2)
      ∷ (fork 2, gives 3)
      ∷ (getppid 3, gives 2)
      ∷ (getppid 2, gives 1)
      ∷ (getppid 1, gives 0)
      ∷ [])
  -- prctl(2), PR_GET_NO_NEW_PRIVS: each of its four arguments is 0
  pub minds_each_argument : Runs nothing_given opening (
      (prctl 1 39 1 0, fails Einval)
      ∷ (prctl 1 39 0 1, fails Einval)
      ∷ (call_with 1 157 (39 ∷ 0 ∷ 0 ∷ 1 ∷ 0 ∷ 0 ∷ []), fails Einval)
      ∷ (call_with 1 157 (39 ∷ 0 ∷ 0 ∷ 0 ∷ 1 ∷ 0 ∷ []), fails Einval)
      ∷ (prctl 1 39 0 0, gives 0)
      ∷ [])
  -- wait4(2) has the options 1, 2 and 8, and no other
  pub has_three_options : Runs nothing_given opening (
      (fork 1, gives 2)
      ∷ (wait4 1 (minus 1) 4, fails Einval)
      ∷ (wait4 1 (minus 1) 5, fails Einval)
      ∷ (wait4 1 (minus 1) 16, fails Einval)
      ∷ (wait4 1 (minus 1) (2 ^ 31), fails Einval)
      ∷ (wait4 1 (minus 1) 11, gives 0)
      ∷ [])
