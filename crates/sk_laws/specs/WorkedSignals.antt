-- Runs that are worked out by hand: signals.
use Rattle.std.specs.Prelude.{ℕ, zero, suc, ◌≡◌, [], ◌∷◌, List, Option, Some}
use Rattle.sk_laws.specs.Common.{Zombie, Answer, Trapped, Ended, Outcome, Effect, Reason, Deliver, Resume, Einval, Signals, signals_of, INIT, World, at, opening, Happening, option_map, Life}
use Rattle.sk_laws.specs.Scripts.{nothing_given, given, plain, for_number, minus, only, sigaction, sigprocmask, sigreturn, pause, getpid, fork, execve, wait4, kill, getppid, sigpending, exit_group, seccomp, gives, fails, waits, told, ends, executed, signals, resumes, delivers, handles, interrupts, not_now, Runs, after}

-- the mask of the process of a pid, if it is there
abbrev pub mask_at : World → ℕ → Option Signals
mask_at w pid = option_map (λ p. p.body.signals.mask) (at w pid)

-- whether the process of a pid, if it is there, runs, or how it has ended
abbrev pub life_at : World → ℕ → Option Life
life_at w pid = option_map (λ p. p.body.life) (at w pid)

-- SIGKILL and SIGSTOP stay out of the mask; what is blocked is pending once; SIGKILL comes first
abbrev pub blocks_all : List Happening
blocks_all = (fork 1, gives 2) ∷ (sigprocmask 2 0 (minus 1), gives 0) ∷ []

-- a handler may be interrupted by its own signal, where it lets it: each round begins one more
abbrev pub rounds : ℕ → ℕ → List Happening
rounds pid zero = []
rounds pid (suc n) = (kill pid pid 10, gives 0) ∷ (Deliver pid, handles 10 0) ∷ (sigprocmask pid 1 0x200, gives 0) ∷ rounds pid n

-- sixteen handlers run one in the other
abbrev pub with_eight : World
with_eight = after (given [] (plain ∷ [])) opening ((sigaction 1 10 2 0, gives 0) ∷ rounds 1 8)

-- then sixteen run
abbrev pub with_sixteen : World
with_sixteen = after (given [] (plain ∷ [])) with_eight (rounds 1 8)

pub record WorkedSignals : Type 0 where
  -- a trapped call gets SIGSYS, whose handler runs and returns
  pub handles_trap : Runs (given (for_number 110 0x00030007 ∷ []) (plain ∷ plain ∷ [])) opening (
      (sigaction 1 31 3 0, gives 0)
      ∷ (seccomp 1 1 0 0, gives 0)
      ∷ (getppid 1, Answer.Call 0x00030007 Trapped)
      ∷ (Deliver 1, handles 31 1)
      ∷ (sigreturn 1, gives 0)
      ∷ (getpid 1, gives 1)
      ∷ (exit_group 1 0, ends 0)
      ∷ [])
  -- a process that ignores and blocks SIGSYS is trapped all the same
  pub forces_sigsys : Runs (given (for_number 39 0x00030000 ∷ []) []) opening (
      (fork 1, gives 2)
      ∷ (sigaction 2 31 1 0, gives 0)
      ∷ (sigprocmask 2 0 (only 31), gives 0)
      ∷ (seccomp 2 1 0 0, gives 0)
      ∷ (getpid 2, Answer.Call 0x00030000 Trapped)
      ∷ (Deliver 2, delivers 31 (Effect.Ended 31))
      ∷ [])
  -- process 1 is ended by no signal but a SIGSYS that is forced on it
  pub forces_sigsys_on_init : Runs (given (for_number 39 0x00030000 ∷ []) []) opening (
      (kill 1 1 31, gives 0)
      ∷ (kill 1 1 9, gives 0)
      ∷ (sigpending 1, signals 0)
      ∷ (seccomp 1 1 0 0, gives 0)
      ∷ (getpid 1, Answer.Call 0x00030000 Trapped)
      ∷ (Deliver 1, delivers 31 (Effect.Ended 31))
      ∷ (Deliver 1, not_now Reason.Halted)
      ∷ [])
  -- a process that waits in pause(2) goes on waiting until a handler has run
  pub pauses_for_handler : Runs (given [] (plain ∷ plain ∷ [])) opening (
      (fork 1, gives 2)
      ∷ (sigaction 2 10 3 0, gives 0)
      ∷ (pause 2, waits)
      ∷ (Resume 2, resumes Outcome.Waits)
      ∷ (kill 1 2 23, gives 0)
      ∷ (Deliver 2, not_now Reason.NothingWaits)
      ∷ (kill 1 2 10, gives 0)
      ∷ (Deliver 2, interrupts 10 1)
      ∷ (getpid 2, gives 2)
      ∷ [])
  -- a signal that a process sends itself in its handler waits for the handler's return
  pub signals_itself : Runs (given [] (plain ∷ plain ∷ [])) opening (
      (sigaction 1 10 3 0, gives 0)
      ∷ (kill 1 1 10, gives 0)
      ∷ (Deliver 1, handles 10 1)
      ∷ (kill 1 1 10, gives 0)
      ∷ (sigreturn 1, gives 0)
      ∷ (Deliver 1, handles 10 1)
      ∷ (kill 1 1 10, gives 0)
      ∷ [])
  -- the mask has all signals but the two
  pub blocks_all_but_kill : mask_at (after nothing_given opening blocks_all) 2 ≡ Some (signals_of 0x7ffbfeff)
  -- what is sent to it then
  pub blocks_and_ends : Runs nothing_given (after nothing_given opening blocks_all) (
      (kill 1 2 15, gives 0)
      ∷ (kill 1 2 10, gives 0)
      ∷ (kill 1 2 15, gives 0)
      ∷ (sigpending 2, signals 0x4200)
      ∷ (kill 1 2 9, gives 0)
      ∷ (getpid 2, not_now Reason.SignalFirst)
      ∷ (Deliver 2, delivers 9 (Effect.Ended 9))
      ∷ [])
  -- SIGCONT discards a pending stop signal, and a stop signal a pending SIGCONT
  pub discards_each_other : Runs nothing_given (after nothing_given opening blocks_all) (
      (kill 1 2 20, gives 0)
      ∷ (sigpending 2, signals 0x80000)
      ∷ (kill 1 2 18, gives 0)
      ∷ (sigpending 2, signals 0x20000)
      ∷ (kill 1 2 20, gives 0)
      ∷ (sigpending 2, signals 0x80000)
      ∷ [])
  -- how sigprocmask(2) sets the mask, and what its calls refuse
  pub sets_mask : Runs nothing_given opening (
      (sigprocmask 1 0 0x300, gives 0)
      ∷ (sigprocmask 1 0 0x4, gives 0)
      ∷ (sigprocmask 1 1 0x200, gives 0)
      ∷ (sigprocmask 1 2 0x8200, gives 0)
      ∷ (sigprocmask 1 3 0, fails Einval)
      ∷ (sigaction 1 9 0 0, fails Einval)
      ∷ (sigaction 1 19 1 0, fails Einval)
      ∷ (sigaction 1 32 0 0, fails Einval)
      ∷ (sigaction 1 0 0 0, fails Einval)
      ∷ (sigreturn 1, fails Einval)
      ∷ (kill 1 1 32, fails Einval)
      ∷ [])
  -- a signal that is ignored from now on is discarded, blocked or not; a blocked one that the default
  -- ignores is pending, and comes to nothing when it is delivered
  pub ignores_signals : Runs nothing_given (after nothing_given opening blocks_all) (
      (kill 1 2 10, gives 0)
      ∷ (kill 1 2 23, gives 0)
      ∷ (sigpending 2, signals 0x400200)
      ∷ (sigaction 2 10 1 0, gives 0)
      ∷ (sigpending 2, signals 0x400000)
      ∷ (sigprocmask 2 2 0, gives 0)
      ∷ (Deliver 2, delivers 23 Effect.Ignored)
      ∷ (kill 1 2 10, gives 0)
      ∷ (getpid 2, gives 2)
      ∷ [])
  -- execve(2) keeps the mask and the pending signals, and drops the handlers, in process 1 too
  pub drops_handlers_at_exec : Runs (given [] (plain ∷ [])) opening (
      (sigaction 1 10 2 0, gives 0)
      ∷ (sigprocmask 1 0 0x200, gives 0)
      ∷ (kill 1 1 10, gives 0)
      ∷ (execve 1 0, executed)
      ∷ (sigpending 1, signals 0x200)
      ∷ (sigprocmask 1 1 0x200, gives 0)
      ∷ (Deliver 1, delivers 10 Effect.Ignored)
      ∷ [])
  -- eight begin
  pub begins_eight_handlers : Runs (given [] (plain ∷ [])) opening ((sigaction 1 10 2 0, gives 0) ∷ rounds 1 8)
  -- and eight more
  pub begins_eight_more : Runs (given [] (plain ∷ [])) with_eight (rounds 1 8)
  -- and SIGSEGV ends the process that has no room for the next
  pub ends_without_room_for_frame :
      Runs (given [] (plain ∷ [])) with_sixteen ((kill 1 1 10, gives 0) ∷ (Deliver 1, delivers 10 (Effect.Ended 11)) ∷ [])
  -- it has ended by SIGSEGV
  pub halts_without_room_for_frame :
      life_at (after (given [] (plain ∷ [])) with_sixteen ((kill 1 1 10, gives 0) ∷ (Deliver 1, delivers 10 (Effect.Ended 11)) ∷ [])) INIT ≡ Some (Zombie 11)
  -- a process that a signal ends has the number of the signal as its status, without the bit of a core dump: wait(2), WTERMSIG
  pub ends_by_segv : Runs nothing_given opening (
      (fork 1, gives 2)
      ∷ (kill 1 2 11, gives 0)
      ∷ (Deliver 2, delivers 11 (Effect.Ended 11))
      ∷ (wait4 1 2 0, told 2 11)
      ∷ [])
