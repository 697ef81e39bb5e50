-- Signals of one process that are worked out by hand.
use Rattle.std.specs.Prelude.{◌≡◌, ℕ, ◌-◌, true, false, List, [], ◌∷◌, map, slice_set, None, Some}
use Rattle.sk_world.specs.declared.signals.TheConstants.{SIGHUP, SIGKILL, SIGUSR1, SIGTERM, SIGCONT, SIGSTOP, SIGTSTP, SIGTTIN, SIGTTOU, SIGURG, SIGWINCH, SIGSYS}
use Rattle.sk_world.specs.declared.disposition.DefaultAction.TheVariants as action
use Rattle.sk_world.specs.declared.disposition.Disposition.{Disposition}
use Rattle.sk_world.specs.declared.disposition.Disposition.TheVariants.{Default, Ignore, Handler}
use Rattle.sk_world.specs.Sets as set
use Rattle.sk_world.specs.SignalSet.{Signals, signals_to}
use Rattle.sk_world.specs.Actions.{default_action}
use Rattle.sk_world.specs.SignalState.{SignalState}
use Rattle.sk_world.specs.Generation.{generated, forced}
use Rattle.sk_world.specs.Delivery.{deliverable, taken, pushed, popped}
use Rattle.sk_world.specs.Signalling.{opening, with_mask, with_action, after_exec, forked, cleared}

-- the signals of a list
abbrev pub signals : List ℕ → Signals
signals ns = set.from_list ns

-- a process that blocks these signals, and has those pending
abbrev pub with : List ℕ → List ℕ → SignalState
with blocked waiting = record opening { mask = signals blocked; pending = signals waiting }

-- the same with this disposition of signal n
abbrev pub disposed : ℕ → Disposition → SignalState → SignalState
disposed n disposition s = record s { dispositions = slice_set s.dispositions (n - 1) disposition }

-- the same with handlers running, whose returns restore these masks, the newest first
abbrev pub running : List Signals → SignalState → SignalState
running frames s = record s { frames = frames }

-- a handler that blocks these signals
abbrev pub handler : List ℕ → Disposition
handler mask = Handler 0 (signals mask)

-- signal(7), "Standard signals": what each of the 31 does by default, in the order of their numbers
abbrev pub WorkedActions : Type 0
WorkedActions =
    map default_action (signals_to 31)
    ≡ action.Terminate ∷ action.Terminate ∷ action.Terminate ∷ action.Terminate ∷ action.Terminate ∷ action.Terminate ∷ action.Terminate ∷ action.Terminate
    ∷ action.Terminate ∷ action.Terminate ∷ action.Terminate ∷ action.Terminate ∷ action.Terminate ∷ action.Terminate ∷ action.Terminate ∷ action.Terminate
    ∷ action.Ignore ∷ action.Continue ∷ action.Stop ∷ action.Stop ∷ action.Stop ∷ action.Stop ∷ action.Ignore ∷ action.Terminate
    ∷ action.Terminate ∷ action.Terminate ∷ action.Terminate ∷ action.Ignore ∷ action.Terminate ∷ action.Terminate ∷ action.Terminate ∷ []

-- how a signal becomes pending
pub record WorkedGeneration : Type 0 where
  pub pends : generated SIGTERM false (with [] (SIGUSR1 ∷ [])) ≡ with [] (SIGUSR1 ∷ SIGTERM ∷ [])
  pub once : generated SIGTERM false (with [] (SIGTERM ∷ [])) ≡ with [] (SIGTERM ∷ [])
  pub ignored_by_default : generated SIGWINCH false (with [] []) ≡ with [] []
  pub ignored : generated SIGTERM false (disposed SIGTERM Ignore (with [] [])) ≡ disposed SIGTERM Ignore (with [] [])
  -- an ignored signal that is blocked pends
  pub blocked : generated SIGWINCH false (with (SIGWINCH ∷ []) []) ≡ with (SIGWINCH ∷ []) (SIGWINCH ∷ [])
  pub discards_stops : generated SIGCONT false (with [] (SIGSTOP ∷ SIGTSTP ∷ SIGTTIN ∷ SIGTTOU ∷ SIGHUP ∷ [])) ≡ with [] (SIGHUP ∷ [])
  pub discards_continue : generated SIGTTOU false (with (SIGCONT ∷ []) (SIGCONT ∷ [])) ≡ with (SIGCONT ∷ []) (SIGTTOU ∷ [])
  -- process 1 gets only what it has a handler for, blocked or not
  pub spared : generated SIGKILL true (with [] []) ≡ with [] []
  pub spared_though_blocked : generated SIGTERM true (with (SIGTERM ∷ []) []) ≡ with (SIGTERM ∷ []) []
  pub caught : generated SIGTERM true (disposed SIGTERM (handler []) (with [] [])) ≡ disposed SIGTERM (handler []) (with [] (SIGTERM ∷ []))
  pub forced_through_mask : forced (disposed SIGSYS (handler []) (with (SIGHUP ∷ SIGSYS ∷ []) [])) ≡ with (SIGHUP ∷ []) (SIGSYS ∷ [])
  pub forced_though_ignored : forced (disposed SIGSYS Ignore (with [] [])) ≡ with [] (SIGSYS ∷ [])
  -- a handler that is not blocked is left
  pub forced_on_handler : forced (disposed SIGSYS (handler []) (with [] [])) ≡ disposed SIGSYS (handler []) (with [] (SIGSYS ∷ []))

-- what is delivered, and how handlers nest
pub record WorkedDelivery : Type 0 where
  pub lowest : deliverable (with [] (SIGTERM ∷ SIGUSR1 ∷ [])) ≡ Some SIGUSR1
  pub kill_first : deliverable (with [] (SIGHUP ∷ SIGKILL ∷ [])) ≡ Some SIGKILL
  pub blocked : deliverable (with (SIGUSR1 ∷ []) (SIGTERM ∷ SIGUSR1 ∷ [])) ≡ Some SIGTERM
  pub none : deliverable (with (SIGTERM ∷ []) (SIGTERM ∷ [])) ≡ None
  pub taken_alone : taken SIGTERM (with [] (SIGTERM ∷ SIGUSR1 ∷ [])) ≡ with [] (SIGUSR1 ∷ [])
  -- the signal itself and those of the handler's mask are blocked besides, but SIGKILL and SIGSTOP never
  pub begins : pushed SIGTERM (signals (SIGUSR1 ∷ SIGKILL ∷ SIGSTOP ∷ [])) (with (SIGHUP ∷ []) []) ≡ running (signals (SIGHUP ∷ []) ∷ []) (with (SIGHUP ∷ SIGUSR1 ∷ SIGTERM ∷ []) [])
  pub nests :
      pushed SIGUSR1 (signals []) (pushed SIGTERM (signals []) (with [] []))
      ≡ running (signals (SIGTERM ∷ []) ∷ signals [] ∷ []) (with (SIGUSR1 ∷ SIGTERM ∷ []) [])
  -- a return ends the newest handler alone
  pub returns : popped (pushed SIGUSR1 (signals []) (pushed SIGTERM (signals []) (with (SIGHUP ∷ []) []))) ≡ running (signals (SIGHUP ∷ []) ∷ []) (with (SIGHUP ∷ SIGTERM ∷ []) [])
  pub returns_twice : popped (popped (pushed SIGUSR1 (signals []) (pushed SIGTERM (signals []) (with (SIGHUP ∷ []) [])))) ≡ with (SIGHUP ∷ []) []
  pub returns_from_none : popped (with (SIGHUP ∷ []) []) ≡ with (SIGHUP ∷ []) []

-- what the calls on signals leave
pub record WorkedCalls : Type 0 where
  -- a mask takes the place of the old one
  pub mask_is_set : with_mask (signals (SIGUSR1 ∷ SIGKILL ∷ SIGSTOP ∷ [])) (with (SIGHUP ∷ []) []) ≡ with (SIGUSR1 ∷ []) []
  pub pending_is_discarded : with_action SIGTERM Ignore false (with [] (SIGTERM ∷ SIGHUP ∷ [])) ≡ disposed SIGTERM Ignore (with [] (SIGHUP ∷ []))
  pub blocked_is_discarded : with_action SIGTERM Ignore false (with (SIGTERM ∷ []) (SIGTERM ∷ [])) ≡ disposed SIGTERM Ignore (with (SIGTERM ∷ []) [])
  pub default_discards : with_action SIGURG Default false (disposed SIGURG (handler []) (with [] (SIGURG ∷ []))) ≡ with [] []
  pub default_keeps : with_action SIGTERM Default false (disposed SIGTERM (handler []) (with [] (SIGTERM ∷ []))) ≡ with [] (SIGTERM ∷ [])
  -- process 1 ignores by default
  pub default_discards_in_first : with_action SIGTERM Default true (disposed SIGTERM (handler []) (with [] (SIGTERM ∷ []))) ≡ with [] []
  pub handler_keeps : with_action SIGTERM (handler []) false (with [] (SIGTERM ∷ [])) ≡ disposed SIGTERM (handler []) (with [] (SIGTERM ∷ []))
  -- execve(2): no handler is left, what is ignored and blocked stays, and so does what pends
  pub executed :
      after_exec (running (signals [] ∷ []) (disposed SIGTERM (handler []) (disposed SIGHUP Ignore (with (SIGUSR1 ∷ []) (SIGUSR1 ∷ [])))))
      ≡ disposed SIGHUP Ignore (with (SIGUSR1 ∷ []) (SIGUSR1 ∷ []))
  -- fork(2): a child returns from the handlers that its parent runs
  pub child :
      forked (running (signals (SIGHUP ∷ []) ∷ signals [] ∷ []) (disposed SIGTERM (handler []) (with (SIGUSR1 ∷ []) (SIGUSR1 ∷ []))))
      ≡ running (signals (SIGHUP ∷ []) ∷ signals [] ∷ []) (disposed SIGTERM (handler []) (with (SIGUSR1 ∷ []) []))
  pub ended : cleared (running (signals [] ∷ []) (with (SIGUSR1 ∷ []) (SIGTERM ∷ []))) ≡ with (SIGUSR1 ∷ []) []
