-- What a process keeps about signals: signal(7).
use Rattle.std.specs.Prelude.{ℕ, ◌-◌, Bool, IsTrue, List, slice_index_or, not, ◌&&◌}
use Rattle.std.specs.List.{list_all}
use Rattle.sk_world.specs.Sets as set
use Rattle.sk_world.specs.SignalSet.{Signals}
use Rattle.sk_world.specs.declared.signals.TheConstants.{SIGKILL, SIGSTOP}
use Rattle.sk_world.specs.declared.disposition.Disposition.{Disposition}
use Rattle.sk_world.specs.declared.disposition.Disposition.TheVariants.{Default}

-- the signals that are blocked, those that are pending, the disposition of each signal from 1 on, and
-- a frame for each handler that runs, the newest first: the mask that its return restores
pub record SignalState : Type 0 where
  pub mask : Signals
  pub pending : Signals
  pub dispositions : List Disposition
  pub frames : List Signals

-- the disposition of signal n
abbrev pub disposition_of : SignalState → ℕ → Disposition
disposition_of s n = slice_index_or s.dispositions (n - 1) Default

-- SIGKILL and SIGSTOP are not in the set: they cannot be blocked: sigprocmask(2), "Notes"
abbrev pub is_blockable : Signals → Bool
is_blockable s = not (set.contains s SIGKILL) && not (set.contains s SIGSTOP)

-- neither of them is in the mask, nor in one that a handler's return restores
abbrev pub AllBlockable : Signals → List Signals → Type 0
AllBlockable mask frames = IsTrue (is_blockable mask && list_all is_blockable frames)

-- no process ever blocks SIGKILL or SIGSTOP
abbrev pub NeverBlocksKill : SignalState → Type 0
NeverBlocksKill s = AllBlockable s.mask s.frames
