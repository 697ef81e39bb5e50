-- How a pending signal is delivered, and how its handler runs: signal(7), "Execution of signal
-- handlers", and sigreturn(2).
use Rattle.std.specs.Prelude.{ℕ, if◌then◌else◌, List, [], ◌∷◌, Option, Some}
use Rattle.sk_world.specs.Sets as set
use Rattle.sk_world.specs.declared.signals.TheConstants.{SIGKILL}
use Rattle.sk_world.specs.SignalSet.{Signals, lowest, blockable}
use Rattle.sk_world.specs.SignalState.{SignalState}

-- the signals that can be delivered: those that are pending and not blocked
abbrev pub ready : SignalState → Signals
ready s = set.difference s.pending s.mask

-- the signal that is delivered next. The manual leaves the order open; here SIGKILL is the first, and
-- then the lowest number
abbrev pub deliverable : SignalState → Option ℕ
deliverable s = if set.contains (ready s) SIGKILL then Some SIGKILL else lowest (ready s)

-- signal n is pending no more
abbrev pub taken : ℕ → SignalState → SignalState
taken n s = record s { pending = set.remove s.pending n }

-- a handler of signal n begins: a frame keeps the mask, and the signals of the handler's mask and the
-- signal itself are blocked besides: signal(7)
abbrev pub pushed : ℕ → Signals → SignalState → SignalState
pushed n mask s = record s { mask = blockable (set.insert (set.union s.mask mask) n); frames = s.mask ∷ s.frames }

-- the state in which the newest of these frames has given its mask back
abbrev pub resumed : List Signals → SignalState → SignalState
resumed [] s = s
resumed (mask ∷ frames) s = record s { mask = mask; frames = frames }

-- the newest handler returns, and the mask that its frame keeps is the mask again: sigreturn(2)
abbrev pub popped : SignalState → SignalState
popped s = resumed s.frames s
