-- The calls that change the signals of a process, and its signals at its start, execve, fork and end.
use Rattle.std.specs.Prelude.{ℕ, ◌-◌, Bool, if◌then◌else◌, [], slice_set, map, replicate}
use Rattle.sk_world.specs.Sets as set
use Rattle.sk_world.specs.declared.disposition.Disposition.{Disposition}
use Rattle.sk_world.specs.declared.disposition.Disposition.TheVariants.{Default}
use Rattle.sk_world.specs.SignalSet.{Signals, blockable}
use Rattle.sk_world.specs.Actions.{is_ignored, disposition_after_exec}
use Rattle.sk_world.specs.SignalState.{SignalState}

-- process 1 as the system starts: nothing is blocked or pending, every disposition is the default, and
-- no handler runs
unfoldable pub opening : SignalState
opening = record { mask = set.empty; pending = set.empty; dispositions = replicate 31 Default; frames = [] }

-- sigprocmask(2): the mask is set, but SIGKILL and SIGSTOP cannot be blocked
abbrev pub with_mask : Signals → SignalState → SignalState
with_mask mask s = record s { mask = blockable mask }

-- sigaction(2): the disposition of signal n is set. If it is pending and ignored from now on it is
-- discarded, blocked or not: POSIX.1-2017, 2.4.3 "Signal Actions"
abbrev pub with_action : ℕ → Disposition → Bool → SignalState → SignalState
with_action n disposition init s = record s {
  dispositions = slice_set s.dispositions (n - 1) disposition;
  pending = if is_ignored n init disposition then set.remove s.pending n else s.pending;
}

-- execve(2): signals that are caught get the default disposition, no handler runs on, and the mask and
-- the pending signals stay
abbrev pub after_exec : SignalState → SignalState
after_exec s = record s { dispositions = map disposition_after_exec s.dispositions; frames = [] }

-- fork(2): the child has no pending signal, and a copy of all else
abbrev pub forked : SignalState → SignalState
forked s = record s { pending = set.empty }

-- a process that has ended: no signal is pending and no handler runs
abbrev pub cleared : SignalState → SignalState
cleared s = record s { pending = set.empty; frames = [] }
