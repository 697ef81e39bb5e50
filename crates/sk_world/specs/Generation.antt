-- How a signal becomes pending: signal(7), and POSIX.1-2017, 2.4.1 "Signal Generation and Delivery".
use Rattle.std.specs.Prelude.{ℕ, ◌-◌, ◌==◌, Bool, not, ◌&&◌, ◌||◌, if◌then◌else◌, slice_set}
use Rattle.sk_world.specs.Sets as set
use Rattle.sk_world.specs.declared.signals.TheConstants.{SIGCONT, SIGSTOP, SIGTSTP, SIGTTIN, SIGTTOU, SIGSYS}
use Rattle.sk_world.specs.declared.disposition.Disposition.TheVariants.{Default}
use Rattle.sk_world.specs.SignalSet.{Signals}
use Rattle.sk_world.specs.Actions.{is_stop, is_handler, is_ignore, is_ignored}
use Rattle.sk_world.specs.SignalState.{SignalState, disposition_of}

-- the set without the four stop signals
abbrev pub without_stops : Signals → Signals
without_stops s = set.remove (set.remove (set.remove (set.remove s SIGSTOP) SIGTSTP) SIGTTIN) SIGTTOU

-- the pending signals that are left when signal n is generated. SIGCONT discards the stop signals, and
-- a stop signal discards SIGCONT: POSIX.1-2017, 2.4.1
abbrev pub left_pending : ℕ → Signals → Signals
left_pending n pending =
    if n == SIGCONT then without_stops pending
    else if is_stop n then set.remove pending SIGCONT
    else pending

-- signal n is generated for the process: signal(7). Process 1 gets only what it has a handler for:
-- kill(2), "Notes". An ignored signal is dropped, unless it is blocked; any other one is pending, once
abbrev pub generated : ℕ → Bool → SignalState → SignalState
generated n init s =
    if init && not (is_handler (disposition_of s n)) then s
    else if is_ignored n init (disposition_of s n) && not (set.contains s.mask n)
    then record s { pending = left_pending n s.pending }
    else record s { pending = set.insert (left_pending n s.pending) n }

-- a process can neither block nor ignore a forced signal: SIGSYS leaves the mask and gets the default
-- disposition, if it is blocked or ignored
abbrev pub freed : SignalState → SignalState
freed s =
    if set.contains s.mask SIGSYS || is_ignore (disposition_of s SIGSYS)
    then record s { mask = set.remove s.mask SIGSYS; dispositions = slice_set s.dispositions (SIGSYS - 1) Default }
    else s

-- SIGSYS is forced on the process, in process 1 too: seccomp(2), "SECCOMP_RET_TRAP"
abbrev pub forced : SignalState → SignalState
forced s = record (freed s) { pending = set.insert s.pending SIGSYS }
