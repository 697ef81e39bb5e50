-- The calls by which a process changes its own signals: sigaction(2), sigprocmask(2), sigreturn(2).
use Rattle.std.specs.Prelude.{ℕ, ◌-◌, ◌==◌, Bool, not, ◌&&◌, nat_le, if◌then◌else◌, List, [], ◌∷◌, Result, Ok, Err}
use Rattle.sk_world.specs.Sets as set
use Rattle.sk_world.specs.declared.signals.TheConstants.{SIGKILL, SIGSTOP}
use Rattle.sk_world.specs.declared.disposition.Disposition.{Disposition}
use Rattle.sk_world.specs.declared.disposition.Disposition.TheVariants.{Default, Ignore, Handler}
use Rattle.sk_world.specs.SignalSet.{Signals, signals_of, blockable}
use Rattle.sk_world.specs.SignalState.{SignalState}
use Rattle.sk_world.specs.Signalling.{with_mask, with_action}
use Rattle.sk_world.specs.Delivery.{popped}
use Rattle.sk_insn.specs.declared.record.Record.{Record}
use Rattle.sk_world.specs.declared.errno.Errno.{Errno}
use Rattle.sk_world.specs.declared.errno.Errno.TheVariants.{Einval}
use Rattle.sk_world.specs.declared.process.TheConstants.{INIT}
use Rattle.sk_world.specs.declared.process.Body.{Body}
use Rattle.sk_world.specs.World.{World, changed}
use Rattle.sk_machine.specs.Arguments.{register, unsigned}
use Rattle.sk_machine.specs.Performed.{Performed, returns, fails}

-- other signals of a process
abbrev pub with_signals : SignalState → Body → Body
with_signals signals body = record body { signals = signals }

-- the process has other signals from now on, and the call returns 0; or it fails
abbrev pub resignals : World → ℕ → Result SignalState Errno → Performed
resignals w pid (Ok signals) = returns (changed w pid (with_signals signals)) 0
resignals w pid (Err e) = fails w e

-- a disposition can be set for every signal but SIGKILL and SIGSTOP: sigaction(2)
abbrev pub can_be_caught : ℕ → Bool
can_be_caught n = nat_le 1 n && nat_le n 31 && not (n == SIGKILL) && not (n == SIGSTOP)

-- the disposition that two registers stand for: 0 is SIG_DFL, 1 SIG_IGN, and any other number less 2 a
-- program. SIGKILL and SIGSTOP stand in no mask
abbrev pub disposition_in : ℕ → ℕ → Disposition
disposition_in action mask =
    if action == 0 then Default
    else if action == 1 then Ignore
    else Handler (action - 2) (blockable (signals_of mask))

-- sigaction(2)
abbrev pub after_sigaction : ℕ → Record → SignalState → Result SignalState Errno
after_sigaction pid call s =
    if can_be_caught (unsigned call 0)
    then Ok (with_action (unsigned call 0) (disposition_in (register call 1) (register call 2)) (pid == INIT) s)
    else Err Einval

-- sigprocmask(2): 0 is SIG_BLOCK, 1 SIG_UNBLOCK, 2 SIG_SETMASK
abbrev pub after_sigprocmask : Record → SignalState → Result SignalState Errno
after_sigprocmask call s =
    if unsigned call 0 == 0 then Ok (with_mask (set.union s.mask (signals_of (register call 1))) s)
    else if unsigned call 0 == 1 then Ok (with_mask (set.difference s.mask (signals_of (register call 1))) s)
    else if unsigned call 0 == 2 then Ok (with_mask (signals_of (register call 1)) s)
    else Err Einval

-- sigreturn(2), where these are the frames: EINVAL where no handler runs
abbrev pub after_sigreturn : List Signals → SignalState → Result SignalState Errno
after_sigreturn [] s = Err Einval
after_sigreturn (mask ∷ frames) s = Ok (popped s)
