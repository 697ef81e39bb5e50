-- Which processes a signal is sent to: kill(2).
use Rattle.std.specs.Prelude.{ℕ, ℤ, ◌==◌, Bool, false, not, ◌&&◌, ◌||◌, nat_le, if◌then◌else◌, List, filter, length, Option, Result, Ok, Err}
use Rattle.std.specs.Option.{option_map_or}
use Rattle.sk_world.specs.declared.signals.TheConstants.{SIGCONT}
use Rattle.sk_world.specs.declared.errno.Errno.{Errno}
use Rattle.sk_world.specs.declared.errno.Errno.TheVariants.{Eperm, Esrch, Einval}
use Rattle.sk_world.specs.declared.creds.Creds.{Creds}
use Rattle.sk_world.specs.Creds.{may_signal}
use Rattle.sk_world.specs.declared.process.TheConstants.{INIT}
use Rattle.sk_world.specs.declared.process.Proc.{Proc}
use Rattle.sk_world.specs.declared.request.Who.{Who}
use Rattle.sk_world.specs.declared.request.Who.TheVariants as who
use Rattle.sk_world.specs.Processes.{pids}
use Rattle.sk_world.specs.World.{World, at, is_member_of}
use Rattle.sk_world.specs.Sending.{sent_to_each}
use Rattle.sk_machine.specs.Sessions.{group_of, session_of}
use Rattle.sk_machine.specs.Arguments.{who_meant}

-- the process is one of those that are meant: of all, process 1 and the caller are not. Zombies are meant too
abbrev pub is_meant : World → ℕ → Who → ℕ → Bool
is_meant w caller (who.Child child) pid = pid == child
is_meant w caller who.Any pid = not (pid == INIT) && not (pid == caller)
is_meant w caller (who.Group group) pid = is_member_of group (at w pid)

-- the processes that the argument means, in rising order
abbrev pub targets : World → ℕ → ℤ → List ℕ
targets w caller argument = filter (is_meant w caller (who_meant (group_of (at w caller)) argument)) (pids w.procs)

-- a process is there, and one with these ids may send it signals
abbrev pub is_open_to : Creds → Option Proc → Bool
is_open_to creds o = option_map_or (λ p. may_signal creds p.body.creds) o false

-- the caller, which has these ids, may send signal n to the process; SIGCONT also within its session
abbrev pub may_kill : World → ℕ → Creds → ℕ → ℕ → Bool
may_kill w caller creds n pid =
    is_open_to creds (at w pid) || ((n == SIGCONT) && (session_of (at w pid) == session_of (at w caller)))

-- those of them that the caller may send the signal to
abbrev pub permitted : World → ℕ → Creds → ℤ → ℕ → List ℕ
permitted w caller creds argument n = filter (may_kill w caller creds n) (targets w caller argument)

-- signal 0 is sent to nobody: only whether it may be is asked
abbrev pub killed : World → List ℕ → ℕ → World
killed w to n = if n == 0 then w else sent_to_each w to n

-- kill(2) by a caller with these ids: the world afterwards, or the error
abbrev pub after_kill : World → ℕ → Creds → ℤ → ℕ → Result World Errno
after_kill w caller creds argument n =
    if not (nat_le n 31) then Err Einval
    else if length (targets w caller argument) == 0 then Err Esrch
    else if length (permitted w caller creds argument n) == 0 then Err Eperm
    else Ok (killed w (permitted w caller creds argument n) n)
