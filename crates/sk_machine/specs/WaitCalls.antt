-- wait4(2) as a call: whom its registers ask for, what it comes to, and how a waiting call asks again.
use Rattle.std.specs.Prelude.{ℕ, ◌^◌, ◌==◌, Bool, not, if◌then◌else◌, bit_and}
use Rattle.sk_insn.specs.declared.record.Record.{Record}
use Rattle.sk_world.specs.declared.errno.Errno.TheVariants.{Esrch, Echild, Einval}
use Rattle.sk_world.specs.declared.request.Request.{Request}
use Rattle.sk_world.specs.declared.request.Poll.{Poll}
use Rattle.sk_world.specs.declared.request.Poll.TheVariants as poll
use Rattle.sk_world.specs.declared.process.Waiting.{Waiting}
use Rattle.sk_world.specs.declared.process.Waiting.TheVariants.{Nothing, Pause, Asks}
use Rattle.sk_world.specs.World.{World, at, changed}
use Rattle.sk_world.specs.Waits.{is_no_hang, options_of, ready_of, told}
use Rattle.sk_machine.specs.Sessions.{group_of}
use Rattle.sk_machine.specs.declared.answer.Outcome.TheVariants.{Told, Waits}
use Rattle.sk_machine.specs.Arguments.{unsigned, signed, who_meant}
use Rattle.sk_machine.specs.Performed.{Performed, returns, fails, waits, waiting_in}

-- WNOHANG is 1, WUNTRACED 2, WCONTINUED 8. The others of wait(2), __WNOTHREAD, __WALL and __WCLONE, are of threads, and none is taken
abbrev pub are_wait_options : ℕ → Bool
are_wait_options bits = bit_and bits 11 == bits

-- what the registers of a wait4(2) ask for
abbrev pub request_of : World → ℕ → Record → Request
request_of w pid call = record {
  who = who_meant (group_of (at w pid)) (signed call 0);
  options = options_of (unsigned call 2);
}

-- what the call comes to. Where no child has anything to tell it returns 0 under WNOHANG, and waits else
abbrev pub polled : World → ℕ → Request → Poll → Performed
polled w pid request (poll.Told child status) = record { outcome = Told child status; world = told w (poll.Told child status) }
polled w pid request poll.NoMatch = fails w Echild
polled w pid request poll.NotReady = if is_no_hang request.options then returns w 0 else waits w pid (Asks request)

-- wait4(2). The argument -2147483648 has no group: ESRCH
abbrev pub wait4 : World → ℕ → Record → Performed
wait4 w pid call =
    if not (are_wait_options (unsigned call 2)) then fails w Einval
    else if unsigned call 0 == 2 ^ 31 then fails w Esrch
    else polled w pid (request_of w pid call) (ready_of w pid (request_of w pid call))

-- a waiting wait4(2) asks again: it ends, or goes on waiting
abbrev pub polled_again : World → ℕ → Poll → Performed
polled_again w pid (poll.Told child status) =
    record { outcome = Told child status; world = changed (told w (poll.Told child status)) pid (waiting_in Nothing) }
polled_again w pid poll.NoMatch = fails (changed w pid (waiting_in Nothing)) Echild
polled_again w pid poll.NotReady = record { outcome = Waits; world = w }

-- a process that waits asks again. pause(2) ends by a signal alone. Who waits in no call has nothing to ask: that
-- event is not possible
abbrev pub resumed : World → ℕ → Waiting → Performed
resumed w pid (Asks request) = polled_again w pid (ready_of w pid request)
resumed w pid Pause = record { outcome = Waits; world = w }
resumed w pid Nothing = record { outcome = Waits; world = w }
