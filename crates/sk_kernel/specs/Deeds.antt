-- What a signal does to the body of the process that it is delivered to, and what it leaves to be done in the world. Only
-- code and proofs look at this.
use Rattle.std.specs.Prelude.{ℕ, ◌==◌, not, ◌&&◌, if◌then◌else◌, length}
use Rattle.sk_laws.specs.Common.{Signals, default_action, disposition_of, World, Delivered, is_waiting, in_handler, taking, terminated_by, acts_by_default}
use Rattle.sk_world.specs.declared.signals.TheConstants.{SIGKILL, SIGSEGV, SIGSYS}
use Rattle.sk_world.specs.declared.signal_state.TheConstants.{FRAMES}
use Rattle.sk_world.specs.declared.disposition.DefaultAction.{DefaultAction}
use Rattle.sk_world.specs.declared.disposition.Disposition.{Disposition}
use Rattle.sk_world.specs.declared.process.TheConstants.{INIT}
use Rattle.sk_world.specs.declared.process.Body.{Body}
use Rattle.sk_machine.specs.declared.answer.Effect.TheVariants.{Ignored, Handler}
use Rattle.sk_kernel.specs.declared.delivering.Deed.{Deed}
use Rattle.sk_kernel.specs.declared.delivering.Deed.TheVariants.{Nothing, End, Stop}
use Rattle.sk_world.specs.declared.disposition.DefaultAction.TheVariants as action
use Rattle.sk_world.specs.declared.disposition.Disposition.TheVariants as disposition

-- what is left to be done, and the body
pub record Acted : Type 0 where
  pub deed : Deed
  pub body : Body

-- a handler of signal n begins, where there is room for its frame
abbrev pub entered : Body → ℕ → ℕ → Signals → Acted
entered body n program mask =
    if length body.signals.frames == FRAMES then record { deed = End SIGSEGV; body = body }
    else record { deed = Nothing (Handler program (is_waiting body.waiting)); body = in_handler n mask body }

abbrev pub deed_of : ℕ → DefaultAction → Deed
deed_of n action.Ignore = Nothing Ignored
deed_of n action.Continue = Nothing Ignored
deed_of n action.Stop = Stop
deed_of n action.Terminate = End n

-- the default action of signal n
abbrev pub default_deed : ℕ → ℕ → Deed
default_deed pid n = if (pid == INIT) && not (n == SIGSYS) then Nothing Ignored else deed_of n (default_action n)

abbrev pub acted_by : ℕ → Body → ℕ → Disposition → Acted
acted_by pid body n disposition.Ignore = record { deed = Nothing Ignored; body = body }
acted_by pid body n (disposition.Handler program mask) = entered body n program mask
acted_by pid body n disposition.Default = record { deed = default_deed pid n; body = body }

-- signal n is pending no more, and has acted on the body
abbrev pub acted : ℕ → Body → ℕ → Acted
acted pid body n =
    if n == SIGKILL then record { deed = End SIGKILL; body = taking n body }
    else acted_by pid (taking n body) n (disposition_of (taking n body).signals n)

-- what signal n comes to in a world with such a body, once this is done in it
abbrev pub left : World → ℕ → ℕ → Deed → Delivered
left w pid n (Nothing effect) = record { effect = effect; world = w }
left w pid n (End signal) = terminated_by w pid signal
left w pid n Stop = acts_by_default w pid n action.Stop
