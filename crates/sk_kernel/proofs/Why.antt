-- The process of an event says why the event is not possible.
use Rattle.std.proofs.Common.{◌≡◌, ◌∙◌, sym, refl, Bool, true, false, not, ◌&&◌, if◌then◌else◌, Option, None, Some, is_some, option_and_then}
use Rattle.sk_kernel.proofs.Common.{INIT, Life, Proc, World, at, has_ended, has_stopped, is_halted, is_zombie, is_stopped, Event, Call, Deliver, Resume, Fault, pid_of, signal_for, signal_due, is_waiting, is_in_call, reason_of, halted_of, end_status}
use Rattle.sk_machine.specs.declared.answer.Reason.{Reason}
use Rattle.sk_machine.specs.declared.answer.Reason.TheVariants.{NoProcess, Zombie, Stopped, Halted}
use Rattle.sk_kernel.specs.views.OfProcess.{running_reason, reason_by, reason_for}
use Rattle.sk_world.specs.declared.process.Life.TheVariants as life

-- whether the event may reach a stopped process
kills : Bool → Event → Bool
kills due (Call pid ip call) = false
kills due (Deliver pid) = due
kills due (Resume pid) = false
kills due (Fault pid) = false

-- the reason by the world's process
told : Bool → Option Proc → Event → Option Reason
told halted o event =
    if halted then Some Halted
    else if not (is_some o) then Some NoProcess
    else if is_zombie o then Some Zombie
    else if is_stopped o && not (kills (is_some (signal_due o)) event) then Some Stopped
    else running_reason (is_in_call o) (is_some (signal_due o)) event

is_told : (w : World) (event : Event) → reason_of w event ≡ told (is_halted w) (at w (pid_of event)) event
unfolding told kills
is_told w (Call pid ip call) = refl
is_told w (Deliver pid) = refl
is_told w (Resume pid) = refl
is_told w (Fault pid) = refl

by_life : (l : Life) (waits due : Bool) (event : Event)
    → reason_by l waits due event ≡ (if has_ended l then Some Zombie else if has_stopped l && not (kills due event) then Some Stopped else running_reason waits due event)
unfolding kills
by_life (life.Zombie status) waits due event = refl
by_life life.Running waits due event = refl
by_life life.Stopped waits due (Call pid ip call) = refl
by_life life.Stopped waits true (Deliver pid) = refl
by_life life.Stopped waits false (Deliver pid) = refl
by_life life.Stopped waits due (Resume pid) = refl
by_life life.Stopped waits due (Fault pid) = refl

-- in a system that has not halted the process that is there tells the reason
pub reason_there : (w : World) (event : Event) (p : Proc) → is_halted w ≡ false → at w (pid_of event) ≡ Some p → reason_for p event ≡ reason_of w event
unfolding told
reason_there w event p runs there =
    by_life p.body.life (is_waiting p.body.waiting) (is_some (signal_for p.body)) event
    ∙ sym (is_told w event ∙ (λ i. told (runs i) (there i) event))

has_status : (l : Life) → is_some (end_status l) ≡ has_ended l
has_status (life.Zombie status) = refl
has_status life.Stopped = refl
has_status life.Running = refl

-- a system has halted exactly where it has a status
pub halted_by_status : (w : World) → is_some (halted_of w) ≡ is_halted w
halted_by_status w = elim (at w INIT) as (λ o. is_some (option_and_then (λ p. end_status p.body.life) o) ≡ is_zombie o) [
  | None ↦ refl
  | Some p ↦ has_status p.body.life
]
