-- What a step comes to, by the process whose event it is.
use Rattle.std.proofs.Common.{◌≡◌, ◌&&◌, ap, refl, cond, not, Bool, false, IsTrue, Option, None, Some, ℕ}
use Rattle.sk_laws.specs.Common.{is_some, Proc, World, at, is_alive, is_halted, is_stopped, is_zombie, Event, Reason, NoProcess, Halted, NothingWaits, pid_of, Images, Stepped, happened, is_due_delivery, own_reason, reason_of, not_now, happened_to, stepped, step_of, signal_answered, delivery, Body, delivered}
use Rattle.sk_world.proofs.Common.{false≢true, cond_both, not-false}
use Rattle.sk_world.proofs.KeptEnd.{alive_is_there}
use Rattle.sk_machine.specs.declared.answer.Reason.TheVariants.{Zombie, Stopped}

there_and_no_zombie : (o : Option Proc) → IsTrue (is_some o) → is_zombie o ≡ false → IsTrue (is_alive o)
there_and_no_zombie None there zombie = there
there_and_no_zombie (Some p) there zombie = ap not zombie

-- an event that is possible is one of a process that is alive
pub possible_is_alive : (w : World) (event : Event) → reason_of w event ≡ None → IsTrue (is_alive (at w (pid_of event)))
possible_is_alive w event possible =
    let o : Option Proc = at w (pid_of event) in
    let stopped : Bool = is_stopped o && not (is_due_delivery w event) in
    cond_both (is_halted w) (Some Halted) _ (λ r. r ≡ None → IsTrue (is_alive o)) (λ _ is. cc)
    (λ _. cond_both (not (is_some o)) (Some NoProcess) _ (λ r. r ≡ None → IsTrue (is_alive o)) (λ _ is. cc)
    (λ there. cond_both (is_zombie o) (Some Zombie) (cond stopped (Some Stopped) (own_reason w event)) (λ r. r ≡ None → IsTrue (is_alive o)) (λ _ is. cc)
    (λ living _. there_and_no_zombie o (not-false (is_some o) there) living))) possible

-- what holds of each event of a process that is alive holds of an event that is possible
at_process : (declared : Images) (w : World) (event : Event) (o : Option Proc) (P : Stepped → Type 0) → at w (pid_of event) ≡ o → IsTrue (is_some o)
    → ((p : Proc) → at w (pid_of event) ≡ Some p → P (happened declared w p.body event)) → P (happened_to declared w event o)
at_process declared w event None P is there holds = absurd (false≢true there)
at_process declared w event (Some p) P is there holds = holds p is

at_reason : (declared : Images) (w : World) (event : Event) (o : Option Reason) (P : Stepped → Type 0) → reason_of w event ≡ o → ((reason : Reason) → reason_of w event ≡ Some reason → P (not_now w reason))
    → ((p : Proc) → at w (pid_of event) ≡ Some p → IsTrue (is_alive (at w (pid_of event))) → P (happened declared w p.body event)) → P (stepped declared w event o)
at_reason declared w event (Some reason) P is refused possible = refused reason is
at_reason declared w event None P is refused possible =
    let alive = possible_is_alive w event is in
    at_process declared w event (at w (pid_of event)) P refl (alive_is_there (at w (pid_of event)) alive) (λ p there. possible p there alive)

-- what holds where an event is not possible, and where it happens to a process that is alive, holds of the step
pub at_step : (declared : Images) (w : World) (event : Event) (P : Stepped → Type 0) → ((reason : Reason) → reason_of w event ≡ Some reason → P (not_now w reason))
    → ((p : Proc) → at w (pid_of event) ≡ Some p → IsTrue (is_alive (at w (pid_of event))) → P (happened declared w p.body event)) → P (step_of declared w event)
unfolding step_of
at_step declared w event P refused possible = at_reason declared w event (reason_of w event) P refl refused possible

-- what holds where no signal is due, and of the delivery of each, holds of the one that is due
pub at_delivery : (w : World) (pid : ℕ) (body : Body) (o : Option ℕ) (P : Stepped → Type 0) → P (not_now w NothingWaits)
    → ((n : ℕ) → P (signal_answered n (delivered w pid body n))) → P (delivery w pid body o)
at_delivery w pid body None P none each = none
at_delivery w pid body (Some n) P none each = each n
