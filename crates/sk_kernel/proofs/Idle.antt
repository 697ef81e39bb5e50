-- Who is blocked cannot run.
use Rattle.std.proofs.Common.{◌≡◌, ◌∙◌, ℕ, ap, sym, refl, Bool, true, false, not, ◌==◌, ◌&&◌, ◌||◌, IsTrue, Option, None, Some, is_some}
use Rattle.sk_kernel.proofs.Common.{false≢true, Life, Running, Stopped, Zombie, Waiting, Body, Proc, Request, WaitOptions, pids, World, at, has_ended, has_stopped, is_halted, is_alive, is_stopped, is_asked_for, is_match, is_ready, status_of_body, status_of, any_here, none_any, signal_for, signal_due, waits_no_more, goes_on, is_runnable, is_unreported, has_status_change, has_change_for, KeepsWaiting, BlockedBy, BlockedAs, IsBlocked}
use Rattle.sk_world.specs.declared.process.Note.{Note}
use Rattle.sk_world.specs.declared.process.Note.TheVariants as note
use Rattle.sk_world.specs.declared.process.Waiting.TheVariants as waiting

and_none : (b : Bool) → (b && false) ≡ false
and_none true = refl
and_none false = refl

-- where there is no status change wait4(2) finds no status, whatever it asks for
unchanged : (options : WaitOptions) (n : Note) (l : Life) → (has_ended l || is_unreported n) ≡ false → is_some (status_of_body options n l) ≡ false
unchanged options n (Zombie status) none = absurd (false≢true (sym none))
unchanged options note.Nothing Stopped none = refl
unchanged options (note.Stopped n) Stopped none = absurd (false≢true (sym none))
unchanged options note.Continued Stopped none = absurd (false≢true (sym none))
unchanged options note.Nothing Running none = refl
unchanged options (note.Stopped n) Running none = absurd (false≢true (sym none))
unchanged options note.Continued Running none = absurd (false≢true (sym none))

-- who has no status change for the parent is not ready
pub unready_as : (parent : ℕ) (request : Request) (pid : ℕ) (o : Option Proc) → has_change_for parent o ≡ false → (is_match parent request pid o && is_some (status_of request.options o)) ≡ false
unready_as parent request pid None none = refl
unready_as parent request pid (Some p) none =
    elim (p.links.parent == parent) as (λ b. (b && has_status_change p.body) ≡ false → ((b && is_asked_for request.who pid p) && is_some (status_of_body request.options p.body.note p.body.life)) ≡ false) [
      | true ↦ λ none. ap (λ b. is_asked_for request.who pid p && b) (unchanged request.options p.body.note p.body.life none) ∙ and_none (is_asked_for request.who pid p)
      | false ↦ λ _. refl
    ] none

match_is_there : (caller : ℕ) (request : Request) (pid : ℕ) (o : Option Proc) → IsTrue (is_match caller request pid o) → IsTrue (is_some o)
match_is_there caller request pid None match = match
match_is_there caller request pid (Some p) match = refl

still_waits : (w : World) (pid : ℕ) (for : Waiting) → KeepsWaiting w pid for → waits_no_more w pid for ≡ false
still_waits w pid waiting.Nothing keeps = absurd (false≢true keeps)
still_waits w pid waiting.Pause keeps = refl
still_waits w pid (waiting.Asks request) keeps =
    let child = keeps.matched.0 in
    λ i. none_any (is_ready w pid request) (pids w.procs) keeps.unready i
    || not (any_here (λ q. is_match pid request q (at w q)) w.procs.entries child (match_is_there pid request child (at w child) keeps.matched.1) keeps.matched.1 i)

by_life : (w : World) (pid : ℕ) (body : Body) (l : Life) (runs : Bool) → BlockedBy w pid body l
    → ((runs && not (has_ended l)) && (is_some (signal_for body) || (not (has_stopped l) && waits_no_more w pid body.waiting))) ≡ false
by_life w pid body l false blocked = refl
by_life w pid body (Zombie status) true blocked = refl
by_life w pid body Stopped true blocked = ap (λ b. b || false) blocked
by_life w pid body Running true blocked = λ i. blocked.0 i || still_waits w pid body.waiting blocked.1 i

as_is : (w : World) (pid : ℕ) (o : Option Proc) (runs : Bool) → BlockedAs w pid o
    → ((runs && is_alive o) && (is_some (signal_due o) || (not (is_stopped o) && goes_on w pid o))) ≡ false
as_is w pid None true blocked = refl
as_is w pid None false blocked = refl
as_is w pid (Some p) runs blocked = by_life w pid p.body p.body.life runs blocked

pub cannot_run : (w : World) (pid : ℕ) → IsBlocked w pid → is_runnable w pid ≡ false
cannot_run w pid blocked = as_is w pid (at w pid) (not (is_halted w)) blocked
