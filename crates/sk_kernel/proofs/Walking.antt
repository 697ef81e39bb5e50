-- Whether a call that waits would end.
use Rattle.std.proofs.Common.{◌≡◌, ◌∙◌, ℕ, ap, sym, refl, Bool, true, false, not, ◌&&◌, ◌||◌, IsTrue, Option, None, Some, is_some}
use Rattle.sk_kernel.proofs.Common.{list_any, Proc, Request, pids, World, at, is_match, is_ready, has_match, ready_of, status_of, any_here, none_any, waits_no_more}
use Rattle.sk_world.specs.declared.process.Waiting.TheVariants.{Asks}
use Rattle.sk_world.specs.declared.request.Poll.TheVariants.{Told, NoMatch, NotReady}
use Rattle.sk_world.proofs.Telling.{ready_lowest, no_match, not_ready}

and_none : (b : Bool) → (b && false) ≡ false
and_none true = refl
and_none false = refl

or_true : (b : Bool) → (b || true) ≡ true
or_true true = refl
or_true false = refl

match_is_there : (caller : ℕ) (request : Request) (pid : ℕ) (o : Option Proc) → IsTrue (is_match caller request pid o) → IsTrue (is_some o)
match_is_there caller request pid None match = match
match_is_there caller request pid (Some p) match = refl

-- it goes on waiting where children match and none is ready
pub goes_on_waiting : (w : World) (pid : ℕ) (request : Request) → ready_of w pid request ≡ NotReady → false ≡ waits_no_more w pid (Asks request)
goes_on_waiting w pid request is =
    let waits = not_ready w pid request is in
    sym (λ i. none_any (is_ready w pid request) (pids w.procs) waits.1 i
    || not (any_here (λ q. is_match pid request q (at w q)) w.procs.entries waits.0.0 (match_is_there pid request waits.0.0 (at w waits.0.0) waits.0.1) waits.0.1 i))

-- it ends where one is ready
pub ends_by_child : (w : World) (pid : ℕ) (request : Request) (child status : ℕ) → ready_of w pid request ≡ Told child status → true ≡ waits_no_more w pid (Asks request)
ends_by_child w pid request child status is =
    let ready = (ready_lowest w pid request child status is).0 in
    sym (ap (λ b. b || not (has_match w pid request)) (any_here (is_ready w pid request) w.procs.entries child (ready_is_there (at w child) ready) ready))
  where
    ready_is_there : (o : Option Proc) → IsTrue (is_match pid request child o && is_some (status_of request.options o)) → IsTrue (is_some o)
    ready_is_there None ready = ready
    ready_is_there (Some p) ready = refl

-- and where none matches
pub ends_by_none : (w : World) (pid : ℕ) (request : Request) → ready_of w pid request ≡ NoMatch → true ≡ waits_no_more w pid (Asks request)
ends_by_none w pid request is =
    sym (ap (λ b. list_any (is_ready w pid request) (pids w.procs) || not b) (none_any (λ q. is_match pid request q (at w q)) (pids w.procs) (no_match w pid request is))
    ∙ or_true (list_any (is_ready w pid request) (pids w.procs)))
