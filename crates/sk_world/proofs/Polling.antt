-- Whom a search from child to child tells of.
use Rattle.std.proofs.Common.{◌≡◌, ◌∙◌, ◌<◌, ◌≤◌, ℕ, arith, ap, sym, refl, subst, Bool, true, false, cond, ◌&&◌, ⊎_elim, IsTrue, Option, None, Some}
use Rattle.sk_world.specs.Common.{is_some, option_map_or, unwrap_or, Proc, Request, Poll, Told, NoMatch, NotReady, pids, World, at, is_child_of, is_asked_for, is_match, is_ready, has_match, ready_of, status_of}
use Rattle.std.specs.List.{find}
use Rattle.sk_world.proofs.Common.{false≢true, cases_lt, and_parts}
use Rattle.sk_world.proofs.StatusChanges.{by_first, ready_first}
use Rattle.sk_world.proofs.Telling.{ready_lowest, no_match, not_ready}

-- what is told of a child
is_told : World → Request → ℕ → Poll
is_told w request pid = Told pid (unwrap_or (status_of request.options (at w pid)) 0)

-- what is told, by what the search finds
answer : World → ℕ → Request → Option ℕ → Poll
answer w caller request found = option_map_or (is_told w request) found (cond (has_match w caller request) NotReady NoMatch)

-- what the search finds says what is told
by_search : (w : World) (caller : ℕ) (request : Request) (P : Poll → Type 0)
    → ((pid : ℕ) → ready_of w caller request ≡ is_told w request pid → P (is_told w request pid))
    → (ready_of w caller request ≡ NotReady → P NotReady)
    → (ready_of w caller request ≡ NoMatch → P NoMatch)
    → P (ready_of w caller request)
unfolding is_told answer by_first
by_search w caller request P found waits none = subst P (sym (ready_first w caller request)) (
    elim (find (is_ready w caller request) (pids w.procs)) as (λ o. ready_of w caller request ≡ answer w caller request o → P (answer w caller request o)) [
      | Some pid ↦ λ is. found pid is
      | None ↦ elim (has_match w caller request) as (λ b. ready_of w caller request ≡ cond b NotReady NoMatch → P (cond b NotReady NoMatch)) [ true ↦ waits | false ↦ none ]
    ] (ready_first w caller request))

-- a child that matches and has a status to tell is ready
ready_by : (w : World) (caller : ℕ) (request : Request) (pid status : ℕ) → status_of request.options (at w pid) ≡ Some status → IsTrue (is_match caller request pid (at w pid)) → IsTrue (is_ready w caller request pid)
ready_by w caller request pid status is match = (λ i. match i && is_some (is i))

same_when_least : (a b : ℕ) → a ≤ b → (a < b → ⊥) → a ≡ b
same_when_least a b le never = ⊎_elim (λ lt. absurd (never lt)) (λ ge. omega arith) (cases_lt a b)

-- a ready child is told of, if none below it is ready
pub told_of : (w : World) (caller : ℕ) (request : Request) (pid status : ℕ) → status_of request.options (at w pid) ≡ Some status → IsTrue (is_match caller request pid (at w pid))
    → ((q : ℕ) → q < pid → is_ready w caller request q ≡ false) → Told pid status ≡ ready_of w caller request
unfolding is_told
told_of w caller request pid status is match before =
    let ready = ready_by w caller request pid status is match in
    by_search w caller request (λ r. Told pid status ≡ r)
    (λ p e.
    let lowest = ready_lowest w caller request p _ e in
    let same : p ≡ pid = same_when_least p pid (lowest.2 pid ready) (λ lt. false≢true (sym (before p lt) ∙ lowest.0)) in
    ap (λ o. Told pid (unwrap_or o 0)) (sym is) ∙ ap (λ k. Told k (unwrap_or (status_of request.options (at w k)) 0)) (sym same))
    (λ e. absurd (false≢true (sym ((not_ready w caller request e).1 pid) ∙ ready)))
    (λ e. absurd (false≢true (sym (no_match w caller request e pid) ∙ match)))

-- the call goes on waiting where somebody matches and nobody is ready
pub goes_on : (w : World) (caller : ℕ) (request : Request) → ((q : ℕ) → is_ready w caller request q ≡ false) → (q : ℕ) × IsTrue (is_match caller request q (at w q)) → NotReady ≡ ready_of w caller request
unfolding is_told
goes_on w caller request none some =
    by_search w caller request (λ r. NotReady ≡ r)
    (λ p e. absurd (false≢true (sym (none p) ∙ (ready_lowest w caller request p _ e).0)))
    (λ e. refl)
    (λ e. absurd (false≢true (sym (no_match w caller request e some.0) ∙ some.1)))

-- nobody matches
pub nobody : (w : World) (caller : ℕ) (request : Request) → ((q : ℕ) → is_match caller request q (at w q) ≡ false) → NoMatch ≡ ready_of w caller request
unfolding is_told
nobody w caller request none =
    by_search w caller request (λ r. NoMatch ≡ r)
    (λ p e. absurd (false≢true (sym (none p) ∙ (and_parts _ _ (ready_lowest w caller request p _ e).0).0)))
    (λ e. let some = (not_ready w caller request e).0 in absurd (false≢true (sym (none some.0) ∙ some.1)))
    (λ e. refl)

-- who is no child matches no request
pub child_by : (caller : ℕ) (request : Request) (pid : ℕ) (o : Option Proc) → is_child_of caller o ≡ false → is_match caller request pid o ≡ false
child_by caller request pid None h = refl
child_by caller request pid (Some p) h = ap (λ b. b && is_asked_for request.who pid p) h

-- none up to a pid matches, and none above it is a child
pub unmatched_by : (w : World) (caller : ℕ) (request : Request) (after : ℕ) → ((q : ℕ) → q ≤ after → is_match caller request q (at w q) ≡ false)
    → ((q : ℕ) → after < q → is_child_of caller (at w q) ≡ false) → (q : ℕ) → is_match caller request q (at w q) ≡ false
unmatched_by w caller request after low high q = ⊎_elim (λ lt. child_by caller request q (at w q) (high q lt)) (λ ge. low q ge) (cases_lt after q)

-- who does not match is not ready
unready_match : (w : World) (caller : ℕ) (request : Request) (q : ℕ) → is_match caller request q (at w q) ≡ false → is_ready w caller request q ≡ false
unready_match w caller request q none = ap (λ b. b && is_some (status_of request.options (at w q))) none

-- up to a bound that the walk from child to child has come to
pub unready_by : (w : World) (caller : ℕ) (request : Request) (after : ℕ) (P : ℕ → Type 0) → ((q : ℕ) → q ≤ after → is_ready w caller request q ≡ false)
    → ((q : ℕ) → after < q → P q → is_child_of caller (at w q) ≡ false) → (q : ℕ) → P q → is_ready w caller request q ≡ false
unready_by w caller request after P low high q h = ⊎_elim (λ lt. unready_match w caller request q (child_by caller request q (at w q) (high q lt h))) (λ ge. low q ge) (cases_lt after q)

and_none : (b : Bool) → (b && false) ≡ false
and_none true = refl
and_none false = refl

-- nor is a child that has nothing to tell, and so nobody up to it
pub unready_up_to : (w : World) (caller : ℕ) (request : Request) (after child : ℕ) → ((q : ℕ) → q ≤ after → is_ready w caller request q ≡ false)
    → ((q : ℕ) → after < q → q < child → is_child_of caller (at w q) ≡ false) → status_of request.options (at w child) ≡ None
    → (q : ℕ) → q ≤ child → is_ready w caller request q ≡ false
unready_up_to w caller request after child low between none q le = ⊎_elim
    (λ lt. unready_by w caller request after (λ k. k < child) low between q lt)
    (λ ge. subst (λ k. is_ready w caller request k ≡ false) (last ge) here)
    (cases_lt q child)
  where
    last : child ≤ q → child ≡ q
    last ge = omega arith

    here : is_ready w caller request child ≡ false
    here = ap (λ o. is_match caller request child (at w child) && is_some o) none ∙ and_none (is_match caller request child (at w child))
