-- The first of the status changes is what the first child that is ready has to tell.
use Rattle.std.proofs.Common.{◌≡◌, ℕ, ap, sym, refl, Bool, true, false, cond, ◌&&◌, List, [], ◌∷◌, Option, None, Some}
use Rattle.sk_world.specs.Common.{is_some, option_map_or, unwrap_or, first, Request, Poll, Told, NoMatch, NotReady, pids, World, at, is_match, is_ready, has_match, with_status, status_changes, first_told, ready_of, status_of}

-- what is told of the first child that is ready
unfoldable pub by_first : World → ℕ → Request → List ℕ → Poll → Poll
by_first w caller request xs none = option_map_or (λ pid. Told pid (unwrap_or (status_of request.options (at w pid)) 0)) (first (is_ready w caller request) xs) none

-- it is the first of the status changes
first_is_told : (w : World) (caller : ℕ) (request : Request) (xs : List ℕ) (none : Poll) → first_told (status_changes w caller request xs) none ≡ by_first w caller request xs none
unfolding by_first
first_is_told w caller request [] none = refl
first_is_told w caller request (pid ∷ xs) none =
    by_tests (first_is_told w caller request xs none) (is_match caller request pid (at w pid)) (status_of request.options (at w pid)) refl
  where
    by_tests : first_told (status_changes w caller request xs) none ≡ by_first w caller request xs none → (matches : Bool) (status : Option ℕ) → status_of request.options (at w pid) ≡ status
        → first_told (cond matches (with_status pid status (status_changes w caller request xs)) (status_changes w caller request xs)) none
        ≡ option_map_or (λ k. Told k (unwrap_or (status_of request.options (at w k)) 0)) (cond (matches && is_some status) (Some pid) (first (is_ready w caller request) xs)) none
    by_tests rest true (Some status) is = ap (λ o. Told pid (unwrap_or o 0)) (sym is)
    by_tests rest true None is = rest
    by_tests rest false status is = rest

pub ready_first : (w : World) (caller : ℕ) (request : Request) → ready_of w caller request ≡ by_first w caller request (pids w.procs) (cond (has_match w caller request) NotReady NoMatch)
ready_first w caller request = first_is_told w caller request (pids w.procs) (cond (has_match w caller request) NotReady NoMatch)
