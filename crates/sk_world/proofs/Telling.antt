-- Whom wait4(2) tells of.
use Rattle.std.proofs.Common.{◌≡◌, ◌≢◌, ◌∙◌, ◌<◌, ◌≤◌, ◌==◌, ℕ, arith, ap, sym, refl, subst, Bool, true, false, cond, ◌&&◌, ◌||◌, IsTrue, IsFalse, List, [], ◌∷◌, map, Option, None, Some}
use Rattle.std.specs.Prelude.{T, nat_lt}
use Rattle.sk_world.specs.Common.{Less, Equal, Greater, is_some, option_map_or, unwrap_or, first, list_any, nat_cmp, is_lt, find, is_sorted, Proc, Request, Poll, Told, NoMatch, NotReady, pids, World, at, is_zombie, stored, changed, is_match, is_ready, has_match, ready_of, status_of, without_note, told}
use Rattle.std.specs.FinMap.Entries.{below_all}
use Rattle.sk_world.proofs.Common.{false≢true, eqb-true, ltb-true, and_parts, or_parts, false_from_ne_true}
use Rattle.sk_world.proofs.Maps.{same_number}
use Rattle.sk_world.proofs.Stored.{at_here}
use Rattle.sk_world.proofs.StatusChanges.{by_first, ready_first}
use Rattle.sk_world.proofs.KeptTold.{found}

told_pid : Poll → Option ℕ
told_pid (Told pid status) = Some pid
told_pid NoMatch = None
told_pid NotReady = None

-- the answer tells of the process that the search found
answered : (found : Option ℕ) (status : ℕ → ℕ) (b : Bool) → told_pid (option_map_or (λ pid. Told pid (status pid)) found (cond b NotReady NoMatch)) ≡ found
unfolding told_pid
answered None status true = refl
answered None status false = refl
answered (Some pid) status b = refl

searched : (w : World) (caller : ℕ) (request : Request) (pid status : ℕ) → ready_of w caller request ≡ Told pid status → first (is_ready w caller request) (pids w.procs) ≡ Some pid
unfolding told_pid by_first
searched w caller request pid status is =
    sym (answered (first (is_ready w caller request) (pids w.procs)) (λ pid. unwrap_or (status_of request.options (at w pid)) 0) (has_match w caller request))
    ∙ ap told_pid (sym (ready_first w caller request) ∙ is)

parts : (a b : Bool) → T (a && b) → T a × T b
parts true b h = (tt, h)
parts false b h = absurd h

comes_first : (x y : ℕ) → T (is_lt (nat_cmp x y)) → x < y
comes_first x y h =
    elim (nat_lt x y) as (λ b. nat_lt x y ≡ b → T (is_lt (cond b Less (cond (x == y) Equal Greater))) → x < y) [
      | true ↦ λ is _. ltb-true x y is
      | false ↦ λ is h. absurd (elim (x == y) as (λ b. T (is_lt (cond b Equal Greater)) → ⊥) [ true ↦ λ h. h | false ↦ λ h. h ] h)
    ] refl h

-- every pid of a rising list is above one that is below all its keys
below_rest : (x : ℕ) (es : List (ℕ × Proc)) → T (below_all nat_cmp x es) → (q : ℕ) → IsTrue (is_some (find nat_cmp q es)) → x < q
below_rest x [] h q there = absurd (false≢true there)
below_rest x (e ∷ es) h q there =
    let both = parts (is_lt (nat_cmp x e.0)) (below_all nat_cmp x es) h in
    elim (q == e.0) as (λ b. (q == e.0) ≡ b → IsTrue (is_some (cond b (Some e.1) (find nat_cmp q es))) → x < q) [
      | true ↦ λ is _. subst (λ k. x < k) (sym (eqb-true q e.0 is)) (comes_first x e.0 both.0)
      | false ↦ λ is there. below_rest x es both.1 q there
    ] refl (ap (λ b. is_some (cond b (Some e.1) (find nat_cmp q es))) (sym (same_number q e.0)) ∙ there)

-- the first pid of a rising list that passes is the least
pub least_found : (p : ℕ → Bool) (es : List (ℕ × Proc)) → T (is_sorted nat_cmp es) → (pid : ℕ) → first p (map (λ e. e.0) es) ≡ Some pid
    → (other : ℕ) → p other ≡ true → IsTrue (is_some (find nat_cmp other es)) → pid ≤ other
least_found p [] rising pid is other passes there = absurd (false≢true there)
least_found p (e ∷ es) rising pid is other passes there =
    let both = parts (below_all nat_cmp e.0 es) (is_sorted nat_cmp es) rising in
    let split : IsTrue (is_some (cond (other == e.0) (Some e.1) (find nat_cmp other es))) = ap (λ b. is_some (cond b (Some e.1) (find nat_cmp other es))) (sym (same_number other e.0)) ∙ there in
    elim (p e.0) as (λ b. p e.0 ≡ b → cond b (Some e.0) (first p (map (λ e. e.0) es)) ≡ Some pid → pid ≤ other) [
      | true ↦ λ _ is.
          let here : e.0 ≡ pid = ap (λ o. unwrap_or o pid) is in
          elim (other == e.0) as (λ b. (other == e.0) ≡ b → IsTrue (is_some (cond b (Some e.1) (find nat_cmp other es))) → pid ≤ other) [
            | true ↦ λ same _. let same = eqb-true other e.0 same in omega arith
            | false ↦ λ _ there. let above = below_rest e.0 es both.0 other there in omega arith
          ] refl split
      | false ↦ λ fails is.
          elim (other == e.0) as (λ b. (other == e.0) ≡ b → IsTrue (is_some (cond b (Some e.1) (find nat_cmp other es))) → pid ≤ other) [
            | true ↦ λ same _. absurd (false≢true (sym fails ∙ ap p (sym (eqb-true other e.0 same)) ∙ passes))
            | false ↦ λ _ there. least_found p es both.1 pid is other passes there
          ] refl split
    ] refl is

match_is_there : (caller : ℕ) (request : Request) (pid : ℕ) (o : Option Proc) → IsTrue (is_match caller request pid o) → IsTrue (is_some o)
match_is_there caller request pid None is = is
match_is_there caller request pid (Some p) is = refl

ready_is_match : (w : World) (caller : ℕ) (request : Request) (pid : ℕ) → IsTrue (is_ready w caller request pid) → IsTrue (is_match caller request pid (at w pid))
ready_is_match w caller request pid ready = (and_parts (is_match caller request pid (at w pid)) (is_some (status_of request.options (at w pid))) ready).0

told_status : Poll → ℕ
told_status (Told pid status) = status
told_status NoMatch = 0
told_status NotReady = 0

its_status : (o : Option ℕ) (status : ℕ) → IsTrue (is_some o) → unwrap_or o 0 ≡ status → o ≡ Some status
its_status None status there is = absurd (false≢true there)
its_status (Some n) status there is = ap Some is

status_told : (w : World) (caller : ℕ) (request : Request) (pid status : ℕ) → ready_of w caller request ≡ Told pid status → unwrap_or (status_of request.options (at w pid)) 0 ≡ status
unfolding told_status by_first
status_told w caller request pid status is =
    sym (ap (λ o. told_status (option_map_or (λ pid. Told pid (unwrap_or (status_of request.options (at w pid)) 0)) o (cond (has_match w caller request) NotReady NoMatch))) (searched w caller request pid status is))
    ∙ ap told_status (sym (ready_first w caller request) ∙ is)

-- it is the lowest child that is ready
pub ready_lowest : (w : World) (caller : ℕ) (request : Request) (pid status : ℕ) → ready_of w caller request ≡ Told pid status
    → IsTrue (is_ready w caller request pid) × (status_of request.options (at w pid) ≡ Some status) × ((other : ℕ) → IsTrue (is_ready w caller request other) → pid ≤ other)
ready_lowest w caller request pid status is =
    let search = searched w caller request pid status is in
    let ready = found (is_ready w caller request) (pids w.procs) pid search in (
      ready,
      its_status (status_of request.options (at w pid)) status (and_parts (is_match caller request pid (at w pid)) _ ready).1 (status_told w caller request pid status is),
      λ other ready.
          least_found (is_ready w caller request) w.procs.entries w.procs.rising pid search other ready
          (match_is_there caller request other (at w other) (ready_is_match w caller request other ready)),
    )

-- no pid passes where the search finds none
pub none_found : (p : ℕ → Bool) (es : List (ℕ × Proc)) → first p (map (λ e. e.0) es) ≡ None → (q : ℕ) → IsTrue (is_some (find nat_cmp q es)) → p q ≡ false
none_found p [] is q there = absurd (false≢true there)
none_found p (e ∷ es) is q there =
    elim (p e.0) as (λ b. p e.0 ≡ b → cond b (Some e.0) (first p (map (λ e. e.0) es)) ≡ None → p q ≡ false) [
      | true ↦ λ _ is. absurd (false≢true (sym (ap is_some is)))
      | false ↦ λ fails is.
          elim (q == e.0) as (λ b. (q == e.0) ≡ b → IsTrue (is_some (cond b (Some e.1) (find nat_cmp q es))) → p q ≡ false) [
            | true ↦ λ same _. ap p (eqb-true q e.0 same) ∙ fails
            | false ↦ λ _ there. none_found p es is q there
          ] refl (ap (λ b. is_some (cond b (Some e.1) (find nat_cmp q es))) (sym (same_number q e.0)) ∙ there)
    ] refl is

pub some_passes : (p : ℕ → Bool) (xs : List ℕ) → list_any p xs ≡ true → (q : ℕ) × IsTrue (p q)
some_passes p [] any = absurd (false≢true any)
some_passes p (x ∷ xs) any =
    elim (p x) as (λ b. p x ≡ b → (b || list_any p xs) ≡ true → (q : ℕ) × IsTrue (p q)) [
      | true ↦ λ passes _. (x, passes)
      | false ↦ λ _ any. some_passes p xs any
    ] refl any

pub none_passes : (p : ℕ → Bool) (es : List (ℕ × Proc)) → list_any p (map (λ e. e.0) es) ≡ false → (q : ℕ) → IsTrue (is_some (find nat_cmp q es)) → p q ≡ false
none_passes p [] none q there = absurd (false≢true there)
none_passes p (e ∷ es) none q there =
    let both = or_parts (p e.0) (list_any p (map (λ e. e.0) es)) none in
    elim (q == e.0) as (λ b. (q == e.0) ≡ b → IsTrue (is_some (cond b (Some e.1) (find nat_cmp q es))) → p q ≡ false) [
      | true ↦ λ same _. ap p (eqb-true q e.0 same) ∙ both.0
      | false ↦ λ _ there. none_passes p es both.1 q there
    ] refl (ap (λ b. is_some (cond b (Some e.1) (find nat_cmp q es))) (sym (same_number q e.0)) ∙ there)

-- whether the answer says that a child matches
says_match : Poll → Bool
says_match (Told pid status) = true
says_match NoMatch = false
says_match NotReady = true

answered_match : (status : ℕ → ℕ) (b : Bool) → says_match (option_map_or (λ pid. Told pid (status pid)) None (cond b NotReady NoMatch)) ≡ b
unfolding says_match
answered_match status true = refl
answered_match status false = refl

-- what the search and the test come to where nobody is told of
unanswered : (w : World) (caller : ℕ) (request : Request) (poll : Poll) → ready_of w caller request ≡ poll → told_pid poll ≡ None
    → (first (is_ready w caller request) (pids w.procs) ≡ None) × (has_match w caller request ≡ says_match poll)
unfolding by_first
unanswered w caller request poll is nobody =
    let status : ℕ → ℕ = λ pid. unwrap_or (status_of request.options (at w pid)) 0 in
    let search : Option ℕ = first (is_ready w caller request) (pids w.procs) in
    let none : search ≡ None = sym (answered search status (has_match w caller request)) ∙ ap told_pid (sym (ready_first w caller request) ∙ is) ∙ nobody in (
      none,
      sym (ap (λ o. says_match (option_map_or (λ pid. Told pid (status pid)) o (cond (has_match w caller request) NotReady NoMatch))) none
          ∙ answered_match status (has_match w caller request))
          ∙ ap says_match (sym (ready_first w caller request) ∙ is),
    )

matches_nobody : (w : World) (caller : ℕ) (request : Request) → has_match w caller request ≡ false → (pid : ℕ) → is_match caller request pid (at w pid) ≡ false
matches_nobody w caller request none pid =
    false_from_ne_true (is_match caller request pid (at w pid)) (λ match.
    false≢true (sym (none_passes (λ pid. is_match caller request pid (at w pid)) w.procs.entries none pid (match_is_there caller request pid (at w pid) match)) ∙ match))

-- no child matches
pub no_match : (w : World) (caller : ℕ) (request : Request) → ready_of w caller request ≡ NoMatch → (pid : ℕ) → IsFalse (is_match caller request pid (at w pid))
unfolding told_pid says_match
no_match w caller request is = matches_nobody w caller request (unanswered w caller request NoMatch is refl).1

-- a child matches, and none is ready
pub not_ready : (w : World) (caller : ℕ) (request : Request) → ready_of w caller request ≡ NotReady
    → ((pid : ℕ) × IsTrue (is_match caller request pid (at w pid))) × ((pid : ℕ) → IsFalse (is_ready w caller request pid))
unfolding told_pid says_match
not_ready w caller request is =
    let facts = unanswered w caller request NotReady is refl in (
      some_passes (λ pid. is_match caller request pid (at w pid)) (pids w.procs) facts.1,
      λ pid. false_from_ne_true (is_ready w caller request pid) (λ ready.
          false≢true
          (sym (none_found (is_ready w caller request) w.procs.entries facts.0 pid
          (match_is_there caller request pid (at w pid) (ready_is_match w caller request pid ready)))
          ∙ ready)),
    )

gone : (w : World) (pid status : ℕ) → IsTrue (is_zombie (at w pid)) → at (told w (Told pid status)) pid ≡ None
gone w pid status zombie = ap (λ b. at (cond b (stored w pid None) (changed w pid without_note)) pid) zombie ∙ at_here w pid None

-- a zombie that was told of is not told of again
pub told_once : (w : World) (pid status : ℕ) → IsTrue (is_zombie (at w pid)) → (caller : ℕ) (request : Request) (again : ℕ)
    → ready_of (told w (Told pid status)) caller request ≢ Told pid again
told_once w pid status zombie caller request again is =
    let after : World = told w (Told pid status) in
    let ready = found (is_ready after caller request) (pids after.procs) pid (searched after caller request pid again is) in
    false≢true (ap (is_match caller request pid) (sym (gone w pid status zombie)) ∙ ready_is_match after caller request pid ready)
