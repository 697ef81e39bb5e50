-- What wait4(2) tells keeps the rules of the world.
use Rattle.std.proofs.Common.{◌≡◌, ◌≢◌, ◌∙◌, ◌==◌, ℕ, arith, ap, sym, refl, subst, Bool, true, false, cond, IsTrue, List, [], ◌∷◌, Option, None, Some}
use Rattle.sk_world.specs.Common.{is_some, option_map_or, unwrap_or, INIT, Proc, Request, Told, NoMatch, NotReady, pids, World, at, is_zombie, parent_of, stored, changed, IsWorld, is_init, is_asked_for, is_match, is_ready, has_match, status_of, without_note, told}
use Rattle.std.specs.List.{find}
use Rattle.sk_world.proofs.Common.{false≢true, eqb-true, and_parts, cond_both}
use Rattle.sk_world.specs.laws.WorldLaws.{ToldKeepsRules}
use Rattle.sk_world.proofs.Stored.{kept_changed, kept_removed}
use Rattle.sk_world.proofs.StatusChanges.{by_first, ready_first}

-- what a search finds passes the test
pub found : (p : ℕ → Bool) (xs : List ℕ) (n : ℕ) → find p xs ≡ Some n → IsTrue (p n)
found p [] n is = absurd (false≢true (ap is_some is))
found p (x ∷ xs) n is =
    elim (p x) as (λ b. p x ≡ b → cond b (Some x) (find p xs) ≡ Some n → IsTrue (p n)) [
      | true ↦ λ passes is. ap p (sym (ap (λ o. unwrap_or o n) is)) ∙ passes
      | false ↦ λ fails is. found p xs n is
    ] refl is

-- a child that is told of has this parent
pub match_parent : (caller : ℕ) (request : Request) (pid : ℕ) (o : Option Proc) → IsTrue (is_match caller request pid o) → parent_of o ≡ caller
match_parent caller request pid None is = absurd (false≢true is)
match_parent caller request pid (Some p) is = eqb-true p.links.parent caller (and_parts (p.links.parent == caller) (is_asked_for request.who pid p) is).0

pub no_parent : (o : Option Proc) → IsTrue (is_init o) → parent_of o ≡ 0
no_parent None init = refl
no_parent (Some p) init = eqb-true p.links.parent 0 (and_parts (p.links.parent == 0) _ init).0

-- process 1 is nobody's child
pub not_init : (w : World) (caller : ℕ) (request : Request) (pid : ℕ) → IsWorld w → IsTrue (is_some (at w caller)) → IsTrue (is_match caller request pid (at w pid)) → pid ≢ INIT
not_init w caller request pid rules alive is one =
    let low = (rules.pids caller alive).0 in
    let parent : 0 ≡ caller = sym (no_parent (at w INIT) rules.init) ∙ ap (λ k. parent_of (at w k)) (sym one) ∙ match_parent caller request pid (at w pid) is in
    absurd (omega arith)

-- a note that is told, or a zombie that goes
kept_telling : (w : World) (pid status : ℕ) → IsWorld w → pid ≢ INIT → IsWorld (told w (Told pid status))
kept_telling w pid status rules ne =
    cond_both (is_zombie (at w pid)) (stored w pid None) (changed w pid without_note) IsWorld (kept_removed w pid rules ne)
    (λ _. kept_changed w pid without_note rules (λ p is. record { ended = refl; init = λ e h. h }))

kept_answer : (w : World) (caller : ℕ) (request : Request) (o : Option ℕ) → find (is_ready w caller request) (pids w.procs) ≡ o → IsWorld w → IsTrue (is_some (at w caller))
    → IsWorld (told w (option_map_or (λ pid. Told pid (unwrap_or (status_of request.options (at w pid)) 0)) o (cond (has_match w caller request) NotReady NoMatch)))
kept_answer w caller request None is rules alive = cond_both (has_match w caller request) NotReady NoMatch (λ poll. IsWorld (told w poll)) (λ _. rules) (λ _. rules)
kept_answer w caller request (Some pid) is rules alive =
    let ready : IsTrue (is_ready w caller request pid) = found (is_ready w caller request) (pids w.procs) pid is in
    kept_telling w pid (unwrap_or (status_of request.options (at w pid)) 0) rules (not_init w caller request pid rules alive (and_parts (is_match caller request pid (at w pid)) _ ready).0)

pub kept_told : ToldKeepsRules
unfolding by_first
kept_told w caller request rules alive =
    subst (λ poll. IsWorld (told w poll)) (sym (ready_first w caller request)) (kept_answer w caller request (find (is_ready w caller request) (pids w.procs)) refl rules alive)
