-- The number of a child is nobody's.
use Rattle.std.proofs.Common.{◌≡◌, ◌∙◌, ◌==◌, ℕ, ap, sym, refl, Bool, true, false, cond, ◌||◌, IsTrue, List, [], ◌∷◌, Some}
use Rattle.sk_laws.specs.Common.{is_some, unwrap_or, list_any, nat_cmp, PROCESSES, Proc, count, World, at, has_number, is_used, fresh_of}
use Rattle.std.specs.FinMap.Entries.{find}
use Rattle.sk_world.proofs.Common.{false≢true, eq-eqb, eqb-true, ltb-true, or_left, or_right}
use Rattle.sk_laws.specs.ChangeLaws.{NumberIsNew}
use Rattle.sk_world.proofs.Maps.{same_number}
use Rattle.sk_world.proofs.Fresh.{fresh_unused}

-- what holds of the entry of a process that is found holds of an entry
any_found : (f : ℕ × Proc → Bool) (es : List (ℕ × Proc)) (q : ℕ) (p : Proc) → find nat_cmp q es ≡ Some p → IsTrue (f (q, p)) → IsTrue (list_any f es)
any_found f [] q p is holds = absurd (false≢true (ap is_some is))
any_found f (e ∷ es) q p is holds =
    elim (q == e.0) as (λ b. (q == e.0) ≡ b → cond b (Some e.1) (find nat_cmp q es) ≡ Some p → IsTrue (f e || list_any f es)) [
      | true ↦ λ same is.
          let value : e.1 ≡ p = ap (λ o. unwrap_or o p) is in
          or_left (f e) (list_any f es) ((λ i. f (sym (eqb-true q e.0 same) i, value i)) ∙ holds)
      | false ↦ λ _ is. or_right (f e) (list_any f es) (any_found f es q p is holds)
    ] refl (ap (λ b. cond b (Some e.1) (find nat_cmp q es)) (sym (same_number q e.0)) ∙ is)

used_by : (w : World) (n q : ℕ) (p : Proc) → is_used w n ≡ false → at w q ≡ Some p → IsTrue (has_number n (q, p)) → ⊥
used_by w n q p free is has = false≢true (sym free ∙ any_found (has_number n) w.procs.entries q p is has)

pub number_new : NumberIsNew
number_new w q p rules room is =
    let free = fresh_unused w (ltb-true (count w.procs) PROCESSES room) rules.last.0 in
    let n = fresh_of w in (
      (λ e. used_by w n q p free is (or_left ((q == n) || (p.links.group == n)) (p.links.session == n) (or_left (q == n) (p.links.group == n) (eq-eqb q n (sym e))))),
      (λ e. used_by w n q p free is (or_left ((q == n) || (p.links.group == n)) (p.links.session == n) (or_right (q == n) (p.links.group == n) (eq-eqb p.links.group n (sym e))))),
      (λ e. used_by w n q p free is (or_right ((q == n) || (p.links.group == n)) (p.links.session == n) (eq-eqb p.links.session n (sym e)))),
    )
