-- Who the children of a process go to, as an ancestor so many steps up.
use Rattle.std.proofs.Common.{◌≡◌, ◌∙◌, ◌<◌, ℕ, zero, suc, arith, ap, sym, refl, Bool, true, false, cond, [], ◌∷◌, ◌⊎◌, inl, inr, IsTrue, Option, None, Some}
use Rattle.std.specs.Prelude.{find}
use Rattle.sk_laws.specs.Common.{is_some, unwrap_or, INIT, PROCESSES, Proc, World, at, parent_of, IsWorld, is_subreaper, line_up, ancestors, takes_children, new_parent}
use Rattle.sk_world.proofs.Common.{false≢true, and_parts}
use Rattle.sk_world.proofs.Ancestors.{found_or, new_parent_by, new_parent_other, new_parent_alive, subreaper_there, zero_is_nobody}
use Rattle.sk_laws.specs.ReaperLaws.{ancestor, NewParentLives, WithoutSubreapers, NearestSubreaper, NewParentIsAncestor}

pub without_subreapers : WithoutSubreapers
without_subreapers w pid none = new_parent_by w pid (λ q. q ≡ INIT) refl (λ q is _. absurd (false≢true (sym (none q) ∙ is)))

pub new_parent_lives : NewParentLives
new_parent_lives w pid rules going there ne = (new_parent_alive w pid rules going there, new_parent_other w pid ne)

-- who is found is so many steps up
steps_up : (w : World) (t : ℕ → Bool) (m pid q : ℕ) → find t (line_up m w pid) ≡ Some q → (n : ℕ) × (n < m) × (q ≡ ancestor n w pid)
steps_up w t zero pid q is = absurd (false≢true (ap is_some is))
steps_up w t (suc m) pid q is =
    elim (is_some (at w pid)) as (λ b. find t (cond b (pid ∷ line_up m w (parent_of (at w pid))) []) ≡ Some q → (n : ℕ) × (n < suc m) × (q ≡ ancestor n w pid)) [
      | true ↦ λ is.
          elim (t pid) as (λ b. cond b (Some pid) (find t (line_up m w (parent_of (at w pid)))) ≡ Some q → (n : ℕ) × (n < suc m) × (q ≡ ancestor n w pid)) [
            | true ↦ λ is. (0, omega arith, sym (ap (λ o. unwrap_or o pid) is))
            | false ↦ λ is. let up = steps_up w t m (parent_of (at w pid)) q is in let near = up.1 in (suc up.0, omega arith, up.2)
          ] is
      | false ↦ λ is. absurd (false≢true (ap is_some is))
    ] is

pub new_parent_up : NewParentIsAncestor
unfolding new_parent ancestors
new_parent_up w pid = found_or (find (takes_children w pid) (ancestors w pid)) (λ q. (q ≡ INIT) ⊎ ((n : ℕ) × (n < PROCESSES) × (q ≡ ancestor (suc n) w pid)))
    (λ q is. inr (steps_up w (takes_children w pid) PROCESSES (parent_of (at w pid)) q is)) (λ _. inl refl)

-- nobody is above process 0
nobody_above : (w : World) (n pid : ℕ) → at w 0 ≡ None → at w pid ≡ None → at w (ancestor n w pid) ≡ None
nobody_above w zero pid bottom none = none
nobody_above w (suc n) pid bottom none = nobody_above w n (parent_of (at w pid)) bottom (ap (λ o. at w (parent_of o)) none ∙ bottom)

absent : (o : Option Proc) → is_some o ≡ false → o ≡ None
absent None is = refl
absent (Some p) is = absurd (false≢true (sym is))

-- the first of the line up that passes is found
first_up : (w : World) (t : ℕ → Bool) → IsWorld w → ((q : ℕ) → IsTrue (t q) → IsTrue (is_some (at w q))) → (n m pid : ℕ) → n < m → IsTrue (t (ancestor n w pid))
    → ((k : ℕ) → k < n → t (ancestor k w pid) ≡ false) → find t (line_up m w pid) ≡ Some (ancestor n w pid)
first_up w t rules known n zero pid lt passes before = absurd (omega arith)
first_up w t rules known zero (suc m) pid lt passes before =
    ap (λ b. find t (cond b (pid ∷ line_up m w (parent_of (at w pid))) [])) (known pid passes)
    ∙ ap (λ b. cond b (Some pid) (find t (line_up m w (parent_of (at w pid))))) passes
first_up w t rules known (suc n) (suc m) pid lt passes before =
    elim (is_some (at w pid)) as (λ b. is_some (at w pid) ≡ b → find t (cond b (pid ∷ line_up m w (parent_of (at w pid))) []) ≡ Some (ancestor n w (parent_of (at w pid)))) [
      | true ↦ λ _.
          ap (λ b. cond b (Some pid) (find t (line_up m w (parent_of (at w pid))))) (before 0 (omega arith))
          ∙ first_up w t rules known n m (parent_of (at w pid)) (omega arith) passes (λ k lt. before (suc k) (omega arith))
      | false ↦ λ none.
          let bottom = zero_is_nobody w rules in
          let nobody = nobody_above w (suc n) pid bottom (absent (at w pid) none) in
          absurd (false≢true (ap is_some (sym nobody) ∙ known (ancestor (suc n) w pid) passes))
    ] refl

takes_there : (w : World) (pid q : ℕ) → IsTrue (takes_children w pid q) → IsTrue (is_some (at w q))
takes_there w pid q takes = subreaper_there (at w q) (and_parts (is_subreaper (at w q)) _ takes).0

pub nearest_subreaper : NearestSubreaper
unfolding new_parent ancestors
nearest_subreaper w pid n rules within takes nearer =
    ap (λ o. unwrap_or o INIT) (first_up w (takes_children w pid) rules (takes_there w pid) n PROCESSES (parent_of (at w pid)) within takes nearer)
