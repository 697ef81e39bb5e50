-- A change through `body_mut`, as a change of the world.
use Rattle.std.proofs.Common.{◌≡◌, ◌∙◌, ◌==◌, ℕ, ap, sym, refl, subst, true, false, cond, IsTrue, Option, Some, None}
use Rattle.sk_world.specs.Common.{option_map, option_map_or, INIT, Body, Proc, get, store, World, at, has_ended, has_stopped, stored, body_changed, changed, with_body, IsWorld}
use Rattle.sk_world.proofs.Maps.{same_map, get_store, equal_numbers}
use Rattle.sk_world.proofs.Stored.{kept_changed}

-- a process that is put where it is already changes nothing
pub kept_at : (w : World) (pid : ℕ) (o : Option Proc) → at w pid ≡ o → stored w pid o ≡ w
kept_at w pid o is =
    let same : store w.procs pid o ≡ w.procs = same_map _ _ (λ q.
    get_store w.procs pid o q
    ∙ elim (q == pid) as (λ b. (q == pid) ≡ b → cond b o (get w.procs q) ≡ get w.procs q) [
      | true ↦ λ e. sym is ∙ ap (get w.procs) (sym (equal_numbers q pid e))
      | false ↦ λ _. refl
    ] refl) in
    λ i. record { procs = same i; last = w.last }

-- the body that was lent is given back changed
pub given_back : (w : World) (pid : ℕ) (f : Body → Body) (p : Proc) (b : Body) → at w pid ≡ Some p → p.body ≡ b → with_body w pid (f b) ≡ changed w pid f
given_back w pid f p b is body =
    ap (λ o. stored w pid (option_map (body_changed (λ old. f b)) o)) is
    ∙ ap (λ x. stored w pid (Some (record p { body = f x }))) (sym body)
    ∙ sym (ap (λ o. stored w pid (option_map (body_changed f) o)) is)

-- nobody's body is changed
pub nobody_there : (w : World) (pid : ℕ) (f : Body → Body) → at w pid ≡ None → w ≡ changed w pid f
nobody_there w pid f is = sym (ap (λ o. stored w pid (option_map (body_changed f) o)) is ∙ kept_at w pid None is)

-- a new body that has ended just as the old one had, and is not newly stopped in process 1, keeps the rules
pub kept_body : (w : World) (pid : ℕ) (p : Proc) (b now : Body) → IsWorld w → at w pid ≡ Some p → p.body ≡ b → has_ended now.life ≡ has_ended b.life
    → (pid ≡ INIT → IsTrue (has_stopped now.life) → IsTrue (has_stopped b.life)) → IsWorld (with_body w pid now)
kept_body w pid p b now rules is body ended stopped = kept_changed w pid (λ old. now) rules (λ q there. record {
  ended = ended ∙ ap (λ x. has_ended x.life) (same q there);
  init = λ e h. subst (λ x. IsTrue (has_stopped x.life)) (same q there) (stopped e h);
})
  where
    same : (q : Proc) → at w pid ≡ Some q → b ≡ q.body
    same q there = sym body ∙ ap (λ o. option_map_or (λ x. x.body) o p.body) (sym is ∙ there)
