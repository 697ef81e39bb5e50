-- The rules of the world hold after a change of one body.
use Rattle.std.proofs.Common.{◌≡◌, ◌≢◌, ◌∙◌, IsTrue, ℕ, ap, sym, subst, not, Some, option_map}
use Rattle.sk_kernel.proofs.Common.{not-true, INIT, Body, Proc, World, at, has_ended, has_stopped, is_alive, body_changed, changed, with_body, IsWorld, kept_body, at_here, kept_changed, stopping}

-- a change of a body that leaves the process as alive as it was keeps the rules
pub kept_with_life : (w : World) (pid : ℕ) (f : Body → Body) → ((body : Body) → (f body).life ≡ body.life) → IsWorld w → IsWorld (changed w pid f)
kept_with_life w pid f same rules = kept_changed w pid f rules (λ p is. record {
  ended = ap has_ended (same p.body);
  init = λ e h. ap has_stopped (sym (same p.body)) ∙ h;
})

-- so does a stop of a process that has not ended, but for process 1
pub kept_stopped : (w : World) (pid n : ℕ) → IsWorld w → IsTrue (is_alive (at w pid)) → pid ≢ INIT → IsWorld (changed w pid (stopping n))
kept_stopped w pid n rules alive other = kept_changed w pid (stopping n) rules (λ p is. record {
  ended = sym (not-true (has_ended p.body.life) (ap is_alive (sym is) ∙ alive));
  init = λ e. absurd (other e);
})

-- so does another body of a process, as alive as before
pub kept_alike : (w : World) (pid : ℕ) (p : Proc) (b now : Body) (after : World)
    → IsWorld w → at w pid ≡ Some p → p.body ≡ b → now.life ≡ b.life → after ≡ with_body w pid now → IsWorld after
kept_alike w pid p b now after rules is body same made =
    subst IsWorld (sym made) (kept_body w pid p b now rules is body (ap has_ended same) (λ e h. subst (λ life. IsTrue (has_stopped life)) same h))

-- and the process lives as before
pub alive_alike : (w : World) (pid : ℕ) (p : Proc) (b now : Body) (after : World)
    → IsTrue (is_alive (at w pid)) → at w pid ≡ Some p → p.body ≡ b → now.life ≡ b.life → after ≡ with_body w pid now → IsTrue (is_alive (at after pid))
alive_alike w pid p b now after alive is body same made =
    ap (λ v. is_alive (at v pid)) made
    ∙ ap is_alive (at_here w pid (option_map (body_changed (λ old. now)) (at w pid)) ∙ ap (option_map (body_changed (λ old. now))) is)
    ∙ ap (λ life. not (has_ended life)) (same ∙ ap (λ x. x.life) (sym body))
    ∙ ap is_alive (sym is) ∙ alive
