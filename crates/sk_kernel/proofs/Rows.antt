-- How a row is met by a change of the caller's body.
use Rattle.std.proofs.Common.{◌≡◌, ◌∙◌, ℕ, ap, sym, refl, subst, Bool, true, false, cond, None, Some, Result, Ok, Err, IfSome, option_map}
use Rattle.sk_kernel.proofs.Common.{result_unwrap_or, Einval, Creds, SignalState, Body, Proc, World, at, stored, changed, body_changed, with_body, kept_at, given_back, answered, Performed, returns, changes, authorises, with_subreaper, where_subreapers, with_signals, resignals, Authority, authority_of, with_authority, with_creds, ComesTo, ActsOn}
use Rattle.sk_world.specs.declared.errno.Errno.{Errno}
use Rattle.sk_world.specs.Errno.{answer_of}
use Rattle.sk_machine.specs.declared.answer.Outcome.{Outcome}
use Rattle.sk_kernel.specs.views.Returned.{done, returned}

-- what is shown at the caller's body
pub comes_to : (w : World) (pid : ℕ) (row : World → Body → Performed) (outcome : Outcome) (after : World) (p : Proc) (b : Body)
    → at w pid ≡ Some p → p.body ≡ b → outcome ≡ (row w b).outcome → after ≡ (row w b).world → ComesTo w pid row outcome after
comes_to w pid row outcome after p b is body told made =
    subst (λ o. IfSome o (λ q. record { outcome : outcome ≡ (row w q.body).outcome; world : after ≡ (row w q.body).world })) (sym is)
    (record { outcome = told ∙ ap (λ x. (row w x).outcome) (sym body); world = made ∙ ap (λ x. (row w x).world) (sym body) })

-- a body that is given back as it was
pub put_back : (w : World) (pid : ℕ) (p : Proc) (b : Body) → at w pid ≡ Some p → p.body ≡ b → with_body w pid b ≡ w
put_back w pid p b is body =
    ap (λ o. stored w pid (option_map (body_changed (λ old. b)) o)) is
    ∙ kept_at w pid (Some (record p { body = b })) (is ∙ ap (λ x. Some (record p { body = x })) body)

-- a call that has changed the body, whatever it was
pub has_acted : (pid : ℕ) (row : World → Body → Performed) (b : Body) (f : Body → Body) (outcome : Outcome) (now : Body)
    → ((w : World) → (outcome ≡ (row w b).outcome) × (changed w pid f ≡ (row w b).world)) → now ≡ f b → ActsOn pid b row outcome now
has_acted pid row b f outcome now says is w p there body =
    comes_to w pid row outcome (with_body w pid now) p b there body (says w).0 (ap (with_body w pid) is ∙ given_back w pid f p b there body ∙ (says w).1)

-- a call that has left it
pub has_left : (pid : ℕ) (row : World → Body → Performed) (b : Body) (outcome : Outcome) (now : Body)
    → ((w : World) → (outcome ≡ (row w b).outcome) × (w ≡ (row w b).world)) → now ≡ b → ActsOn pid b row outcome now
has_left pid row b outcome now says is w p there body =
    comes_to w pid row outcome (with_body w pid now) p b there body (says w).0 (ap (with_body w pid) is ∙ put_back w pid p b there body ∙ (says w).1)

-- a call that has given the caller other signals, or has failed
pub has_resignalled : (pid : ℕ) (r : SignalState → Result SignalState Errno) (b : Body) (answer : Result (Unit {0}) Errno) (s : SignalState) (outcome : Outcome)
    → answer ≡ answer_of (r b.signals) → s ≡ result_unwrap_or (r b.signals) b.signals → outcome ≡ done answer
    → ActsOn pid b (λ w body. resignals w pid (r body.signals)) outcome (with_signals s b)
has_resignalled pid r b answer s outcome answered state told =
    elim (r b.signals) as (λ x. answer ≡ answer_of x → s ≡ result_unwrap_or x b.signals → r b.signals ≡ x → ActsOn pid b (λ w body. resignals w pid (r body.signals)) outcome (with_signals s b)) [
      | Ok t ↦ λ answered state is. has_acted pid _ b (with_signals t) outcome _ (λ w. (told ∙ ap done answered ∙ ap (λ x. (resignals w pid x).outcome) (sym is), ap (λ x. (resignals w pid x).world) (sym is))) (ap (λ x. with_signals x b) state)
      | Err e ↦ λ answered state is. has_left pid _ b outcome _ (λ w. (told ∙ ap done answered ∙ ap (λ x. (resignals w pid x).outcome) (sym is), ap (λ x. (resignals w pid x).world) (sym is))) (ap (λ x. with_signals x b) state)
    ] answered state refl

-- a call that has given the caller another authority, or has failed
pub has_authorised : (pid : ℕ) (r : Authority → Result Authority Errno) (b : Body) (answer : Result (Unit {0}) Errno) (now : Body) (outcome : Outcome)
    → answer ≡ answer_of (r (authority_of b)) → now ≡ with_authority (result_unwrap_or (r (authority_of b)) (authority_of b)) b → outcome ≡ done answer
    → ActsOn pid b (λ w body. authorises w pid (r (authority_of body))) outcome now
has_authorised pid r b answer now outcome answered state told =
    elim (r (authority_of b)) as (λ x. answer ≡ answer_of x → now ≡ with_authority (result_unwrap_or x (authority_of b)) b → r (authority_of b) ≡ x → ActsOn pid b (λ w body. authorises w pid (r (authority_of body))) outcome now) [
      | Ok a ↦ λ answered state is. has_acted pid _ b (with_authority a) outcome now (λ w. (told ∙ ap done answered ∙ ap (λ x. (authorises w pid x).outcome) (sym is), ap (λ x. (authorises w pid x).world) (sym is))) state
      | Err e ↦ λ answered state is. has_left pid _ b outcome now (λ w. (told ∙ ap done answered ∙ ap (λ x. (authorises w pid x).outcome) (sym is), ap (λ x. (authorises w pid x).world) (sym is))) state
    ] answered state refl

answer_with_creds : (a : Authority) (r : Result Creds Errno) → answer_of r ≡ answer_of (with_creds a r)
answer_with_creds a (Ok creds) = refl
answer_with_creds a (Err e) = refl

body_with_creds : (b : Body) (r : Result Creds Errno) → record b { creds = result_unwrap_or r b.creds } ≡ with_authority (result_unwrap_or (with_creds (authority_of b) r) (authority_of b)) b
body_with_creds b (Ok creds) = refl
body_with_creds b (Err e) = refl

-- a call that has given the caller other ids, or has failed
pub has_other_ids : (pid : ℕ) (r : Creds → Result Creds Errno) (b : Body) (answer : Result (Unit {0}) Errno) (creds : Creds) (outcome : Outcome)
    → answer ≡ answer_of (r b.creds) → creds ≡ result_unwrap_or (r b.creds) b.creds → outcome ≡ done answer
    → ActsOn pid b (λ w body. authorises w pid (with_creds (authority_of body) (r body.creds))) outcome (record b { creds = creds })
has_other_ids pid r b answer creds outcome answered state told =
    has_authorised pid (λ a. with_creds a (r a.creds)) b answer (record b { creds = creds }) outcome (answered ∙ answer_with_creds (authority_of b) (r b.creds))
    (ap (λ x. record b { creds = x }) state ∙ body_with_creds b (r b.creds)) told

-- a call that has set or cleared the mark of a subreaper, where there are subreapers
pub has_marked : (pid : ℕ) (there mark : Bool) (b : Body) (answer : Result (Unit {0}) Errno) (now : Body) (outcome : Outcome)
    → answer ≡ cond there (Ok tt) (Err Einval) → now ≡ cond there (with_subreaper mark b) b → outcome ≡ done answer
    → ActsOn pid b (λ w body. where_subreapers there w (returns (changed w pid (with_subreaper mark)) 0)) outcome now
has_marked pid true mark b answer now outcome answered state told = has_acted pid _ b (with_subreaper mark) outcome now (λ w. (told ∙ ap done answered, refl)) state
has_marked pid false mark b answer now outcome answered state told = has_left pid _ b outcome now (λ w. (told ∙ ap done answered, refl)) state

-- a row that asks nothing of the caller
pub comes_anyway : (w : World) (pid : ℕ) (row : Performed) (outcome : Outcome) (after : World) → outcome ≡ row.outcome → after ≡ row.world → ComesTo w pid (λ v body. row) outcome after
comes_anyway w pid row outcome after told made = elim (at w pid) as (λ o. IfSome o (λ p. record { outcome : outcome ≡ row.outcome; world : after ≡ row.world })) [
  | None ↦ tt
  | Some p ↦ record { outcome = told; world = made }
]

returned_changes : (w : World) (n : ℕ) (r : Result World Errno) → returned (answered n r) ≡ (changes w n r).outcome
returned_changes w n (Ok after) = refl
returned_changes w n (Err e) = refl

world_changes : (w : World) (n : ℕ) (r : Result World Errno) → result_unwrap_or r w ≡ (changes w n r).world
world_changes w n (Ok after) = refl
world_changes w n (Err e) = refl

-- a call that has made another world, or has failed
pub has_changed : (w : World) (pid n : ℕ) (r asked : Result World Errno) (answer : Result ℕ Errno) (outcome : Outcome) (after : World)
    → asked ≡ r → answer ≡ answered n asked → after ≡ result_unwrap_or asked w → outcome ≡ returned answer → ComesTo w pid (λ v body. changes v n r) outcome after
has_changed w pid n r asked answer outcome after same says made told =
    comes_anyway w pid (changes w n r) outcome after (told ∙ ap returned (says ∙ ap (answered n) same) ∙ returned_changes w n r)
    (made ∙ ap (λ x. result_unwrap_or x w) same ∙ world_changes w n r)

-- the same of one that asks for the caller's ids
pub has_changed_by : (w : World) (pid n : ℕ) (r : Creds → Result World Errno) (caller : Proc) (asked : Result World Errno) (answer : Result ℕ Errno) (outcome : Outcome) (after : World)
    → IfSome (at w pid) (λ p. p ≡ caller) → asked ≡ r caller.body.creds → answer ≡ answered n asked → after ≡ result_unwrap_or asked w → outcome ≡ returned answer
    → ComesTo w pid (λ v body. changes v n (r body.creds)) outcome after
has_changed_by w pid n r caller asked answer outcome after own same says made told =
    elim (at w pid) as (λ o. IfSome o (λ p. p ≡ caller) → IfSome o (λ p. record { outcome : outcome ≡ (changes w n (r p.body.creds)).outcome; world : after ≡ (changes w n (r p.body.creds)).world })) [
      | None ↦ λ _. tt
      | Some p ↦ λ is. subst (λ q. record { outcome : outcome ≡ (changes w n (r q.body.creds)).outcome; world : after ≡ (changes w n (r q.body.creds)).world }) (sym is) (record {
        outcome = told ∙ ap returned (says ∙ ap (answered n) same) ∙ returned_changes w n (r caller.body.creds);
        world = made ∙ ap (λ x. result_unwrap_or x w) same ∙ world_changes w n (r caller.body.creds);
      })
    ] own
