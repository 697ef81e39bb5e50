-- What a call comes to that is performed over a store, by the row of the call.
use Rattle.std.specs.Prelude.{ℕ, ◌≡◌, IfSome}
use Rattle.sk_laws.specs.Common.{World, at, Performed}
use Rattle.sk_world.specs.declared.process.Body.{Body}
use Rattle.sk_machine.specs.declared.answer.Outcome.{Outcome}

-- a call of the process of a pid has come to this outcome and to this world, as the row says of the world before and of
-- its body
abbrev pub ComesTo : World → ℕ → (World → Body → Performed) → Outcome → World → Type 0
ComesTo w pid row outcome after = IfSome (at w pid) (λ p. record {
  outcome : outcome ≡ (row w p.body).outcome;
  world : after ≡ (row w p.body).world;
})
