use Rattle.std.proofs.Common.{◌≡◌, ◌∙◌, ap, sym, rules, ℕ, Bool}
use Rattle.sk_world.specs.Common.{SignalState, generated}
use Rattle.sk_world.proofs.SignalLaws.{generated_twice}
use Rattle.sk_world.proofs.signal_state.SigState.generate.Goals as goal

once : (n : ℕ) (init : Bool) (old new : SignalState) → new ≡ generated n init old → generated n init new ≡ new
once n init old new e = ap (generated n init) e ∙ generated_twice n init old ∙ sym e

pub returns-clause-state : goal.returns-clause-state
returns-clause-state c = search rules

pub returns-clause-once : goal.returns-clause-once
returns-clause-once c = once c.args.signal c.args.init _ _ (returns-clause-state c)
