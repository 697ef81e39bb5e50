use Rattle.std.proofs.Common.{refl, inl, inr}
use Rattle.sk_ask.proofs.output.complain.Goals as goal

pub returns-in-Ok-clause-told : goal.returns-in-Ok-clause-told
returns-in-Ok-clause-told g c = (refl, inl (c.in-Ok.ensures.whole, c.in-Ok.ensures.fault))

pub returns-in-Err-clause-told : goal.returns-in-Err-clause-told
returns-in-Err-clause-told g c = (refl, inr (c.in-Err.ensures.front, c.in-Err.ensures.fault))
