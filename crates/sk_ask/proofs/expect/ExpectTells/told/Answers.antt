use Rattle.std.proofs.Common.{inl}
use Rattle.sk_ask.proofs.expect.ExpectTells.told.Goals as goal

pub returns-clause-told : goal.returns-clause-told
returns-clause-told g c = inl (rw (c.in_ok-extend_from_slice.ensures.items, c.deref.ensures.value) at c.compared.ensures.told)
