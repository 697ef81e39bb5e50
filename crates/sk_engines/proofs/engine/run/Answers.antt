use Rattle.sk_engines.proofs.Ending.{delivers_taken}
use Rattle.sk_engines.proofs.engine.run.Goals as goal

pub returns-clause-told : goal.returns-clause-told
returns-clause-told g c =
    delivers_taken _ _ _ _ _ _ c.in_ok-input.ensures.first
    (rw (c.in_ok-reply.ensures.answer, c.deref.ensures.value) at c.deliver.ensures.told)
