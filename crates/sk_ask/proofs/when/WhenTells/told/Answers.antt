use Rattle.std.proofs.Common.{refl, inl}
use Rattle.sk_ask.proofs.when.WhenTells.told.Goals as goal

pub returns-clause-told : goal.returns-clause-told
returns-clause-told g c =
    let text = rw c.in_ok-chain.ensures.chain at c.in_ok-text_of.ensures.text in
    inl (c.in_ok-text_of.field-0.items, text, rw c.in_ok-chain.ensures.notes refl)
