use Rattle.std.proofs.Common.{refl, inl}
use Rattle.sk_ask.proofs.calls.CallsTells.told.Goals as goal

pub returns-clause-told : goal.returns-clause-told
returns-clause-told g c =
    let looks = c.looks_at_architecture-looks.ensures.looks in
    let told = rw c.in_ok-chain.ensures.chain at c.in_ok-told.ensures.told in
    let kept = c.lines_sought-lines.ensures.kept in
    let unseen = c.is_unseen-unseen.ensures.unseen in
    let text = c.in_ok-printed.ensures.printed in
    inl (c.in_ok-told.told.items, told, rw (text, c.deref.ensures.value, kept, unseen, looks) refl)
