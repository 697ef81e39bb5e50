use Rattle.std.proofs.Common.{inl}
use Rattle.sk_ask.proofs.comparison.compared.Goals as goal

pub returns-clause-told : goal.returns-clause-told
returns-clause-told g c =
    let it = c.in_ok-it.it in
    let found = rw (c.in_ok-old.ensures.chain, c.in_ok-new.ensures.chain) at c.in_ok-it.ensures.compared in
    let ended = rw (c.in_ok-text.ensures.printed, c.deref.ensures.value, c.printing_for-printing.ensures.printing) at c.concluded.ensures.told in
    inl (it.finding, it.pieces.items, found, ended)
