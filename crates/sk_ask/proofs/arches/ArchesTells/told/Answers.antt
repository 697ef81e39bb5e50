use Rattle.std.proofs.Common.{refl, inl}
use Rattle.sk_ask.proofs.arches.ArchesTells.told.Goals as goal

pub returns-clause-told : goal.returns-clause-told
returns-clause-told c =
    let text = c.in_ok-printed.ensures.printed in
    let warns = c.warns.ensures.warns in
    inl (c.in_ok-told.told, c.in_ok-told.ensures.told, rw (text, warns) refl)
