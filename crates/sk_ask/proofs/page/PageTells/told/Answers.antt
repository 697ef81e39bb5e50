use Rattle.std.proofs.Common.{inl, inr}
use Rattle.sk_ask.specs.Said.{all_said}
use Rattle.sk_ask.proofs.page.PageTells.told.Goals as goal

pub returns-clause-told : goal.returns-clause-told
returns-clause-told g c =
    let it = c.in_ok-it.it in
    let said = rw c.deref.ensures.value at c.in_ok-entries.ensures.said in
    let notes = rw (c.deref-2.ensures.value, c.deref-3.ensures) at c.in_ok-notes.ensures.notes in
    elim (rw notes at c.answered.ensures.told) [
      | inl ended ↦ inl (
        all_said c.in_ok-entries.entries,
        c.in_ok-compared.compared,
        it.rows.items,
        it.told,
        it.linted,
        said,
        c.in_ok-compared.ensures.compared,
        c.in_ok-it.ensures.reviewed,
        ended,
      )
      | inr memory ↦ inr memory
    ]
