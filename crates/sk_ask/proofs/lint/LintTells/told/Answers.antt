use Rattle.std.proofs.Common.{string_bytes, inl, inr}
use Rattle.sk_ask.specs.Said.{all_said}
use Rattle.sk_ask.proofs.lint.LintTells.told.Goals as goal

pub returns-clause-told : goal.returns-clause-told
returns-clause-told g c =
    let it = c.in_ok-it.it in
    let said = rw c.deref.ensures.value at c.in_ok-entries.ensures.said in
    let text = rw (c.deref-2.ensures.value, c.printing_for-printing.ensures.printing) at c.in_ok-text.ensures.printed in
    elim (rw (c.deref-3.ensures, text) at c.answered.ensures.told) [
      | inl ended ↦ inl (all_said c.in_ok-entries.entries, it.finding, it.pieces.items, string_bytes it.notes, said, c.in_ok-it.ensures.linted, ended)
      | inr memory ↦ inr memory
    ]
