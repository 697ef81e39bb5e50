use Rattle.std.proofs.Common.{◌≡◌, true, false, refl, inr, arith}
use Rattle.sk_ask.specs.Expanding.{is_passed_over}
use Rattle.sk_ask.proofs.expansion.filter_of.Goals as goal

pub returns-else-is_passed_over-clause-stands : goal.returns-else-is_passed_over-clause-stands
returns-else-is_passed_over-clause-stands c =
    let is = rw c.in-Ok.is at c.in_ok-made.ensures.made in
    let lines = rw c.deref.ensures.value at c.in_ok-notes-in-Ok.ensures.lines in
    let kept : is_passed_over c.args.manner.strict c.in_ok-notes-in-Ok.notes.items ≡ false =
    grind (arith, c.if-is_passed_over.false, c.if-is_passed_over.ensures.passed, c.deref-in-Ok.ensures.value) in
    (c.in-Ok.made, is, refl, lines, kept)

pub returns-then-is_passed_over-clause-without : goal.returns-then-is_passed_over-clause-without
returns-then-is_passed_over-clause-without c =
    let is = rw c.in-Ok.is at c.in_ok-made.ensures.made in
    let lines = rw c.deref.ensures.value at c.in_ok-notes-in-Ok.ensures.lines in
    let passed : is_passed_over c.args.manner.strict c.in_ok-notes-in-Ok.notes.items ≡ true =
    grind (arith, c.if-is_passed_over.true, c.if-is_passed_over.ensures.passed, c.deref-in-Ok.ensures.value) in
    inr (inr (inr (inr (c.requires.no_form, c.requires.profile, c.in-Ok.made, is, lines, passed))))
