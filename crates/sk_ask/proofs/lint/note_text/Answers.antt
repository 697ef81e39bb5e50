use Rattle.std.proofs.Common.{append_assoc}
use Rattle.sk_ask.proofs.lint.note_text.Goals as goal

pub loop-line-preserved : goal.loop-line-preserved
loop-line-preserved c =
    let so_far = rw c.in-Some.ensures.steps at c.loop-line.invariant in
    rw (c.in_ok-extend_from_slice.ensures.items, c.deref.ensures.value, c.in_ok-of_word.ensures.line, append_assoc) so_far
