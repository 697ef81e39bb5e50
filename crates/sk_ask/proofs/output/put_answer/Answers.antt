use Rattle.std.proofs.Common.{refl, inl, inr, rules}
use Rattle.sk_ask.specs.Endings.{Written, written}
use Rattle.sk_ask.proofs.output.put_answer.Goals as goal

pub returns-in-Ok-clause-left : goal.returns-in-Ok-clause-left
returns-in-Ok-clause-left g c =
    let told : Written = written (g.E.Sink.contents c.note.new.complaints) (g.E.Sink.failed c.note.new.complaints) in
    let noted = rw c.deref.ensures.value at c.note.ensures.noted in
    let whole = rw c.as_slice-text.ensures.value at c.in-Ok.ensures.whole in
    (told, noted, inl (search rules, (whole, c.in-Ok.ensures.fault), (refl, refl)))

pub returns-in-Err-clause-left : goal.returns-in-Err-clause-left
returns-in-Err-clause-left g c =
    let told : Written = written (g.E.Sink.contents c.note.new.complaints) (g.E.Sink.failed c.note.new.complaints) in
    let noted = rw c.deref.ensures.value at c.note.ensures.noted in
    let front = rw c.as_slice-text.ensures.value at c.in-Err.ensures.front in
    (told, noted, inr ((front, c.in-Err.ensures.fault), c.complain.ensures.told))
