use Rattle.std.proofs.Common.{◌+◌, ◌++◌, take, string_bytes, sym, subst}
use Rattle.std.proofs.lemmas.List.{take_more}
use Rattle.sk_when.specs.LintNotes.{AreNotes}
use Rattle.sk_when.proofs.Counts.{more_notes, notes_spent}
use Rattle.sk_when.proofs.lint_notes.lint_notes.Goals as goal

pub loop-nr-preserved : goal.loop-nr-preserved
loop-nr-preserved c =
    let so_far = c.loop-nr.invariant in
    let programs = c.args.chain.now in
    let numbers = c.args.numbers.now in
    let i = c.loop-nr.nr-index in
    let added = c.in_ok-push_number_notes.ensures.notes in
    let spent = c.push_number_notes.new.budgets.is_spent in
    let before = notes_spent programs _ spent (take i numbers) (string_bytes c.loop-nr.text) c.push_number_notes.ensures.spent so_far.notes in
    let notes = more_notes programs spent (take i numbers) _ (string_bytes c.loop-nr.text) added.0 before added.1 in
    let more = take_more numbers i 0 c.loop-nr-test.true in
    record {
      notes = subst (λ text. AreNotes programs spent (take (i + 1) numbers) text) (sym added.2)
          (subst (λ numbers. AreNotes programs spent numbers (string_bytes c.loop-nr.text ++ added.0)) (sym more) notes);
      spent = λ none. so_far.spent (c.push_number_notes.ensures.spent none);
      one_way = λ never fresh. c.push_number_notes.ensures.one_way never (so_far.one_way never fresh);
    }
