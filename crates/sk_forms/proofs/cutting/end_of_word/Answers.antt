use Rattle.std.proofs.Common.{sym, ◌∙◌}
use Rattle.sk_forms.proofs.Cuts.{word_stops}
use Rattle.sk_forms.proofs.cutting.end_of_word.Goals as goal

pub returns-else-goes_on-clause-word : goal.returns-else-goes_on-clause-word
returns-else-goes_on-clause-word c =
    sym c.loop-end.invariant.words
    ∙ word_stops _ _ c.loop-end.invariant.some c.loop-end-test.true (sym c.goes_on.ensures.goes_on ∙ c.if-goes_on.false)
