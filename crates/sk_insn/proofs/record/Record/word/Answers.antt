use Rattle.std.proofs.Common.{arith, sym, ap, Some, ◌∙◌}
use Rattle.sk_insn.proofs.RecordWords.{word_of_pointer, word_of_argument}
use Rattle.sk_insn.proofs.record.Record.word.Goals as goal

pub returns-then-k-lt16 : goal.returns-then-k-lt16
returns-then-k-lt16 c =
    let zero_not = c.if-k-eq0.false in
    let four_not = c.if-k-eq4.false in
    let aligned = c.requires.aligned in
    record { word = word_of_pointer c.args.self.now c.args.k c.requires.aligned (omega (arith, zero_not, four_not, aligned)) c.if-k-lt16.true ∙ ap Some (sym c.half.ensures.half) }

pub returns-else-k-lt16 : goal.returns-else-k-lt16
returns-else-k-lt16 c = record { word = word_of_argument c.args.self.now c.args.k c.requires.aligned c.if-k-lt16.false c.requires.inside c.told-self ∙ ap Some (sym c.half-else-k-lt16.ensures.half) }
