use Rattle.sk_terms.proofs.Together.{turned}
use Rattle.sk_terms.proofs.joining.on_other_bits.Goals as goal

pub returns-in_default-told_by : goal.returns-in_default-told_by
returns-in_default-told_by c = record {
  both = turned c.args.one c.args.other c.told_by-in-None.result c.told_by-in-None.ensures.both;
}
