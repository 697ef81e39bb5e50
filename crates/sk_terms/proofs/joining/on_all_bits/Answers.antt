use Rattle.sk_terms.proofs.Together.{turned}
use Rattle.sk_terms.proofs.joining.on_all_bits.Goals as goal

pub returns-in-None-with_halves : goal.returns-in-None-with_halves
returns-in-None-with_halves c = record {
  both = turned c.args.one c.args.other c.with_halves-in-None-with_halves.result c.with_halves-in-None-with_halves.ensures.both;
}
