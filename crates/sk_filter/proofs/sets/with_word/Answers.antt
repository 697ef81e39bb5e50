use Rattle.sk_filter.proofs.WordSets.{lacks_with}
use Rattle.sk_filter.proofs.sets.with_word.Goals as goal

pub returns : goal.returns
returns c = lacks_with c.args.set c.args.word c.requires
