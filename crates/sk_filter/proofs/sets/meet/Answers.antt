use Rattle.sk_filter.proofs.WordSets.{lacks_meet}
use Rattle.sk_filter.proofs.sets.meet.Goals as goal

pub returns : goal.returns
returns c = λ j m _. lacks_meet c.args.sets.now c.args.at c.args.set j m c.requires
