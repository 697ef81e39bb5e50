use Rattle.sk_terms.proofs.Multiples.{rounded_up}
use Rattle.sk_terms.proofs.blocks.from_multiple.Goals as goal

pub returns-clause-multiple : goal.returns-clause-multiple
returns-clause-multiple c = rounded_up c.args.number c.args.step
