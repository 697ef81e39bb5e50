use Rattle.std.proofs.Common.{arith}
use Rattle.sk_world.proofs.Members.{no_bit_from, lowest_bit_from}
use Rattle.sk_world.proofs.number_set.lowest_from.Goals as goal

pub returns-then-rest-eq0-clause-none : goal.returns-then-rest-eq0-clause-none
returns-then-rest-eq0-clause-none c = no_bit_from c.args.word c.args.first c.if-rest-eq0.true

pub returns-clause-found : goal.returns-clause-found
returns-clause-found c = lowest_bit_from c.args.word c.args.first c.requires c.ranges.word.fits (omega (arith, c.if-rest-eq0.false))
