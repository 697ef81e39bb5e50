use Rattle.std.proofs.Common.{◌+◌}
use Rattle.libskern.proofs.compare.with_row.Goals as goal

pub returns-clause-found : goal.returns-clause-found
returns-clause-found c =
    c.joined.ensures.joined c.args.chains.relation c.args.chains.old.now c.args.chains.new.now 0 c.args.chains.numbers.first (c.args.chains.numbers.last + 1)
    c.requires.found c.in_ok-row.ensures.found
