use Rattle.std.proofs.Common.{arith, rules}
use Rattle.sk_table.proofs.Indexing.{few_uses, beside_entered}
use Rattle.sk_table.proofs.index.Index.enter.Goals as goal

pub enter-requires-clause-room : goal.enter-requires-clause-room
enter-requires-clause-room c n =
    let procs = c.requires.free.0 in
    let is = c.requires.free.1 in
    omega (arith, is.uses n, few_uses n procs, c.requires.free.3)

pub returns : goal.returns
returns c procs p same free is = search (rules, beside_entered)
