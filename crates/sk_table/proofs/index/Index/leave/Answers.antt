use Rattle.std.proofs.Common.{[], rules}
use Rattle.sk_table.proofs.Indexing.{weight_there, beside_left}
use Rattle.sk_table.proofs.index.Index.leave.Goals as goal

pub leave-requires : goal.leave-requires
leave-requires c =
    let there = c.requires in
    weight_there there.0 _ [] _ [] _ [] c.args.pid there.1 c.args.links there.4 there.2 there.3

pub returns : goal.returns
returns c procs p same there is = search (rules, beside_left)
