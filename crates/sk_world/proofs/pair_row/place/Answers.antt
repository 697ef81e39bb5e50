use Rattle.std.proofs.Common.{rules, refl}
use Rattle.std.proofs.lemmas.List.Sorted.{IsPartitionPoint-from_clause}
use Rattle.sk_world.specs.Pairs.{below}
use Rattle.sk_world.proofs.Rows.{Pair, Parted, point_in, falls_below}
use Rattle.sk_world.proofs.pair_row.place.Goals as goal

parted : (c : goal.After-partition_point) → Parted (λ y. below y (c.args.first, c.args.second)) c.args.pairs.now c.partition_point.result
parted c =
    let p = λ (y : Pair). below y (c.args.first, c.args.second) in
    point_in p (falls_below (c.args.first, c.args.second)) _ _ _ refl c.requires c.partition_point.ensures.bound
    (λ parted. IsPartitionPoint-from_clause p _ _ c.partition_point.ensures.partitioned parted (λ a r f k. search rules))

pub returns-clause-before : goal.returns-clause-before
returns-clause-before c = (parted c).before

pub returns-clause-after : goal.returns-clause-after
returns-clause-after c = (parted c).after
