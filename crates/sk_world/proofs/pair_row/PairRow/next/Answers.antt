use Rattle.std.proofs.Common.{◌||◌, ◌&&◌, ◌==◌, arith, rules}
use Rattle.std.specs.Prelude.{nat_lt, nat_le}
use Rattle.std.proofs.lemmas.List.Sorted.{IsPartitionPoint-from_clause}
use Rattle.sk_world.proofs.Rows.{Pair, Parted, point_in, falls_upto, next_past, next_some, next_other}
use Rattle.sk_world.proofs.pair_row.PairRow.next.Goals as goal
use Rattle.sk_world.proofs.pair_row.PairRow.next.Goals.{After-partition_point-place}

parted : (c : After-partition_point-place) → Parted (λ y. nat_lt y.0 c.args.first || ((y.0 == c.args.first) && nat_le y.1 c.args.after)) c.self.inside.pairs.items c.partition_point-place.result
parted c =
    let p = λ (y : Pair). nat_lt y.0 c.args.first || ((y.0 == c.args.first) && nat_le y.1 c.args.after) in
    point_in p (falls_upto c.args.first c.args.after) _ _ _ c.as_slice-pairs.ensures.value c.self.invariant.rising c.partition_point-place.ensures.bound
    (λ parted. IsPartitionPoint-from_clause p _ _ c.partition_point-place.ensures.partitioned parted (λ a r f k. search rules))

pub returns-then-place-pairs : goal.returns-then-place-pairs
returns-then-place-pairs c = record {
  next = next_past _ _ _ _ _ _ c.as_slice-pairs.ensures.value c.self.view_is (parted c.before) c.self.invariant.rising c.if-place-pairs.true;
}

pub returns-then-found-first : goal.returns-then-found-first
returns-then-found-first c = record {
  next = next_some _ _ _ _ _ _ c.as_slice-pairs.ensures.value c.self.view_is (parted c.before.before) c.self.invariant.rising
      (omega (arith, c.partition_point-place.ensures.bound, c.if-place-pairs.false)) c.if-found-first.true;
}

pub returns-else-found-first : goal.returns-else-found-first
returns-else-found-first c = record {
  next = next_other _ _ _ _ _ _ c.as_slice-pairs.ensures.value c.self.view_is (parted c.before.before) c.self.invariant.rising
      (omega (arith, c.partition_point-place.ensures.bound, c.if-place-pairs.false)) c.if-found-first.false;
}
