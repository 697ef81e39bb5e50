use Rattle.std.proofs.Common.{◌∙◌, ◌==◌, ap, sym, rules}
use Rattle.std.specs.Prelude.{nat_lt, nat_le, filter}
use Rattle.std.specs.List.{slice_range}
use Rattle.std.proofs.lemmas.List.Sorted.{IsPartitionPoint-from_clause}
use Rattle.sk_world.proofs.Rows.{Pair, Parted, point_in, falls_lt, falls_le, in_order, slice_is}
use Rattle.sk_world.proofs.pair_row.PairRow.slice_of.Goals as goal

starts : (c : goal.After-partition_point-end) → Parted (λ y. nat_lt y.0 c.args.first) c.self.inside.pairs.items c.partition_point-start.result
starts c =
    let p = λ (y : Pair). nat_lt y.0 c.args.first in
    point_in p (falls_lt c.args.first) _ _ _ c.as_slice-pairs.ensures.value c.self.invariant.rising c.partition_point-start.ensures.bound
    (λ parted. IsPartitionPoint-from_clause p _ _ c.partition_point-start.ensures.partitioned parted (λ a r f k. search rules))

ends : (c : goal.After-partition_point-end) → Parted (λ y. nat_le y.0 c.args.first) c.self.inside.pairs.items c.partition_point-end.result
ends c =
    let p = λ (y : Pair). nat_le y.0 c.args.first in
    point_in p (falls_le c.args.first) _ _ _ c.as_slice-pairs.ensures.value c.self.invariant.rising c.partition_point-end.ensures.bound
    (λ parted. IsPartitionPoint-from_clause p _ _ c.partition_point-end.ensures.partitioned parted (λ a r f k. search rules))

pub slice_bounds-result-count : goal.slice_bounds-result-count
slice_bounds-result-count c = in_order _ _ _ _ (starts c) (ends c)

pub slice_bounds-result-start : goal.slice_bounds-result-start
slice_bounds-result-start c = in_order _ _ _ _ (starts c) (ends c)

pub returns-clause-pairs : goal.returns-clause-pairs
returns-clause-pairs c =
    ap (λ xs. slice_range xs c.partition_point-start.result c.partition_point-end.result) c.as_slice-pairs.ensures.value
    ∙ sym (slice_is _ _ _ _ (starts c.before) (ends c.before))
    ∙ ap (filter (λ (y : Pair). y.0 == c.args.first)) c.self.view_is
