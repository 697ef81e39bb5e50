use Rattle.std.proofs.Common.{◌≡◌, ◌∙◌, ◌==◌, ◌&&◌, ◌||◌, ap, arith, true, length}
use Rattle.std.specs.List.{insert}
use Rattle.sk_world.specs.Pairs.{below, is_rising, has_pair}
use Rattle.sk_world.proofs.Rows.{Parted, placed, put_in, rising-insert, has_pair-insert}
use Rattle.sk_world.proofs.pair_row.PairRow.insert.Goals as goal
use Rattle.sk_world.proofs.pair_row.PairRow.insert.Goals.{After-insert}

parted : (c : After-insert) → Parted (λ y. below y (c.args.first, c.args.second)) c.self.inside.pairs.items c.place-place.result
parted c = placed _ _ _ (c.args.first, c.args.second) c.deref.ensures.value c.place-place.ensures.within c.place-place.ensures.before c.place-place.ensures.after

items : (c : After-insert) → c.insert.new.self.items ≡ insert c.self.inside.pairs.items c.place-place.result (c.args.first, c.args.second)
items c =
    put_in _ _ _ c.args.first c.args.second _ c.insert.ensures.items
    (c.insert.ensures.succeeds (omega (arith, c.self.invariant.room, c.requires.room, ap length c.self.view_is, c.self.inside.pairs.ok.0)))

rising : (c : After-insert) → is_rising c.insert.new.self.items ≡ true
rising c =
    ap is_rising (items c)
    ∙ rising-insert c.self.inside.pairs.items c.place-place.result (c.args.first, c.args.second) (parted c)
    (ap (λ xs. has_pair xs c.args.first c.args.second) c.self.view_is ∙ c.requires.absent) c.self.invariant.rising

pub invariant_of-self : goal.invariant_of-self
invariant_of-self c = record { rising = rising c.before.before.before; room = omega (arith, c.self.invariant.room, c.insert.ensures.capacity) }

pub returns-clause-pairs : goal.returns-clause-pairs
returns-clause-pairs c a b =
    ap (λ xs. has_pair xs a b) (items c.before.before.before)
    ∙ has_pair-insert c.self.inside.pairs.items c.place-place.result (c.args.first, c.args.second) a b
    ∙ ap (λ xs. ((c.args.first == a) && (c.args.second == b)) || has_pair xs a b) c.self.view_is

pub returns-clause-rising : goal.returns-clause-rising
returns-clause-rising c = rising c.before.before.before
