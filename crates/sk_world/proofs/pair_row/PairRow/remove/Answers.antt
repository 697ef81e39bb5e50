use Rattle.std.proofs.Common.{◌≡◌, ◌∙◌, ◌==◌, ◌&&◌, not, ap, arith, true}
use Rattle.sk_world.specs.Pairs.{below, is_rising, has_pair}
use Rattle.sk_world.proofs.Rows.{Parted, placed, place_within, rising-remove, has_pair-remove}
use Rattle.sk_world.proofs.pair_row.PairRow.remove.Goals as goal
use Rattle.sk_world.proofs.pair_row.PairRow.remove.Goals.{After-place-place, After-remove-removed}

parted : (c : After-place-place) → Parted (λ y. below y (c.args.first, c.args.second)) c.self.inside.pairs.items c.place-place.result
parted c = placed _ _ _ (c.args.first, c.args.second) c.deref.ensures.value c.place-place.ensures.within c.place-place.ensures.before c.place-place.ensures.after

there : (c : After-place-place) → has_pair c.self.inside.pairs.items c.args.first c.args.second ≡ true
there c = ap (λ xs. has_pair xs c.args.first c.args.second) c.self.view_is ∙ c.requires.there

pub remove-removed-requires : goal.remove-removed-requires
remove-removed-requires c =
    let before = (goal.at.remove-removed-requires c).After-place-place in
    omega (arith, c.self.inside.pairs.ok.0, place_within c.self.inside.pairs.items c.place-place.result (c.args.first, c.args.second) (parted before) (there before))

rising : (c : After-remove-removed) → is_rising c.remove-removed.new.self.items ≡ true
rising c = ap is_rising c.remove-removed.ensures.items ∙ rising-remove c.self.inside.pairs.items c.place-place.result c.self.invariant.rising

pub invariant_of-self : goal.invariant_of-self
invariant_of-self c = record { rising = rising c; room = omega (arith, c.self.invariant.room, c.remove-removed.ensures.capacity) }

pub returns-clause-pairs : goal.returns-clause-pairs
returns-clause-pairs c a b =
    let before = (goal.at.returns-clause-pairs c).After-place-place in
    ap (λ xs. has_pair xs a b) c.remove-removed.ensures.items
    ∙ has_pair-remove c.self.inside.pairs.items c.place-place.result (c.args.first, c.args.second) (parted before) c.self.invariant.rising (there before) a b
    ∙ ap (λ xs. not ((c.args.first == a) && (c.args.second == b)) && has_pair xs a b) c.self.view_is

pub returns-clause-rising : goal.returns-clause-rising
returns-clause-rising c = rising c
