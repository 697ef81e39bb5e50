-- What a row of pairs says, and what holds of it.
use Rattle.std.specs.Prelude.{ℕ, ◌≤◌, List, IsTrue, vec_capacity}
use Rattle.sk_world.specs.Pairs.{is_rising}
use Rattle.sk_world.specs.declared.pair_row.PairRow.TheInside.{Inside}
use Rattle.sk_world.specs.declared.pair_row.TheConstants.{PAIRS}

abbrev pub pairs_of : Inside → List (ℕ × ℕ)
pairs_of row = row.pairs.items

-- the pairs are in rising order, and there is room for as many as there can be
pub record IsKept (row : Inside) : Type 0 where
  pub rising : IsTrue (is_rising row.pairs.items)
  pub room : PAIRS ≤ vec_capacity row.pairs
