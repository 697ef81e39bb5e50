-- Finite sets of numbers: the rising list of the members, each with nothing beside it. The operations of
-- std's `FinSet` stay closed outside its own file; these can be opened, so that the checker can compute
-- what was worked out by hand.
use Rattle.std.specs.Prelude.{◌≡◌, ℕ, ◌==◌, Bool, not, T, List, [], ◌∷◌}
use mathlib.Core.HLevel.{Σ_prop_path}
use lib.Dec.{T_prop}
use base.Stored.{coded_unit, coded_via}
use Rattle.std.specs.Coded.{Coded, coded×, coded_list, coded_ℕ}
use Rattle.std.specs.Option.{is_some}
use Rattle.std.specs.Ordering.{nat_cmp}
use Rattle.std.specs.Cmp.{nat_cmp_total}
use Rattle.std.specs.FinMap.Entries.{find, put, where_key, is_sorted, is_sorted-put, is_sorted-where_key}

-- the members in rising order, each once
pub record NumberSet : Type 0 where
  pub entries : List (ℕ × Unit {0})
  pub rising : T (is_sorted nat_cmp entries)

-- sets with the same list of members are the same
pub same_list : (s t : NumberSet) → s.entries ≡ t.entries → s ≡ t
same_list s t e =
    let pairs : ◌≡◌ {A = (es : List (ℕ × Unit {0})) × T (is_sorted nat_cmp es)} (s.entries, s.rising) (t.entries, t.rising) = Σ_prop_path (λ es. T_prop _) e in
    λ i. record { entries = (pairs i).0; rising = (pairs i).1 }

-- a set is stored as its members
abbrev pub code : Coded NumberSet
code = coded_via (coded_list (coded× coded_ℕ coded_unit)) (λ s. s.entries) same_list

-- no number
unfoldable pub empty : NumberSet
empty = record { entries = []; rising = tt }

-- the number is a member
unfoldable pub contains : NumberSet → ℕ → Bool
contains s n = is_some (find nat_cmp n s.entries)

-- the set with this number
unfoldable pub insert : NumberSet → ℕ → NumberSet
insert s n = record { entries = put nat_cmp n tt s.entries; rising = is_sorted-put nat_cmp nat_cmp_total n tt s.entries s.rising }

-- the members that pass a test
unfoldable pub retain : NumberSet → (ℕ → Bool) → NumberSet
retain s p = record { entries = where_key nat_cmp p s.entries; rising = is_sorted-where_key nat_cmp p s.entries s.rising }

-- the set without this number
unfoldable pub remove : NumberSet → ℕ → NumberSet
remove s n = retain s (λ k. not (k == n))

-- the members of the first set that the other has not
unfoldable pub difference : NumberSet → NumberSet → NumberSet
difference s t = retain s (λ k. not (contains t k))

-- the set with each of these numbers
abbrev pub with_each : NumberSet → List (ℕ × Unit {0}) → NumberSet
with_each s [] = s
with_each s (e ∷ es) = insert (with_each s es) e.0

-- the members of either set
unfoldable pub union : NumberSet → NumberSet → NumberSet
union s t = with_each s t.entries

-- the set of the numbers of a list
unfoldable pub from_list : List ℕ → NumberSet
from_list [] = empty
from_list (n ∷ ns) = insert (from_list ns) n
