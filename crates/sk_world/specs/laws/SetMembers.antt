-- A set is what its members are.
use Rattle.std.specs.Prelude.{◌≡◌, ℕ, ◌==◌, false, not, ◌&&◌, ◌||◌}
use Rattle.sk_world.specs.Sets as set

-- the members after each operation: sigsetops(3)
pub record SetsAreTheirMembers : Type 0 where
  pub empty : (n : ℕ) → set.contains set.empty n ≡ false
  pub insert : (s : set.NumberSet) (k n : ℕ) → set.contains (set.insert s k) n ≡ ((n == k) || set.contains s n)
  pub remove : (s : set.NumberSet) (k n : ℕ) → set.contains (set.remove s k) n ≡ (not (n == k) && set.contains s n)
  pub union : (s t : set.NumberSet) (n : ℕ) → set.contains (set.union s t) n ≡ (set.contains s n || set.contains t n)
  pub difference : (s t : set.NumberSet) (n : ℕ) → set.contains (set.difference s t) n ≡ (set.contains s n && not (set.contains t n))
  pub same : (s t : set.NumberSet) → ((n : ℕ) → set.contains s n ≡ set.contains t n) → s ≡ t
