-- Which words have a bit, as bits.
use Rattle.std.specs.Prelude.{◌≡◌, ℕ, ◌<◌, ◌==◌, not, length, List, slice_index}
use Rattle.std.specs.Int.{bit_at}
use Rattle.sk_world.specs.NumberSets.{has_bit}

-- 512 words, and the bits of those that are not 0
pub record IsSummed (words inhabited : List ℕ) : Type 0 where
  pub long : length words ≡ 512
  pub short : length inhabited ≡ 8
  pub sum : (i : ℕ) → i < 512 → has_bit inhabited i ≡ not (slice_index words i == 0)

-- a bit for each word that is not 0
abbrev pub IsMarked : List ℕ → ℕ → Type 0
IsMarked words marks = (i : ℕ) → i < 64 → (bit_at marks i == 1) ≡ not (slice_index words i == 0)
