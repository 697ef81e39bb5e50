-- What is told of files is told of those that were given.
use Rattle.std.specs.Prelude.{ℕ, ◌≡◌, ◌<◌, All, length, Result, Ok, Err, ⊤}
use Rattle.sk_ask.specs.declared.fault.Refused.{Refused}
use Rattle.sk_ask.specs.Filters.{Filters}

-- each filter has a place, in a file of so many
pub record ArePlaced (count : ℕ) (found : Filters) : Type 0 where
  pub paired : length found.places ≡ length found.images
  pub given : All (λ place. place.file < count) found.places

-- the filters are placed; or the file that is refused is one of so many
abbrev pub AreGiven : ℕ → Result Filters Refused → Type 0
AreGiven count (Ok found) = ArePlaced count found
AreGiven count (Err refused) = refused.file < count

-- the file that is refused is one of so many
abbrev pub IsGiven : {T : Type 0} → ℕ → Result T Refused → Type 0
IsGiven count (Ok value) = ⊤
IsGiven count (Err refused) = refused.file < count
