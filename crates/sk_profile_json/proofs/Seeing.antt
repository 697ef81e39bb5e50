-- The lower halves of six arguments, one by one.
use Rattle.std.proofs.Common.{ℕ, ◌≡◌, List, [], ◌∷◌, length, map, slice_index_or, refl, arith}
use Rattle.sk_profile.specs.Sayings.{low}

pub lows : (args : List ℕ) → length args ≡ 6
    → low (slice_index_or args 0 0) ∷ low (slice_index_or args 1 0) ∷ low (slice_index_or args 2 0) ∷ low (slice_index_or args 3 0) ∷ low (slice_index_or args 4 0)
    ∷ low (slice_index_or args 5 0) ∷ [] ≡ map low args
lows [] six = absurd (omega (arith, six))
lows (a ∷ []) six = absurd (omega (arith, six))
lows (a ∷ b ∷ []) six = absurd (omega (arith, six))
lows (a ∷ b ∷ c ∷ []) six = absurd (omega (arith, six))
lows (a ∷ b ∷ c ∷ d ∷ []) six = absurd (omega (arith, six))
lows (a ∷ b ∷ c ∷ d ∷ e ∷ []) six = absurd (omega (arith, six))
lows (a ∷ b ∷ c ∷ d ∷ e ∷ f ∷ []) six = refl
lows (a ∷ b ∷ c ∷ d ∷ e ∷ f ∷ g ∷ args) six = absurd (omega (arith, six))
