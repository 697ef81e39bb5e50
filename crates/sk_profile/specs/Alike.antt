-- Arms that may share what they ask: the upper half of one argument is tested once for all of them.
use Rattle.std.specs.Prelude.{ℕ, ◌==◌, ◌&&◌, Bool, true, false, List, [], ◌∷◌}
use Rattle.sk_profile.specs.declared.condition.Condition.{Condition}
use Rattle.sk_profile.specs.declared.condition.Test.{Test}
use Rattle.sk_profile.specs.declared.condition.Test.TheVariants.{Is}
use Rattle.sk_profile.specs.Code.{high}
use Rattle.sk_profile.specs.Sayings.{Arm}

abbrev pub is_equality : Test → Bool
is_equality Is = true
is_equality test = false

-- one argument is asked for a number, and nothing else is
abbrev pub asks_for_one : List Condition → Bool
asks_for_one (c ∷ []) = is_equality c.test
asks_for_one conditions = false

-- the argument with this index is asked for a number with this upper half
abbrev pub asks_half : ℕ → ℕ → List Condition → Bool
asks_half index upper (c ∷ []) = is_equality c.test && (index == c.index && upper == high c.value)
asks_half index upper conditions = false

-- and the value is this
abbrev pub is_alike : ℕ → ℕ → ℕ → Arm → Bool
is_alike index value upper arm = asks_half index upper arm.conditions && value == arm.value
