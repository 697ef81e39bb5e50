-- Numbers of 64 bits that conditions on an argument hold of.
use Rattle.std.specs.Prelude.{ℕ, ◌≡◌, ◌^◌, ◌<◌, ◌≤◌, ◌||◌, not, Bool, true, false, if◌then◌else◌, List}
use Rattle.std.specs.List.{list_all}
use Rattle.sk_profile.specs.declared.condition.Condition.{Condition}
use Rattle.sk_profile.specs.Sayings.{compares, is_on}

abbrev pub meets : Condition → ℕ → Bool
meets c number = compares c.test number c.value

-- all conditions on the argument with this index hold of a number
abbrev pub meets_on : ℕ → List Condition → ℕ → Bool
meets_on index conditions number = list_all (λ (c : Condition). not (is_on index c) || meets c number) conditions

-- no argument is so great
abbrev pub limit : Bool → ℕ
limit narrow = if narrow then 2 ^ 32 else 2 ^ 64

-- all those and all these hold of a number that an argument can be
pub record MeetsBoth (narrow : Bool) (conditions others : List Condition) (index number : ℕ) : Type 0 where
  pub small : number < limit narrow
  pub first : meets_on index conditions number ≡ true
  pub second : meets_on index others number ≡ true

-- the least number from one on that a condition holds of
pub record IsLeast (c : Condition) (from number : ℕ) : Type 0 where
  pub above : from ≤ number
  pub met : meets c number ≡ true
  pub least : (other : ℕ) → from ≤ other → other < number → meets c other ≡ false

-- it holds of none from there on
abbrev pub MeetsNone : Condition → ℕ → Type 0
MeetsNone c from = (number : ℕ) → from ≤ number → number < 2 ^ 64 → meets c number ≡ false
