-- What settles a number: a rule without conditions, or no rule, or those with conditions.
use Rattle.std.proofs.Common.{◌≡◌, ℕ, Bool, List, [], ◌∷◌, length, refl, ap, arith}
use Rattle.std.specs.Prelude.{Option, Some, None}
use Rattle.std.specs.Option.{option_map}
use Rattle.sk_profile.specs.Sayings.{Arm, always}
use Rattle.sk_profile.specs.Profiles.{Rule, settled}

pub settled_plain : (narrow : Bool) (rule : Option Rule) (arms : List Arm) (default value : ℕ) → Some value ≡ option_map (λ (rule : Rule). rule.value) rule → always value ≡ settled narrow rule arms default
settled_plain narrow None arms default value is = cc
settled_plain narrow (Some rule) arms default value is =
    let same : value ≡ rule.value = cc in ap always same

pub settled_empty : (narrow : Bool) (rule : Option Rule) (arms : List Arm) (default : ℕ) → None ≡ option_map (λ (rule : Rule). rule.value) rule → length arms ≡ 0 → always default ≡ settled narrow rule arms default
settled_empty narrow (Some rule) arms default is none = cc
settled_empty narrow None [] default is none = refl
settled_empty narrow None (arm ∷ arms) default is none = absurd (omega (arith, none))

pub settled_arms : (narrow : Bool) (rule : Option Rule) (arms : List Arm) (default : ℕ) → None ≡ option_map (λ (rule : Rule). rule.value) rule → (length arms ≡ 0 → ⊥)
    → (record { narrow = narrow; arms = arms; otherwise = default }) ≡ settled narrow rule arms default
settled_arms narrow (Some rule) arms default is some = cc
settled_arms narrow None [] default is some = absurd (some refl)
settled_arms narrow None (arm ∷ arms) default is some = refl
