-- Arms that may share what they ask, as the code finds them.
use Rattle.std.proofs.Common.{◌≡◌, ℕ, ◌==◌, ◌&&◌, false, List, [], ◌∷◌, length, Some, slice_get, refl, sym, ap, ◌∙◌, arith}
use Rattle.sk_profile.specs.declared.condition.Condition.{Condition}
use Rattle.sk_profile.specs.declared.condition.Test.{Test}
use Rattle.sk_profile.specs.declared.condition.Test.TheVariants.{Is, IsNot, Below, AtMost, Above, AtLeast, Masked}
use Rattle.sk_profile.specs.Alike.{is_equality, asks_for_one, asks_half, is_alike}
use Rattle.sk_profile.specs.Code.{high}
use Rattle.sk_profile.specs.Sayings.{Arm, asks}

pub asks_nothing : (cs : List Condition) → length cs ≡ 0 → asks_for_one cs ≡ false
asks_nothing [] e = refl
asks_nothing (c ∷ cs) e = absurd (omega (arith, e))

pub asks_more : (cs : List Condition) → (length cs ≡ 1 → ⊥) → asks_for_one cs ≡ false
asks_more [] e = refl
asks_more (c ∷ []) e = absurd (e refl)
asks_more (c ∷ d ∷ cs) e = refl

no_equality : (t : Test) → (t ≡ Is → ⊥) → is_equality t ≡ false
no_equality Is e = absurd (e refl)
no_equality IsNot e = refl
no_equality Below e = refl
no_equality AtMost e = refl
no_equality Above e = refl
no_equality AtLeast e = refl
no_equality (Masked mask) e = refl

pub asks_otherwise : (cs : List Condition) (c : Condition) → slice_get cs 0 ≡ Some c → (c.test ≡ Is → ⊥) → asks_for_one cs ≡ false
asks_otherwise [] c here e = refl
asks_otherwise (d ∷ []) c here e =
    let same : d ≡ c = cc in no_equality d.test (λ is. e (ap (λ (c : Condition). c.test) (sym same) ∙ is))
asks_otherwise (d ∷ more ∷ cs) c here e = refl

not_half : (index upper : ℕ) (cs : List Condition) → asks_for_one cs ≡ false → asks_half index upper cs ≡ false
not_half index upper [] e = refl
not_half index upper (c ∷ []) e = rw e refl
not_half index upper (c ∷ d ∷ cs) e = refl

pub of_another : (index value upper : ℕ) (arm : Arm) → asks_for_one arm.conditions ≡ false → is_alike index value upper arm ≡ false
of_another index value upper arm e = rw (not_half index upper arm.conditions e) refl

pub of_alike : (index value upper other with number : ℕ) (arm : Arm) → arm ≡ asks other with number
    → is_alike index value upper arm ≡ ((index == other && upper == high number) && value == with)
of_alike index value upper other with number arm is = ap (is_alike index value upper) is
