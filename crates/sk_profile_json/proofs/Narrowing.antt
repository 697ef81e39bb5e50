-- The masks by which lower halves are compared, bit by bit.
use Rattle.std.proofs.Common.{ℕ, ◌≡◌, ◌==◌, bit_and, if◌then◌else◌, Bool, true, false, Some, None, sym, ap, ◌∙◌, subst}
use Rattle.std.proofs.lemmas.Nat.{and_assoc, and_comm, and_mask}
use Rattle.sk_profile.specs.declared.condition.Test.TheVariants.{Is, IsNot, Below, AtMost, Above, AtLeast, Masked}
use Rattle.sk_profile.specs.Sayings.{low}
use Rattle.sk_profile_json.specs.PartingTexts.{lower, NarrowMasksCompareLow}

low_moves : (number mask : ℕ) → bit_and number (low mask) ≡ bit_and (low number) mask
low_moves number mask =
    ap (bit_and number) (sym (and_mask mask 32)) ∙ (sym (and_assoc lower number mask) ∙ (and_comm (bit_and number mask) lower
    ∙ (sym (and_assoc mask lower number) ∙ (ap (λ n. bit_and n mask) (and_comm lower number) ∙ ap (λ n. bit_and n mask) (and_mask number 32)))))

kept : (away : Bool) (given mask : ℕ) → (if away then None else Some given) ≡ Some mask → given ≡ mask
kept true given mask e = absurd cc
kept false given mask e = cc

pub masks_compare_low : NarrowMasksCompareLow
masks_compare_low Is mask e number value =
    let same : lower ≡ mask = cc in
    subst (λ m. (bit_and number m == low value) ≡ (low number == low value)) same (ap (λ n. n == low value) (and_mask number 32))
masks_compare_low (Masked given) mask e number value =
    subst (λ m. (bit_and number m == low value) ≡ (bit_and (low number) given == low value)) (kept _ (low given) mask e)
    (ap (λ n. n == low value) (low_moves number given))
masks_compare_low IsNot mask e number value = absurd cc
masks_compare_low Below mask e number value = absurd cc
masks_compare_low AtMost mask e number value = absurd cc
masks_compare_low Above mask e number value = absurd cc
masks_compare_low AtLeast mask e number value = absurd cc
