-- Registers that are handed on as numbers with a sign.
use Rattle.std.proofs.Common.{◌≡◌, ◌∙◌, ℕ, ℤ, ap, arith}
use Rattle.std.proofs.lemmas.Int.{of_z-to_z}
use Rattle.sk_kernel.proofs.Common.{w32, Record, unsigned, signed}
use mir.Val.{to_z, of_z}

-- it is the same number where it arrives
pub handed_on : (call : Record) (n : ℕ) (z : ℤ) → z ≡ signed call n → to_z w32 (of_z w32 z) ≡ signed call n
handed_on call n z is = ap (λ x. to_z w32 (of_z w32 x)) is ∙ ap (to_z w32) (of_z-to_z w32 (unsigned call n) (omega arith))
