-- Rows of which none was spent.
use Rattle.std.proofs.Common.{◌≡◌, ◌==◌, ◌||◌, ◌+◌, ◌≤◌, ◌<◌, ℕ, zero, suc, max, Bool, true, false, refl, ◌∙◌, arith}
use Rattle.std.proofs.Math.Dec.{eqb-suc-zero}
use Rattle.std.proofs.Math.Nat.{le-max_left}

-- no row was spent, the last one neither
pub not_spent : (before after : Bool) (left : ℕ) → after ≡ (before || (left == 0)) → after ≡ false → (before ≡ false) × (0 < left)
not_spent true after left is none = cc
not_spent false after zero is none = cc
not_spent false after (suc left) is none = (refl, omega arith)

-- the last row was not, if it left some steps
unspent : (before after : Bool) (left : ℕ) → after ≡ (before || (left == 0)) → before ≡ false → 0 < left → after ≡ false
unspent true after left is none some = cc
unspent false after zero is none some = absurd (omega (arith, some))
unspent false after (suc left) is none some = is ∙ eqb-suc-zero left

-- it has left some if it took fewer than the least that it was given
pub spares : (before after : Bool) (least steps given left need : ℕ) → given ≡ max least steps → given ≤ left + need → need < least
    → after ≡ (before || (left == 0)) → before ≡ false → after ≡ false
spares before after least steps given left need is taken fewer last none =
    unspent before after left last none (omega (arith, le-max_left least steps, is, taken, fewer))
