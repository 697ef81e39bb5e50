-- Values are joined one by one.
use Rattle.std.proofs.Common.{◌≡◌, ◌<◌, ◌+◌, ◌^◌, ap, arith, sym, refl, suc, ℕ, List, Some}
use Rattle.std.specs.Prelude.{bit_or}
use Rattle.std.proofs.lemmas.Bool.{le-leb}
use Rattle.sk_forms.specs.declared.token.Token.{Token}
use Rattle.sk_forms.specs.Grammar.{behind, small}
use Rattle.sk_forms.specs.Values.{operand, sum_at, sum_from, bits_from}

-- a sum that fits
pub small_sum : (n total : ℕ) → n < 2 ^ 32 → total ≡ n → small 4294967295 (Some n) ≡ Some total
small_sum n total fits e = let t = le-leb n 4294967295 (omega (arith, fits)) in rw t (ap Some (sym e))

pub sum_turn : (m sum total more : ℕ) (rest next after : List Token) → behind 43 rest ≡ Some next → operand next ≡ Some (more, after)
    → small 4294967295 (Some (sum + more)) ≡ Some total → sum_from (suc m) sum rest ≡ sum_from m total after
sum_turn m sum total more rest next after b o s = rw (b, sum_from, o, s) refl

pub bits_turn : (m bits more : ℕ) (rest next after : List Token) → behind 124 rest ≡ Some next → sum_at next ≡ Some (more, after)
    → bits_from (suc m) bits rest ≡ bits_from m (bit_or bits more) after
bits_turn m bits more rest next after b o = rw (b, bits_from, o) refl
