-- One instruction more of bytes with the highest byte first.
use Rattle.std.proofs.Common.{◌≡◌, ℕ, suc, List, ◌∷◌, drop, refl}
use Rattle.sk_ask.specs.Orders.{big_insn_of, big_instructions_in}

pub instructions-next : (n m : ℕ) (bytes : List ℕ) → n ≡ suc m → big_instructions_in n bytes ≡ big_insn_of bytes ∷ big_instructions_in m (drop 8 bytes)
instructions-next n m bytes e = rw e refl
