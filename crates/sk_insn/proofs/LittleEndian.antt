-- The bytes of the number of some bytes are these bytes. (That the number of a number's bytes is the
-- number is the byteorder library's own law.)
use Rattle.std.proofs.Common.{◌≡◌, ℕ, zero, suc, ◌+◌, ◌*◌, ◌/◌, ◌%◌, ◌^◌, ◌<◌, ◌≤◌, List, [], ◌∷◌, length, take, slice_index, sym, ap, ◌∙◌, refl, arith}
use Rattle.std.proofs.Math.Nat.{div-div-eq-div-mul, pow-succ'}
use Rattle.std.specs.Int.{byte_at, bytes_low_first}
use Rattle.byteorder.specs.Numbers.{little_from-cons}
use Rattle.byteorder.specs.Endian.{little_from, little_number, little_bytes}

-- each number is a byte
abbrev pub IsBytes : List ℕ → Type 0
IsBytes xs = (i : ℕ) → slice_index xs i < 256

-- a byte above the lowest is a byte of what is left of the number
byte_at-suc : (i n : ℕ) → byte_at (suc i) n ≡ byte_at i (n / 256)
byte_at-suc zero n = refl
byte_at-suc (suc i) n =
    ap (λ p. n / p % 256) (pow-succ' 256 (suc i))
    ∙ ap (λ q. q % 256) (sym (div-div-eq-div-mul n 256 (256 ^ suc i)))

-- so are all of them
low_first-suc : (i k n : ℕ) → bytes_low_first (suc i) k n ≡ bytes_low_first i k (n / 256)
low_first-suc i zero n = refl
low_first-suc i (suc k) n = rw (byte_at-suc i n, low_first-suc (suc i) k n) refl

lowest : (a b : ℕ) → a < 256 → (a + 256 * b) % 256 ≡ a
lowest a b h = omega arith

others : (a b : ℕ) → a < 256 → (a + 256 * b) / 256 ≡ b
others a b h = omega arith

-- the lowest n bytes of the number in the first n bytes
pub little_bytes-little_number : (n : ℕ) (xs : List ℕ) → IsBytes xs → n ≤ length xs → little_bytes n (little_number n xs) ≡ take n xs
little_bytes-little_number zero xs b h = refl
little_bytes-little_number (suc n) [] b h = absurd (omega arith)
little_bytes-little_number (suc n) (x ∷ xs) b h =
    let again = little_bytes-little_number n xs (λ i. b (suc i)) (omega arith) in
    rw (little_from-cons 0 n x xs, low_first-suc 0 n (x + 256 * little_from 0 n xs), lowest x (little_from 0 n xs) (b 0), others x (little_from 0 n xs) (b 0), again) refl
