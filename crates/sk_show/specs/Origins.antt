-- Calls with other bits in one word.
use Rattle.std.specs.Prelude.{ℕ, Bool, true, false, ◌≡◌, ◌≢◌, ◌+◌, ◌-◌, ◌*◌, ◌/◌, ◌%◌, ◌^◌, ◌<◌, ◌==◌, if◌then◌else◌, bit_and, bit_or, Some}
use Rattle.sk_insn.specs.declared.record.Record.{Record}
use Rattle.sk_insn.specs.Record.{word_of}
use Rattle.sk_insn.specs.declared.operation.Comparison.{Comparison}
use Rattle.sk_insn.specs.declared.operation.Comparison.TheVariants.{Equal, Greater, GreaterOrEqual}
use Rattle.sk_show.specs.declared.origin.Origin.{Origin}

-- a word of the record begins there, and it is not that of the architecture
abbrev pub IsOtherWord : ℕ → Type 0
IsOtherWord place = (place % 4 ≡ 0) × (place < 64) × (place ≢ 4)

-- a call has this word at a place, and else the words of another one
abbrev pub HasWord : Record → ℕ → ℕ → Record → Type 0
HasWord call place word other = (k : ℕ) → k % 4 ≡ 0 → k < 64 → word_of other k ≡ (if k == place then Some word else word_of call k)

-- a word with those bits of another one that a mask names
abbrev pub with_bits : ℕ → ℕ → ℕ → ℕ
with_bits word mask bits = bit_or (bit_and word (2 ^ 32 - 1 - mask)) (bit_and bits mask)

-- a call has these bits in the word, and else what another one has
abbrev pub HasBits : Record → Origin → ℕ → Record → Type 0
HasBits call origin bits other =
    (word : ℕ) → word_of call origin.place ≡ Some word → IsOtherWord origin.place
    → HasWord call origin.place (with_bits word origin.bits bits) other

-- the outcome of comparing a number with b is turned by b, or by the next one: none is above the greatest, or below 0. Of what
-- single bits turn nothing is said
abbrev pub IsTurnedByOrder : Comparison → ℕ → Bool → Type 0
IsTurnedByOrder Equal b false = Unit {0}
IsTurnedByOrder Greater b true = Unit {0}
IsTurnedByOrder Greater b false = b < 2 ^ 32 - 1
IsTurnedByOrder GreaterOrEqual b false = Unit {0}
IsTurnedByOrder GreaterOrEqual b true = 0 < b
IsTurnedByOrder comparison b held = ⊥

-- a number of 64 bits with another half, that of a word of the record
abbrev pub with_half : ℕ → ℕ → ℕ → ℕ
with_half number place word = if place % 8 == 0 then word + number / 2 ^ 32 * 2 ^ 32 else number % 2 ^ 32 + word * 2 ^ 32
