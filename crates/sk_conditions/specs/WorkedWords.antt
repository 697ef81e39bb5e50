-- Worked examples of words that are sought: which words of the lower half of the first argument come out so in tests.
use Rattle.std.specs.Prelude.{ℕ, ◌≡◌, ◌≢◌, ◌<◌, ◌^◌, Bool, true, false}
use Rattle.std.specs.Borrow.{Bor}
use Rattle.sk_insn.specs.declared.operation.Comparison.{Comparison}
use Rattle.sk_insn.specs.declared.operation.Comparison.TheVariants.{Equal, Greater, GreaterOrEqual, CommonBits}
use Rattle.sk_conditions.specs.declared.path.Path.{Path}
use Rattle.sk_conditions.specs.declared.path.Path.TheVariants.{Start, Beyond'}
use Rattle.sk_conditions.specs.declared.test.Test.{Test}
use Rattle.sk_conditions.specs.Solving.{WordMeets}

-- where the earlier part of a path lies in memory, of which nothing is told
abbrev pub Lent : Type 0
Lent = Bor (Unit {0})

abbrev pub looks : ℕ → Comparison → ℕ → Test
looks mask comparison k = record { place = 16; mask = mask; comparison = comparison; k = k }

-- the word is 7
abbrev pub seven : Lent → Bool → Path
seven p answer = Beyond' p Start (looks 0xffffffff Equal 7) answer

-- it is 7 and it is 8
abbrev pub seven_and_eight : Lent → Path
seven_and_eight p = Beyond' p (seven p true) (looks 0xffffffff Equal 8) true

-- its bits 4 to 7 are those of 0x20, it is above 0x25, and it is below 0x28
abbrev pub between : Lent → Path
between p =
    Beyond' p (Beyond' p (Beyond' p Start (looks 0xf0 Equal 0x20) true) (looks 0xffffffff Greater 0x25) true)
    (looks 0xffffffff GreaterOrEqual 0x28) false

-- it has one of the lowest four bits, and none of the lowest three
abbrev pub fourth_bit : Lent → Path
fourth_bit p = Beyond' p (Beyond' p Start (looks 0xffffffff CommonBits 0xf) true) (looks 0xffffffff CommonBits 0x7) false

-- an equality leaves one word, two of them none, one that fails all others; and a test says nothing of another word
pub record WordsMeet : Type 0 where
  pub single : (p : Lent) (word : ℕ) → word < 2 ^ 32 → WordMeets (seven p true) 16 word → word ≡ 7
  pub seven_meets : (p : Lent) → WordMeets (seven p true) 16 7
  pub none : (p : Lent) (word : ℕ) → WordMeets (seven_and_eight p) 16 word → ⊥
  pub not_seven : (p : Lent) → WordMeets (seven p false) 16 7 → ⊥
  pub all_others : (p : Lent) (word : ℕ) → word < 2 ^ 32 → word ≢ 7 → WordMeets (seven p false) 16 word
  pub upper_half : (p : Lent) (word : ℕ) → WordMeets (seven p true) 20 word

-- masks and ranges of one word, and masks that overlap
pub record RangesMeet : Type 0 where
  pub from : (p : Lent) → WordMeets (between p) 16 0x26
  pub to : (p : Lent) → WordMeets (between p) 16 0x27
  pub below : (p : Lent) → WordMeets (between p) 16 0x25 → ⊥
  pub above : (p : Lent) → WordMeets (between p) 16 0x28 → ⊥
  pub other_bits : (p : Lent) → WordMeets (between p) 16 0x126 → ⊥
  pub fourth : (p : Lent) → WordMeets (fourth_bit p) 16 0x8
  pub fifth_too : (p : Lent) → WordMeets (fourth_bit p) 16 0x18
  pub third_too : (p : Lent) → WordMeets (fourth_bit p) 16 0xc → ⊥
  pub fifth_alone : (p : Lent) → WordMeets (fourth_bit p) 16 0x10 → ⊥
