-- The halves of a register as parts of one number.
use Rattle.std.proofs.Common.{◌≡◌, ℕ, zero, suc, ◌+◌, ◌-◌, ◌*◌, ◌/◌, ◌%◌, ◌^◌, ◌<◌, ◌≤◌, ◌&&◌, ◌⊎◌, nat_le, not, Bool, true, false, if◌then◌else◌, bit_and, Option, Some, None, IfSome, sym, ap, ◌∙◌, refl, inl, inr, arith}
use Rattle.std.proofs.lemmas.Nat.{and_comm, and_le_r, and_shr, and_mod, or_disjoint, pow_pos}
use Rattle.std.proofs.lemmas.Nat.Bits.{and_pow, bit_at-lt}
use Rattle.std.proofs.lemmas.Bool.Decides.{nat_tests}
use Rattle.std.specs.Int.{bit_at}
use Rattle.std.specs.Int.Bits.{and_zero_r}
use Rattle.sk_insn.specs.declared.record.Record.{Record}
use Rattle.sk_terms.specs.declared.joining.Joined.{Joined}
use Rattle.sk_terms.specs.declared.term.Term.{Term}
use Rattle.sk_terms.specs.Terms.{takes, holds_term, holds_joined, register_of}
use Rattle.sk_terms.proofs.Together.{and_or}

high_alone : (r h : ℕ) → h % 2 ^ 32 ≡ 0 → bit_and r h % 2 ^ 32 ≡ 0
high_alone r h e = and_mod r h 32 ∙ ap (bit_and (r % 2 ^ 32)) e ∙ and_zero_r (r % 2 ^ 32)

low_alone : (r low : ℕ) → low < 2 ^ 32 → bit_and r low < 2 ^ 32
low_alone r low below = let h = and_le_r r low in omega (arith, h)

apart : (a b : ℕ) → a % 2 ^ 32 ≡ 0 → b < 2 ^ 32 → bit_and a b ≡ 0
apart a b e below =
    let up : b / 2 ^ 32 ≡ 0 = omega arith in
    let high : bit_and a b / 2 ^ 32 ≡ 0 = and_shr a b 32 ∙ ap (bit_and (a / 2 ^ 32)) up ∙ and_zero_r (a / 2 ^ 32) in
    let low : bit_and a b % 2 ^ 32 ≡ 0 = and_mod a b 32 ∙ and_comm (a % 2 ^ 32) (b % 2 ^ 32) ∙ ap (bit_and (b % 2 ^ 32)) e ∙ and_zero_r (b % 2 ^ 32) in
    omega (arith, high, low)

pub both_parts : (r h low : ℕ) → h % 2 ^ 32 ≡ 0 → low < 2 ^ 32 → bit_and r (h + low) ≡ bit_and r h + bit_and r low
both_parts r h low e below =
    ap (bit_and r) (sym (or_disjoint h low (apart h low e below)))
    ∙ and_or r h low
    ∙ or_disjoint (bit_and r h) (bit_and r low) (apart (bit_and r h) (bit_and r low) (high_alone r h e) (low_alone r low below))

lifted_range : (x a l f t c d base : ℕ) → x ≡ a + l → a % 2 ^ 32 ≡ 0 → l < 2 ^ 32 → f / 2 ^ 32 ≡ t / 2 ^ 32 → base ≡ f - f % 2 ^ 32 → f ≤ x → x ≤ t
    → (nat_le (base + c) x && nat_le x (base + d)) ≡ (nat_le c l && nat_le l d)
lifted_range x a l f t c d base sum up below same is above under =
    let there : a ≡ base = omega arith in
    grind (arith, nat_tests, there)

-- in a range where the higher half is one number, a term on the lower half is one on the whole
pub lifted_takes : (block low : Term) (r base : ℕ) → block.mask % 2 ^ 32 ≡ low.mask → block.inside ≡ true → block.first / 2 ^ 32 ≡ block.last / 2 ^ 32
    → base ≡ block.first - block.first % 2 ^ 32
    → (takes block (bit_and r block.mask) && takes (record low { mask = block.mask; first = base + low.first; last = base + low.last }) (bit_and r block.mask))
    ≡ (takes block (bit_and r block.mask) && takes low (bit_and r low.mask))
lifted_takes block low r base part inside same is =
    let under : low.mask < 2 ^ 32 = omega (arith, part) in
    let even : (block.mask - low.mask) % 2 ^ 32 ≡ 0 = omega (arith, part) in
    let whole : block.mask ≡ (block.mask - low.mask) + low.mask = omega (arith, part) in
    under_range (bit_and r block.mask) (bit_and r (block.mask - low.mask)) (bit_and r low.mask)
    (ap (bit_and r) whole ∙ both_parts r (block.mask - low.mask) low.mask even under) (high_alone r (block.mask - low.mask) even) (low_alone r low.mask under)
    (nat_le block.first (bit_and r block.mask) && nat_le (bit_and r block.mask) block.last) refl where
      by_inside : (inner : Bool) (x : ℕ) → (nat_le block.first x && nat_le x block.last) ≡ inner → takes block x ≡ inner
      by_inside inner x e = rw inside e

      under_range : (x a l : ℕ) → x ≡ a + l → a % 2 ^ 32 ≡ 0 → l < 2 ^ 32 → (b : Bool) → (nat_le block.first x && nat_le x block.last) ≡ b
          → (takes block x && takes (record low { mask = block.mask; first = base + low.first; last = base + low.last }) x) ≡ (takes block x && takes low l)
      under_range x a l sum up below false e = rw (by_inside false x e) refl
      under_range x a l sum up below true e =
          let above : block.first ≤ x = grind (arith, nat_tests, e) in
          let upto : x ≤ block.last = grind (arith, nat_tests, e) in
          ap (λ b. takes block x && (if low.inside then b else not b))
          (lifted_range x a l block.first block.last low.first low.last base sum up below same is above upto)

-- the same of what two terms come to
pub instead : (one other another : Term) (joined : Option Joined) → ((call : Record) → (holds_term one call && holds_term other call) ≡ (holds_term one call && holds_term another call))
    → IfSome joined (λ it. (call : Record) → holds_joined it call ≡ (holds_term one call && holds_term other call))
    → IfSome joined (λ it. (call : Record) → holds_joined it call ≡ (holds_term one call && holds_term another call))
instead one other another None same h = h
instead one other another (Some it) same h = λ call. h call ∙ same call

-- one bit makes 0 or its mask
pub one_bit : (r mask place : ℕ) → mask ≡ 2 ^ place → (bit_and r mask ≡ 0) ⊎ (bit_and r mask ≡ mask)
one_bit r mask place is = by_bit (bit_at r place) refl (bit_at-lt r place) where
  by_bit : (b : ℕ) → bit_at r place ≡ b → b < 2 → (bit_and r mask ≡ 0) ⊎ (bit_and r mask ≡ mask)
  by_bit zero e less = inl (ap (bit_and r) is ∙ and_pow r place ∙ ap (λ b. b * 2 ^ place) e ∙ omega arith)
  by_bit (suc b) e less = inr (ap (bit_and r) is ∙ and_pow r place ∙ ap (λ b. b * 2 ^ place) (e ∙ one b less) ∙ whole ∙ sym is) where
    one : (b : ℕ) → suc b < 2 → suc b ≡ 1
    one b less = omega arith

    whole : 1 * 2 ^ place ≡ 2 ^ place
    whole = omega arith

other_number : (x m k last : ℕ) → 0 < m → (x ≡ 0) ⊎ (x ≡ m) → (k ≡ 0) ⊎ (k ≡ m) → k ≡ last
    → (nat_le (m - k) x && nat_le x (m - k)) ≡ not (nat_le k x && nat_le x last)
other_number x m k last above (inl a) (inl b) same = grind (arith, nat_tests)
other_number x m k last above (inl a) (inr b) same = grind (arith, nat_tests)
other_number x m k last above (inr a) (inl b) same = grind (arith, nat_tests)
other_number x m k last above (inr a) (inr b) same = grind (arith, nat_tests)

-- the other number of one bit is what the first one is not
pub other_of_bit : (term : Term) (r place : ℕ) → term.mask ≡ 2 ^ place → term.inside ≡ true → term.first ≡ term.last → (term.first ≡ 0) ⊎ (term.first ≡ term.mask)
    → takes (record term { first = term.mask - term.first; last = term.mask - term.first }) (bit_and r term.mask) ≡ not (takes term (bit_and r term.mask))
other_of_bit term r place is inside same ends =
    let some : 0 < term.mask = let h = pow_pos place in omega (arith, is, h) in
    rw inside (other_number (bit_and r term.mask) term.mask term.first term.last some (one_bit r term.mask place is) ends same)

pub lifted_holds : (block low : Term) (base : ℕ) (call : Record) → block.register ≡ low.register → block.mask % 2 ^ 32 ≡ low.mask → block.inside ≡ true
    → block.first / 2 ^ 32 ≡ block.last / 2 ^ 32 → base ≡ block.first - block.first % 2 ^ 32
    → (holds_term block call && holds_term (record low { mask = block.mask; first = base + low.first; last = base + low.last }) call)
    ≡ (holds_term block call && holds_term low call)
lifted_holds block low base call its part inside same is =
    ap (λ at. holds_term block call && takes (record low { mask = block.mask; first = base + low.first; last = base + low.last }) (bit_and (register_of at call) block.mask)) (sym its)
    ∙ lifted_takes block low (register_of block.register call) base part inside same is
    ∙ ap (λ at. holds_term block call && takes low (bit_and (register_of at call) low.mask)) its
