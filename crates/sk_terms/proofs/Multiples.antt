-- Multiples of a step, and terms on more bits.
use Rattle.std.proofs.Common.{◌≡◌, ℕ, suc, ◌+◌, ◌-◌, ◌*◌, ◌/◌, ◌%◌, ◌^◌, ◌<◌, ◌≤◌, ◌&&◌, ◌⊎◌, inl, inr, nat_le, not, if◌then◌else◌, bit_and, sym, ap, ◌∙◌, arith}
use Rattle.std.proofs.Math.Nat.{suc-mul, add-mod_right, mul-mod_left}
use Rattle.std.proofs.lemmas.Nat.{and_assoc, and_comm, and_le_r, and_mod, or_disjoint, div-add-mod', mul-le, mod_below}
use Rattle.std.proofs.lemmas.Bool.{cases_lt}
use Rattle.std.proofs.lemmas.Bool.Decides.{nat_tests}
use Rattle.std.specs.Int.Bits.{and_zero_r}
use Rattle.sk_terms.specs.declared.term.Term.{Term}
use Rattle.sk_terms.specs.Terms.{takes}
use Rattle.sk_terms.proofs.Together.{and_or}

whole_steps : (n s : ℕ) → n % s ≡ 0 → n / s * s ≡ n
whole_steps n s e = let h = div-add-mod' n s in omega (arith, h, e)

-- a multiple of a step is a whole step below a greater one
step_below : (a b s : ℕ) → a % s ≡ 0 → b % s ≡ 0 → a < b → a + s ≤ b
step_below a b s e f less = by_order (cases_lt (a / s) (b / s)) where
  by_order : ((a / s < b / s) ⊎ (b / s ≤ a / s)) → a + s ≤ b
  by_order (inl h) =
      let m = mul-le (suc (a / s)) s (b / s) s (omega (arith, h)) (omega arith) in
      let n = suc-mul (a / s) s in
      let p = whole_steps a s e in
      let q = whole_steps b s f in
      omega (arith, m, n, p, q)
  by_order (inr h) =
      let m = mul-le (b / s) s (a / s) s h (omega arith) in
      let p = whole_steps a s e in
      let q = whole_steps b s f in
      absurd (omega (arith, less, m, p, q))

pub rounded_down : (n s : ℕ) → (n - n % s) % s ≡ 0
rounded_down n s =
    let h = div-add-mod' n s in
    let same : n - n % s ≡ n / s * s = omega (arith, h) in
    ap (λ x. x % s) same ∙ mul-mod_left (n / s) s

pub rounded_up : (n s : ℕ) → ((n - n % s) + s) % s ≡ 0
rounded_up n s = add-mod_right (n - n % s) s ∙ rounded_down n s

bounds : (x q r f l first last down more s : ℕ) → x ≡ q + r → r ≤ more → more < s → f ≤ first → first < f + s → last ≡ down + more → down ≤ l → l < down + s
    → (q < first → q + s ≤ first) → (down < q → down + s ≤ q) → (nat_le first x && nat_le x last) ≡ (nat_le f q && nat_le q l)
bounds x q r f l first last down more s sum within below from upto is under near steps apart = by_orders (cases_lt q first) (cases_lt down q) where
  by_orders : ((q < first) ⊎ (first ≤ q)) → ((down < q) ⊎ (q ≤ down)) → (nat_le first x && nat_le x last) ≡ (nat_le f q && nat_le q l)
  by_orders (inl a) b = let m = steps a in grind (arith, nat_tests, m, a)
  by_orders (inr a) (inl b) = let m = apart b in grind (arith, nat_tests, m, a, b)
  by_orders (inr a) (inr b) = grind (arith, nat_tests, a, b)

apart_under : (r m n : ℕ) → bit_and m n ≡ 0 → bit_and (bit_and r m) (bit_and r n) ≡ 0
apart_under r m n e =
    and_assoc (bit_and r n) r m
    ∙ ap (λ x. bit_and r (bit_and m x)) (and_comm r n)
    ∙ ap (bit_and r) (sym (and_assoc r m n) ∙ ap (λ x. bit_and x r) e)
    ∙ and_zero_r r

both_parts : (r m n mask : ℕ) → mask ≡ m + n → bit_and m n ≡ 0 → bit_and r mask ≡ bit_and r m + bit_and r n
both_parts r m n mask sum apart =
    ap (bit_and r) (sum ∙ sym (or_disjoint m n apart)) ∙ and_or r m n ∙ or_disjoint (bit_and r m) (bit_and r n) (apart_under r m n apart)

-- a range of a number's upper bits is one of the number
pub upper_takes : (term : Term) (r mask more place s first last : ℕ) → s ≡ 2 ^ place → mask ≡ term.mask + more → bit_and term.mask more ≡ 0 → term.mask % s ≡ 0 → more < s
    → first % s ≡ 0 → term.first ≤ first → first < term.first + s → last ≡ (term.last - term.last % s) + more
    → takes (record term { mask = mask; first = first; last = last }) (bit_and r mask) ≡ takes term (bit_and r term.mask)
upper_takes term r mask more place s first last power sum apart even below multiple from upto is =
    let upper : bit_and r term.mask % s ≡ 0 =
    ap (λ s. bit_and r term.mask % s) power ∙ and_mod r term.mask place
    ∙ ap (bit_and (r % 2 ^ place)) (ap (λ s. term.mask % s) (sym power) ∙ even) ∙ and_zero_r (r % 2 ^ place) in
    let short = mod_below term.last s (omega (arith, below)) in
    ap (λ b. if term.inside then b else not b)
    (bounds (bit_and r mask) (bit_and r term.mask) (bit_and r more) term.first term.last first last (term.last - term.last % s) more s
    (both_parts r term.mask more mask sum apart) (and_le_r r more) below from upto is (omega arith) (omega (arith, short))
    (step_below (bit_and r term.mask) first s upper multiple) (step_below (term.last - term.last % s) (bit_and r term.mask) s (rounded_down term.last s) upper))
