-- The code of a test goes on at one place where it holds, and else at the other.
use Rattle.std.proofs.Common.{◌≡◌, ℕ, ◌+◌, ◌^◌, ◌==◌, ◌<◌, Bool, true, false, if◌then◌else◌, nat_lt, bit_and, List, [], ◌∷◌, ◌++◌, length, Some, refl, ap, sym, ◌∙◌, subst, arith, append_assoc}
use Rattle.std.proofs.lemmas.Bool.{eqb-true, eqb-false, ne_eqb, le-ltb, lt-leb}
use Rattle.std.proofs.lemmas.Bool.Decides.{nat_tests}
use Rattle.std.proofs.lemmas.Nat.{and_le_l, and_le_r}
use Rattle.sk_insn.specs.declared.insn.Insn.{Insn}
use Rattle.sk_insn.specs.declared.record.Record.{Record}
use Rattle.sk_insn.specs.declared.operation.Comparison.TheVariants.{Equal, Greater}
use Rattle.sk_insn.specs.Record.{word_of}
use Rattle.sk_filter.specs.Meaning.{State, holds}
use Rattle.sk_profile.specs.Code.{branch, jump, high}
use Rattle.sk_profile.specs.Sayings.{low}
use Rattle.sk_profile.proofs.Steps.{Comes, branch_on, branch_two, jump_on, past}
use Rattle.sk_profile.proofs.Conditions.{Goes, Splits, greater_splits, at_least_splits}
use Rattle.sk_profile.proofs.Halves.{high_word}
use Rattle.sk_terms.specs.declared.term.Register.{Register}
use Rattle.sk_terms.specs.declared.term.Register.TheVariants.{Number, Pointer, Argument}
use Rattle.sk_terms.specs.Terms.{register_of}
use Rattle.sk_policy.specs.declared.test.Test.{Test}
use Rattle.sk_policy.specs.declared.test.Test.TheVariants.{Is, Above, AtLeast}
use Rattle.sk_policy.specs.Code.{comparison_of, low_place, high_place, word_code, low_code, high_code, wide_code, is_narrow, test_code}
use Rattle.sk_policy.specs.Policies.{IsWhole, IsThere}
use Rattle.sk_policy.proofs.Words.{low_there, pointer_upper, low_fits, register_fits, word_on, low_bits, high_bits}

-- the answer is known
pub known : (b c : Bool) (held failed : ℕ) (rest : List Insn) (call : Record) (s : State) (value : ℕ) → Goes b held failed rest call value → b ≡ c
    → Comes rest (if c then held else failed) call s value
known b c held failed rest call s value goes e = subst (λ b. Comes rest (if b then held else failed) call s value) e (goes s)

-- the answer is another one's
pub same_way : (b c : Bool) (held failed : ℕ) (rest : List Insn) (call : Record) (value : ℕ) → b ≡ c → Goes b held failed rest call value → Goes c held failed rest call value
same_way b c held failed rest call value e goes = subst (λ b. Goes b held failed rest call value) e goes

-- a comparison of two numbers
abbrev pub tells : Test → ℕ → ℕ → Bool
tells test a n = holds (comparison_of test) a n

-- a number of 32 bits is less than one of more
less_than : (test : Test) (v n : ℕ) → v < 2 ^ 32 → (high n == 0) ≡ false → tells test v n ≡ false
less_than Is v n small more = ne_eqb v n (λ e. absurd (eqb-false (high n) 0 more (omega (arith, small, e))))
less_than Above v n small more = let some = eqb-false (high n) 0 more in le-ltb n v (omega (arith, small, some))
less_than AtLeast v n small more = let some = eqb-false (high n) 0 more in lt-leb n v (omega (arith, small, some))

-- equal numbers of one upper half have equal lower ones
pub equal_low : (v n : ℕ) → high v ≡ high n → (v == n) ≡ (low v == low n)
equal_low v n same = grind (arith, nat_tests, same)

low_alone : (v : ℕ) → high v ≡ 0 → v ≡ low v
low_alone v none = omega (arith, none)

nothing_left : (a : ℕ) → bit_and a 0 ≡ 0
nothing_left a = omega (arith, and_le_r a 0)

of_nothing : (a : ℕ) → bit_and 0 a ≡ 0
of_nothing a = omega (arith, and_le_l 0 a)

-- bits without an upper half
pub narrow : (r : Register) (mask : ℕ) (call : Record) → IsWhole call → is_narrow r mask ≡ true → high (bit_and (register_of r call) mask) ≡ 0
narrow Number mask call ok e =
    let none : high call.nr ≡ 0 = omega (arith, ok.is_call.number) in
    high_bits call.nr mask ∙ ap (λ a. bit_and a (high mask)) none ∙ of_nothing (high mask)
narrow Pointer mask call ok e =
    high_bits call.ip mask ∙ ap (bit_and (high call.ip)) (eqb-true (high mask) 0 e) ∙ nothing_left (high call.ip)
narrow (Argument i) mask call ok e =
    let a = register_of (Argument i) call in
    high_bits a mask ∙ ap (bit_and (high a)) (eqb-true (high mask) 0 e) ∙ nothing_left (high a)

pub upper_there : (r : Register) (mask : ℕ) (call : Record) → IsWhole call → IsThere r → is_narrow r mask ≡ false → word_of call (high_place r) ≡ Some (high (register_of r call))
upper_there Number mask call ok there e = cc
upper_there Pointer mask call ok there e = pointer_upper call ok
upper_there (Argument i) mask call ok there e = high_word call i ok.is_call there

module _ (r : Register) (mask n held failed : ℕ) (rest : List Insn) (call : Record) (value : ℕ) (ok : IsWhole call) (there : IsThere r) where
  low_on : (test : Test) (s : State) → Goes (tells test (low (bit_and (register_of r call) mask)) (low n)) held failed rest call value
      → Comes (low_code test r mask n held failed ++ rest) 0 call s value
  low_on test s goes =
      let a = register_of r call in
      let v = bit_and a mask in
      subst (λ insns. Comes insns 0 call s value) (sym (append_assoc (word_code (low_place r) (low mask)) (branch (comparison_of test) (low n) held failed ∷ []) rest))
      (word_on (low_place r) (low mask) (branch (comparison_of test) (low n) held failed ∷ rest) call s (low a) value (low_there r call ok there) (low_fits a)
      (λ t at. branch_on (comparison_of test) (low n) held failed rest call t value
      (known (tells test (low v) (low n)) (holds (comparison_of test) t.a (low n)) held failed rest call t value goes
      (ap (λ x. tells test x (low n)) (low_bits a mask ∙ sym at)))))

  order_on : (test : Test) (t : State) → t.a ≡ high (bit_and (register_of r call) mask) → Splits (comparison_of test) (bit_and (register_of r call) mask) n
      → Goes (tells test (bit_and (register_of r call) mask) n) held failed rest call value
      → Comes (branch Greater (high n) (1 + length (low_code test r mask n held failed) + held) 0 ∷ branch Equal (high n) 0 (length (low_code test r mask n held failed) + failed) ∷ (low_code test r mask n held failed ++ rest)) 0 call t value
  order_on test t at splits goes =
      let v = bit_and (register_of r call) mask in
      let behind = low_code test r mask n held failed in
      let equal = branch Equal (high n) 0 (length behind + failed) in
      let above = ap (nat_lt (high n)) (sym at) in
      let level = ap (λ x. x == high n) (sym at) in
      let far : length (equal ∷ behind) + held ≡ 1 + length behind + held = omega arith in
      branch_two Greater (high n) (1 + length behind + held) 0 (equal ∷ (behind ++ rest)) call t value
      (λ g. subst (λ k. Comes (equal ∷ (behind ++ rest)) k call t value) far
      (past (equal ∷ behind) rest held call t value
      (known (tells test v n) true held failed rest call t value goes (splits.greater (above ∙ g)))))
      (λ g. branch_two Equal (high n) 0 (length behind + failed) (behind ++ rest) call t value
      (λ h. low_on test t (same_way (tells test v n) (tells test (low v) (low n)) held failed rest call value (sym (splits.same (level ∙ h))) goes))
      (λ h. past behind rest failed call t value
      (known (tells test v n) false held failed rest call t value goes (splits.less (above ∙ g) (level ∙ h)))))

  -- the upper half, before the code of the lower one
  high_on : (test : Test) (t : State) → t.a ≡ high (bit_and (register_of r call) mask) → Goes (tells test (bit_and (register_of r call) mask) n) held failed rest call value
      → Comes ((high_code test (high n) (length (low_code test r mask n held failed)) held failed ++ low_code test r mask n held failed) ++ rest) 0 call t value
  high_on Is t at goes =
      let v = bit_and (register_of r call) mask in
      let behind = low_code Is r mask n held failed in
      branch_two Equal (high n) 0 (length behind + failed) (behind ++ rest) call t value
      (λ h. let same : high v ≡ high n = sym at ∙ eqb-true t.a (high n) h in
      low_on Is t (same_way (v == n) (low v == low n) held failed rest call value (equal_low v n same) goes))
      (λ h. past behind rest failed call t value
      (known (v == n) false held failed rest call t value goes (ne_eqb v n (λ e. eqb-false t.a (high n) h (at ∙ ap high e)))))
  high_on Above t at goes = order_on Above t at (greater_splits (bit_and (register_of r call) mask) n) goes
  high_on AtLeast t at goes = order_on AtLeast t at (at_least_splits (bit_and (register_of r call) mask) n) goes

  wide_on : (test : Test) (s : State) → is_narrow r mask ≡ false → Goes (tells test (bit_and (register_of r call) mask) n) held failed rest call value
      → Comes (wide_code test r mask n held failed ++ rest) 0 call s value
  wide_on test s wide goes =
      let a = register_of r call in
      let behind = low_code test r mask n held failed in
      let asked = high_code test (high n) (length behind) held failed ++ behind in
      let fits : high a < 2 ^ 32 = omega (arith, register_fits r call ok there) in
      subst (λ insns. Comes insns 0 call s value) (sym (append_assoc (word_code (high_place r) (high mask)) asked rest))
      (word_on (high_place r) (high mask) (asked ++ rest) call s (high a) value (upper_there r mask call ok there wide) fits
      (λ t at. high_on test t (at ∙ sym (high_bits a mask)) goes))

  -- bits of one word
  narrow_on : (test : Test) (s : State) → is_narrow r mask ≡ true → Goes (tells test (bit_and (register_of r call) mask) n) held failed rest call value
      → Comes ((if high n == 0 then low_code test r mask n held failed else jump failed ∷ []) ++ rest) 0 call s value
  narrow_on test s slim goes = by (high n == 0) refl where
    none : high (bit_and (register_of r call) mask) ≡ 0
    none = narrow r mask call ok slim

    by : (b : Bool) → (high n == 0) ≡ b → Comes ((if b then low_code test r mask n held failed else jump failed ∷ []) ++ rest) 0 call s value
    by true e =
        let v = bit_and (register_of r call) mask in
        let is_low : v ≡ low v = low_alone v none in
        let is_low_too : n ≡ low n = low_alone n (eqb-true (high n) 0 e) in
        low_on test s (same_way (tells test v n) (tells test (low v) (low n)) held failed rest call value (ap (λ x. tells test x n) is_low ∙ ap (tells test (low v)) is_low_too) goes)
    by false e =
        let v = bit_and (register_of r call) mask in
        let small : v < 2 ^ 32 = omega (arith, none) in
        jump_on failed rest call s value (known (tells test v n) false held failed rest call s value goes (less_than test v n small e))

  pub test_on : (test : Test) (s : State) → Goes (tells test (bit_and (register_of r call) mask) n) held failed rest call value
      → Comes (test_code test r mask n held failed ++ rest) 0 call s value
  test_on test s goes = by (is_narrow r mask) refl where
    by : (b : Bool) → is_narrow r mask ≡ b
        → Comes ((if b then (if high n == 0 then low_code test r mask n held failed else jump failed ∷ []) else wide_code test r mask n held failed) ++ rest) 0 call s value
    by true e = narrow_on test s e goes
    by false e = wide_on test s e goes
