-- The code of a condition falls through where it holds, and else goes away.
use Rattle.std.proofs.Common.{◌≡◌, ℕ, ◌⊎◌, inl, inr, ◌+◌, ◌==◌, ◌&&◌, ◌<◌, Bool, true, false, if◌then◌else◌, nat_lt, nat_le, not, bit_and, List, [], ◌∷◌, ◌++◌, length, refl, ap, sym, ◌∙◌, subst, arith, append_assoc}
use Rattle.std.specs.Prelude.{All}
use Rattle.std.proofs.lemmas.Bool.{eqb-true, eqb-false, eq-eqb, ne_eqb}
use Rattle.std.proofs.lemmas.Bool.Decides.{nat_tests}
use Rattle.std.proofs.lemmas.List.Elements.{All-head, All-tail}
use Rattle.std.proofs.lemmas.Nat.{and_shr, and_mod}
use Rattle.std.specs.Int.Bits.{and_zero_l}
use Rattle.sk_insn.specs.declared.insn.Insn.{Insn}
use Rattle.sk_insn.specs.declared.record.Record.{Record}
use Rattle.sk_insn.specs.declared.operation.Comparison.{Comparison}
use Rattle.sk_insn.specs.declared.operation.Comparison.TheVariants.{Equal, Greater, GreaterOrEqual, CommonBits}
use Rattle.sk_filter.specs.Meaning.{State, holds}
use Rattle.sk_profile.specs.declared.condition.Condition.{Condition}
use Rattle.sk_profile.specs.declared.condition.Test.{Test}
use Rattle.sk_profile.specs.declared.condition.Test.TheVariants.{Is, IsNot, Below, AtMost, Above, AtLeast, Masked}
use Rattle.sk_profile.specs.Sayings.{low, seen, compares, holds_of, all_hold}
use Rattle.sk_profile.specs.Code.{load, with, branch, high, high_place, low_place, order_code, high_code, low_code, upper_code, is_short, test_code, conditions_code}
use Rattle.sk_profile.specs.Means.{IsCall}
use Rattle.sk_profile.proofs.Steps.{Comes, load_on, constant_on, with_on, branch_two, past}
use Rattle.sk_profile.proofs.Halves.{register, argument, lower_seen, upper_seen, high_word, low_word}

-- what follows gives the value, from so far on where the answer is yes, and else from so far on
abbrev pub Goes : Bool → ℕ → ℕ → List Insn → Record → ℕ → Type 0
Goes answer held failed rest call value = (s : State) → Comes rest (if answer then held else failed) call s value

-- from its beginning where the answer is yes
abbrev pub Follows : Bool → List Insn → ℕ → Record → ℕ → Type 0
Follows answer rest away call value = Goes answer 0 away rest call value

-- the other answer, the other way
pub turned : (b c : Bool) (held failed : ℕ) (rest : List Insn) (call : Record) (value : ℕ) → c ≡ not b → Goes b held failed rest call value → Goes c failed held rest call value
turned true c held failed rest call value e goes s = subst (λ c. Comes rest (if c then failed else held) call s value) (sym e) (goes s)
turned false c held failed rest call value e goes s = subst (λ c. Comes rest (if c then failed else held) call s value) (sym e) (goes s)

halves_same : (a b : ℕ) → high a ≡ high b → low a ≡ low b → a ≡ b
halves_same a b h l = omega (arith, h, l)

-- an order goes by the upper halves, and where they are the same by the lower ones
pub record Splits (comparison : Comparison) (a n : ℕ) : Type 0 where
  pub greater : nat_lt (high n) (high a) ≡ true → holds comparison a n ≡ true
  pub less : nat_lt (high n) (high a) ≡ false → (high a == high n) ≡ false → holds comparison a n ≡ false
  pub same : (high a == high n) ≡ true → holds comparison (low a) (low n) ≡ holds comparison a n

pub greater_splits : (a n : ℕ) → Splits Greater a n
greater_splits a n = record {
  greater = λ g. grind (arith, nat_tests, g);
  less = λ g h. grind (arith, nat_tests, g, h);
  same = λ h. grind (arith, nat_tests, h);
}

pub at_least_splits : (a n : ℕ) → Splits GreaterOrEqual a n
at_least_splits a n = record {
  greater = λ g. grind (arith, nat_tests, g);
  less = λ g h. grind (arith, nat_tests, g, h);
  same = λ h. grind (arith, nat_tests, h);
}

not_at_least : (a n : ℕ) → nat_le n a ≡ not (nat_lt a n)
not_at_least a n = grind (arith, nat_tests)

not_above : (a n : ℕ) → nat_lt n a ≡ not (nat_le a n)
not_above a n = grind (arith, nat_tests)

not_not : (b : Bool) → b ≡ not (not b)
not_not true = refl
not_not false = refl

-- numbers with the same upper half are as their lower ones
level : (comparison : Comparison) (a n : ℕ) → high a ≡ high n → comparison ≡ Equal ⊎ (comparison ≡ Greater ⊎ comparison ≡ GreaterOrEqual) → holds comparison (low a) (low n) ≡ holds comparison a n
level Equal a n same known = grind (arith, nat_tests, same)
level Greater a n same known = grind (arith, nat_tests, same)
level GreaterOrEqual a n same known = grind (arith, nat_tests, same)
level CommonBits a n same (inl e) = cc
level CommonBits a n same (inr (inl e)) = cc
level CommonBits a n same (inr (inr e)) = cc

-- a load of each half, and a conditional jump behind it
module _ (narrow : Bool) (i away : ℕ) (rest : List Insn) (call : Record) (value : ℕ) (ok : IsCall call) (inside : i < 6) where
  high_first : (follows : List Insn) (s : State) → ((t : State) → t.a ≡ high (argument narrow call i) → Comes follows 0 call t value)
      → Comes (upper_code narrow i ∷ follows) 0 call s value
  high_first follows s g = by narrow refl where
    by : (b : Bool) → narrow ≡ b → Comes (upper_code b i ∷ follows) 0 call s value
    by false e =
        let same : high (register call i) ≡ high (argument narrow call i) = ap (λ b. high (argument b call i)) (sym e) in
        load_on (high_place i) follows call s (high (register call i)) value (high_word call i ok inside) (g _ same)
    by true e =
        let same : 0 ≡ high (argument narrow call i) = sym (upper_seen call i) ∙ ap (λ b. high (argument b call i)) (sym e) in
        constant_on 0 follows call s value (g _ same)

  low_next : (follows : List Insn) (s : State) → ((t : State) → t.a ≡ low (argument narrow call i) → Comes follows 0 call t value)
      → Comes (load (low_place i) ∷ follows) 0 call s value
  low_next follows s g = load_on (low_place i) follows call s (low (register call i)) value (low_word call i ok inside) (g _ (lower_seen narrow call i))

  -- the answer is known
  known : (b c : Bool) (held failed : ℕ) (s : State) → Goes b held failed rest call value → b ≡ c → Comes rest (if c then held else failed) call s value
  known b c held failed s goes e = subst (λ b. Comes rest (if b then held else failed) call s value) e (goes s)

  equal_on : (n held failed : ℕ) (s : State) → Goes (argument narrow call i == n) held failed rest call value
      → Comes (upper_code narrow i ∷ branch Equal (high n) 0 (2 + failed) ∷ load (low_place i) ∷ branch Equal (low n) held failed ∷ rest) 0 call s value
  equal_on n held failed s goes =
      high_first _ s (λ t at.
      branch_two Equal (high n) 0 (2 + failed) _ call t value
      (λ h. low_next _ t (λ u au.
      branch_two Equal (low n) held failed rest call u value
      (λ l. known (argument narrow call i == n) true held failed u goes (eq-eqb _ n (halves_same _ n (sym at ∙ eqb-true t.a (high n) h) (sym au ∙ eqb-true u.a (low n) l))))
      (λ l. known (argument narrow call i == n) false held failed u goes (ne_eqb _ n (λ e. eqb-false u.a (low n) l (au ∙ ap low e))))))
      (λ h. past (load (low_place i) ∷ branch Equal (low n) held failed ∷ []) rest failed call t value
      (known (argument narrow call i == n) false held failed t goes (ne_eqb _ n (λ e. eqb-false t.a (high n) h (at ∙ ap high e))))))

  order_on : (comparison : Comparison) (n greater less : ℕ) (s : State) → Splits comparison (argument narrow call i) n
      → Goes (holds comparison (argument narrow call i) n) greater less rest call value
      → Comes (upper_code narrow i ∷ (order_code (high n) greater less ++ (load (low_place i) ∷ branch comparison (low n) greater less ∷ rest))) 0 call s value
  order_on comparison n greater less s splits goes =
      let answer = holds comparison (argument narrow call i) n in
      high_first _ s (λ t at.
      let above = ap (nat_lt (high n)) (sym at) in
      let level = ap (λ x. x == high n) (sym at) in
      branch_two Greater (high n) (3 + greater) 0 _ call t value
      (λ g. past (branch Equal (high n) 0 (2 + less) ∷ load (low_place i) ∷ branch comparison (low n) greater less ∷ []) rest greater call t value
      (known answer true greater less t goes (splits.greater (above ∙ g))))
      (λ g. branch_two Equal (high n) 0 (2 + less) _ call t value
      (λ h. low_next _ t (λ u au.
      let lower = sym (splits.same (level ∙ h)) ∙ ap (λ x. holds comparison x (low n)) (sym au) in
      branch_two comparison (low n) greater less rest call u value
      (λ l. known answer true greater less u goes (lower ∙ l))
      (λ l. known answer false greater less u goes (lower ∙ l))))
      (λ h. past (load (low_place i) ∷ branch comparison (low n) greater less ∷ []) rest less call t value
      (known answer false greater less t goes (splits.less (above ∙ g) (level ∙ h))))))

  masked_on : (mask n : ℕ) (s : State) → Follows (bit_and (argument narrow call i) mask == n) rest away call value
      → Comes (upper_code narrow i ∷ with (high mask) ∷ branch Equal (high n) 0 (3 + away) ∷ load (low_place i) ∷ with (low mask) ∷ branch Equal (low n) 0 away ∷ rest) 0 call s value
  masked_on mask n s follows =
      let upper = and_shr (argument narrow call i) mask 32 in
      let lower = and_mod (argument narrow call i) mask 32 in
      high_first _ s (λ t at.
      with_on (high mask) _ call t value
      (branch_two Equal (high n) 0 (3 + away) _ call _ value
      (λ h. low_next _ _ (λ u au.
      with_on (low mask) _ call u value
      (branch_two Equal (low n) 0 away rest call _ value
      (λ l. known (bit_and (argument narrow call i) mask == n) true 0 away _ follows
      (eq-eqb _ n (halves_same _ n (upper ∙ ap (λ x. bit_and x (high mask)) (sym at) ∙ eqb-true _ (high n) h) (lower ∙ ap (λ x. bit_and x (low mask)) (sym au) ∙ eqb-true _ (low n) l))))
      (λ l. known (bit_and (argument narrow call i) mask == n) false 0 away _ follows
      (ne_eqb _ n (λ e. eqb-false _ (low n) l (ap (λ x. bit_and x (low mask)) au ∙ sym lower ∙ ap low e)))))))
      (λ h. past (load (low_place i) ∷ with (low mask) ∷ branch Equal (low n) 0 away ∷ []) rest away call _ value
      (known (bit_and (argument narrow call i) mask == n) false 0 away _ follows
      (ne_eqb _ n (λ e. eqb-false _ (high n) h (ap (λ x. bit_and x (high mask)) at ∙ sym upper ∙ ap high e)))))))

  -- the lower half alone, where the upper ones are the same
  lower_on : (comparison : Comparison) (n held failed : ℕ) (s : State) → high (argument narrow call i) ≡ high n → comparison ≡ Equal ⊎ (comparison ≡ Greater ⊎ comparison ≡ GreaterOrEqual)
      → Goes (holds comparison (argument narrow call i) n) held failed rest call value → Comes (load (low_place i) ∷ branch comparison (low n) held failed ∷ rest) 0 call s value
  lower_on comparison n held failed s same one goes =
      let answer = holds comparison (argument narrow call i) n in
      low_next _ s (λ u au.
      let lower = sym (level comparison _ n same one) ∙ ap (λ x. holds comparison x (low n)) (sym au) in
      branch_two comparison (low n) held failed rest call u value
      (λ l. known answer true held failed u goes (lower ∙ l))
      (λ l. known answer false held failed u goes (lower ∙ l)))

  lower_masked_on : (mask n : ℕ) (s : State) → high (argument narrow call i) ≡ 0 → high n ≡ 0 → Follows (bit_and (argument narrow call i) mask == n) rest away call value
      → Comes (load (low_place i) ∷ with (low mask) ∷ branch Equal (low n) 0 away ∷ rest) 0 call s value
  lower_masked_on mask n s none small follows =
      let a = argument narrow call i in
      let lower = and_mod a mask 32 in
      let upper : high (bit_and a mask) ≡ high n = and_shr a mask 32 ∙ ap (λ x. bit_and x (high mask)) none ∙ and_zero_l (high mask) ∙ sym small in
      low_next _ s (λ u au.
      with_on (low mask) _ call u value
      (branch_two Equal (low n) 0 away rest call _ value
      (λ l. known (bit_and a mask == n) true 0 away _ follows
      (eq-eqb _ n (halves_same _ n upper (lower ∙ ap (λ x. bit_and x (low mask)) (sym au) ∙ eqb-true _ (low n) l))))
      (λ l. known (bit_and a mask == n) false 0 away _ follows
      (ne_eqb _ n (λ e. eqb-false _ (low n) l (ap (λ x. bit_and x (low mask)) au ∙ sym lower ∙ ap low e))))))

  -- the code of a test falls through where it holds, and else goes away
  long_on : (t : Test) (n : ℕ) (s : State) → Follows (compares t (argument narrow call i) n) rest away call value
      → Comes (upper_code narrow i ∷ (high_code t (high n) away ++ (load (low_place i) ∷ (low_code t (low n) away ++ rest)))) 0 call s value
  long_on Is n s follows = equal_on n 0 away s follows
  long_on IsNot n s follows =
      let a = argument narrow call i in
      equal_on n away 0 s (turned (not (a == n)) (a == n) 0 away rest call value (not_not (a == n)) follows)
  long_on Below n s follows =
      let a = argument narrow call i in
      order_on GreaterOrEqual n away 0 s (at_least_splits a n) (turned (nat_lt a n) (nat_le n a) 0 away rest call value (not_at_least a n) follows)
  long_on AtMost n s follows =
      let a = argument narrow call i in
      order_on Greater n away 0 s (greater_splits a n) (turned (nat_le a n) (nat_lt n a) 0 away rest call value (not_above a n) follows)
  long_on Above n s follows = order_on Greater n 0 away s (greater_splits (argument narrow call i) n) follows
  long_on AtLeast n s follows = order_on GreaterOrEqual n 0 away s (at_least_splits (argument narrow call i) n) follows
  long_on (Masked mask) n s follows = masked_on mask n s follows

  short_on : (t : Test) (n : ℕ) (s : State) → high (argument narrow call i) ≡ 0 → high n ≡ 0 → Follows (compares t (argument narrow call i) n) rest away call value
      → Comes (load (low_place i) ∷ (low_code t (low n) away ++ rest)) 0 call s value
  short_on Is n s none small follows = lower_on Equal n 0 away s (none ∙ sym small) (inl refl) follows
  short_on IsNot n s none small follows =
      let a = argument narrow call i in
      lower_on Equal n away 0 s (none ∙ sym small) (inl refl) (turned (not (a == n)) (a == n) 0 away rest call value (not_not (a == n)) follows)
  short_on Below n s none small follows =
      let a = argument narrow call i in
      lower_on GreaterOrEqual n away 0 s (none ∙ sym small) (inr (inr refl)) (turned (nat_lt a n) (nat_le n a) 0 away rest call value (not_at_least a n) follows)
  short_on AtMost n s none small follows =
      let a = argument narrow call i in
      lower_on Greater n away 0 s (none ∙ sym small) (inr (inl refl)) (turned (nat_le a n) (nat_lt n a) 0 away rest call value (not_above a n) follows)
  short_on Above n s none small follows = lower_on Greater n 0 away s (none ∙ sym small) (inr (inl refl)) follows
  short_on AtLeast n s none small follows = lower_on GreaterOrEqual n 0 away s (none ∙ sym small) (inr (inr refl)) follows
  short_on (Masked mask) n s none small follows = lower_masked_on mask n s none small follows

short_parts : (narrow : Bool) (n : ℕ) → is_short narrow n ≡ true → (narrow ≡ true) × (high n ≡ 0)
short_parts true n e = (refl, eqb-true (high n) 0 e)
short_parts false n e = cc

pub test_on : (narrow : Bool) (t : Test) (i n away : ℕ) (rest : List Insn) (call : Record) (s : State) (value : ℕ) → IsCall call → i < 6
    → Follows (compares t (argument narrow call i) n) rest away call value → Comes (test_code narrow t i n away ++ rest) 0 call s value
test_on narrow t i n away rest call s value ok inside follows = by (is_short narrow n) refl where
  by : (short : Bool) → is_short narrow n ≡ short
      → Comes ((if short then load (low_place i) ∷ low_code t (low n) away
      else upper_code narrow i ∷ (high_code t (high n) away ++ (load (low_place i) ∷ low_code t (low n) away))) ++ rest) 0 call s value
  by true e =
      let parts = short_parts narrow n e in
      let none : high (argument narrow call i) ≡ 0 = ap (λ b. high (argument b call i)) parts.0 ∙ upper_seen call i in
      short_on narrow i away rest call value ok inside t n s none parts.1 follows
  by false e =
      subst (λ insns. Comes (upper_code narrow i ∷ insns) 0 call s value) (sym (append_assoc (high_code t (high n) away) (load (low_place i) ∷ low_code t (low n) away) rest))
      (long_on narrow i away rest call value ok inside t n s follows)

-- behind a condition stands the code of the others
next : (b others : Bool) (behind : List Insn) (away : ℕ) (rest : List Insn) (call : Record) (value : ℕ)
    → (Follows others rest away call value → (t : State) → Comes (behind ++ rest) 0 call t value)
    → Follows (b && others) rest away call value → Follows b (behind ++ rest) (length behind + away) call value
next true others behind away rest call value onward follows t = onward follows t
next false others behind away rest call value onward follows t = past behind rest away call t value (follows t)

-- and so does that of several conditions
pub conditions_on : (narrow : Bool) (cs : List Condition) (away : ℕ) (rest : List Insn) (call : Record) (s : State) (value : ℕ) → IsCall call → All (λ (c : Condition). c.index < 6) cs
    → Follows (all_hold cs (seen narrow call)) rest away call value → Comes (conditions_code narrow cs away ++ rest) 0 call s value
conditions_on narrow [] away rest call s value ok inside follows = follows s
conditions_on narrow (c ∷ cs) away rest call s value ok inside follows =
    let behind = conditions_code narrow cs away in
    subst (λ insns. Comes insns 0 call s value) (sym (append_assoc (test_code narrow c.test c.index c.value (length behind + away)) behind rest))
    (test_on narrow c.test c.index c.value (length behind + away) (behind ++ rest) call s value ok (All-head (λ (c : Condition). c.index < 6) c cs inside)
    (next (holds_of c (seen narrow call)) (all_hold cs (seen narrow call)) behind away rest call value
    (λ others t. conditions_on narrow cs away rest call t value ok (All-tail (λ (c : Condition). c.index < 6) c cs inside) others) follows))
