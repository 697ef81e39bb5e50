-- The least number from one on that a condition holds of: by its test, and under a mask bit by bit.
use Rattle.std.proofs.Common.{◌≡◌, ◌≢◌, ℕ, zero, suc, ◌+◌, ◌*◌, ◌/◌, ◌%◌, ◌^◌, ◌<◌, ◌≤◌, ◌==◌, not, bit_and, true, false, inl, inr, refl, sym, ap, ◌∙◌, subst, arith}
use Rattle.std.proofs.lemmas.Bool.{both_ways, eqb-true, eqb-false, eq-eqb, ne_eqb, lt-ltb, le-ltb, le-leb, lt-leb, cases_lt}
use Rattle.std.proofs.lemmas.Nat.{and_assoc, and_comm, and_mod, and_shr}
use Rattle.std.specs.Int.Bits.{and_zero_r}
use Rattle.std.specs.Prelude.{Option, Some, None, IfSome, IfNone}
use Rattle.sk_profile.specs.declared.condition.Condition.{Condition}
use Rattle.sk_profile.specs.declared.condition.Test.{Test}
use Rattle.sk_profile.specs.declared.condition.Test.TheVariants.{Is, IsNot, Below, AtMost, Above, AtLeast, Masked}
use Rattle.sk_profile.specs.Sayings.{compares}
use Rattle.sk_profile.specs.Meeting.{meets, IsLeast, MeetsNone}

-- ---- the tests without a mask

by_test : (c : Condition) (t : Test) → c.test ≡ t → (n : ℕ) → meets c n ≡ compares t n c.value
by_test c t e n = ap (λ t. compares t n c.value) e

-- where it holds of the number itself
at_once : (c : Condition) (from : ℕ) → meets c from ≡ true → IsLeast c from from
at_once c from met = record { above = omega arith; met = met; least = λ other up low. absurd (omega (arith, up, low)) }

pub least_is : (c : Condition) (from : ℕ) → c.test ≡ Is → from ≤ c.value → IsLeast c from c.value
least_is c from e up = record {
  above = up;
  met = by_test c Is e c.value ∙ eq-eqb c.value c.value refl;
  least = λ other a b. by_test c Is e other ∙ ne_eqb other c.value (λ s. absurd (omega (arith, b, s)));
}

pub none_is : (c : Condition) (from : ℕ) → c.test ≡ Is → c.value < from → MeetsNone c from
none_is c from e less n up small = by_test c Is e n ∙ ne_eqb n c.value (λ s. absurd (omega (arith, up, less, s)))

pub least_is_not : (c : Condition) (from : ℕ) → c.test ≡ IsNot → from ≢ c.value → IsLeast c from from
least_is_not c from e other = at_once c from (by_test c IsNot e from ∙ ap not (ne_eqb from c.value other))

pub next_is_not : (c : Condition) (from number : ℕ) → c.test ≡ IsNot → from ≡ c.value → number ≡ from + 1 → IsLeast c from number
next_is_not c from number e same next = record {
  above = omega (arith, next);
  met = by_test c IsNot e number ∙ ap not (ne_eqb number c.value (λ s. absurd (omega (arith, same, next, s))));
  least = λ other a b. by_test c IsNot e other ∙ ap not (eq-eqb other c.value (omega (arith, a, b, same, next)));
}

pub none_is_not : (c : Condition) (from : ℕ) → c.test ≡ IsNot → from ≡ c.value → 2 ^ 64 ≤ from + 1 → MeetsNone c from
none_is_not c from e same over n up small = by_test c IsNot e n ∙ ap not (eq-eqb n c.value (omega (arith, up, small, same, over)))

pub least_below : (c : Condition) (from : ℕ) → c.test ≡ Below → from < c.value → IsLeast c from from
least_below c from e less = at_once c from (by_test c Below e from ∙ lt-ltb from c.value less)

pub none_below : (c : Condition) (from : ℕ) → c.test ≡ Below → c.value ≤ from → MeetsNone c from
none_below c from e over n up small = by_test c Below e n ∙ le-ltb n c.value (omega (arith, over, up))

pub least_at_most : (c : Condition) (from : ℕ) → c.test ≡ AtMost → from ≤ c.value → IsLeast c from from
least_at_most c from e less = at_once c from (by_test c AtMost e from ∙ le-leb from c.value less)

pub none_at_most : (c : Condition) (from : ℕ) → c.test ≡ AtMost → c.value < from → MeetsNone c from
none_at_most c from e over n up small = by_test c AtMost e n ∙ lt-leb n c.value (omega (arith, over, up))

pub least_above : (c : Condition) (from : ℕ) → c.test ≡ Above → c.value < from → IsLeast c from from
least_above c from e more = at_once c from (by_test c Above e from ∙ lt-ltb c.value from more)

pub next_above : (c : Condition) (from number : ℕ) → c.test ≡ Above → from ≤ c.value → number ≡ c.value + 1 → IsLeast c from number
next_above c from number e up next = record {
  above = omega (arith, up, next);
  met = by_test c Above e number ∙ lt-ltb c.value number (omega (arith, next));
  least = λ other a b. by_test c Above e other ∙ le-ltb c.value other (omega (arith, b, next));
}

pub none_above : (c : Condition) (from : ℕ) → c.test ≡ Above → 2 ^ 64 ≤ c.value + 1 → MeetsNone c from
none_above c from e over n up small = by_test c Above e n ∙ le-ltb c.value n (omega (arith, over, small))

pub least_at_least : (c : Condition) (from : ℕ) → c.test ≡ AtLeast → c.value ≤ from → IsLeast c from from
least_at_least c from e more = at_once c from (by_test c AtLeast e from ∙ le-leb c.value from more)

pub value_at_least : (c : Condition) (from : ℕ) → c.test ≡ AtLeast → from ≤ c.value → IsLeast c from c.value
value_at_least c from e up = record {
  above = up;
  met = by_test c AtLeast e c.value ∙ le-leb c.value c.value (omega arith);
  least = λ other a b. by_test c AtLeast e other ∙ lt-leb c.value other b;
}

-- ---- bits

abbrev pub under : ℕ → ℕ → ℕ → Condition
under index mask bits = record { index = index; test = Masked mask; value = bits }

pub least_under : (c : Condition) (mask from number : ℕ) → c.test ≡ Masked mask → IsLeast (under c.index mask c.value) from number → IsLeast c from number
least_under c mask from number e found = subst (λ t. IsLeast (record { index = c.index; test = t; value = c.value }) from number) (sym e) found

pub none_under : (c : Condition) (mask from : ℕ) → c.test ≡ Masked mask → MeetsNone (under c.index mask c.value) from → MeetsNone c from
none_under c mask from e found = subst (λ t. MeetsNone (record { index = c.index; test = t; value = c.value }) from) (sym e) found

pub least_zero : (index mask bits from : ℕ) → mask ≡ 0 → bits ≡ 0 → IsLeast (under index mask bits) from from
least_zero index mask bits from m b = at_once (under index mask bits) from (eq-eqb (bit_and from mask) bits (ap (bit_and from) m ∙ and_zero_r from ∙ sym b))

pub none_zero : (index mask bits from : ℕ) → mask ≡ 0 → bits ≢ 0 → MeetsNone (under index mask bits) from
none_zero index mask bits from m b n up small = ne_eqb (bit_and n mask) bits (λ e. b (sym e ∙ ap (bit_and n) m ∙ and_zero_r n))

halves : (a b : ℕ) → a / 2 ≡ b / 2 → a % 2 ≡ b % 2 → a ≡ b
halves a b h l = omega (arith, h, l)

-- the upper bits and the lowest one by themselves
upper : (y mask bits : ℕ) → bit_and y mask ≡ bits → bit_and (y / 2) (mask / 2) ≡ bits / 2
upper y mask bits e = sym (and_shr y mask 1) ∙ ap (λ n. n / 2) e

lowest : (y mask bits : ℕ) → bit_and y mask ≡ bits → bit_and (y % 2) (mask % 2) ≡ bits % 2
lowest y mask bits e = sym (and_mod y mask 1) ∙ ap (λ n. n % 2) e

both : (y mask bits : ℕ) → bit_and (y / 2) (mask / 2) ≡ bits / 2 → bit_and (y % 2) (mask % 2) ≡ bits % 2 → bit_and y mask ≡ bits
both y mask bits h l = halves (bit_and y mask) bits (and_shr y mask 1 ∙ h) (and_mod y mask 1 ∙ l)

with_one : (b : ℕ) → b < 2 → bit_and b 1 ≡ b
with_one zero less = refl
with_one (suc zero) less = refl
with_one (suc (suc b)) less = absurd (omega (arith, less))

kept : (y mask : ℕ) → mask % 2 ≡ 1 → bit_and (y % 2) (mask % 2) ≡ y % 2
kept y mask odd = ap (bit_and (y % 2)) odd ∙ with_one (y % 2) (omega arith)

dropped : (y mask : ℕ) → mask % 2 ≡ 0 → bit_and (y % 2) (mask % 2) ≡ 0
dropped y mask even = ap (bit_and (y % 2)) even ∙ and_zero_r (y % 2)

-- from where on the upper bits may be, if the lowest is this
pub record Starts (from bit start : ℕ) : Type 0 where
  pub enough : from ≤ 2 * start + bit
  pub least : 2 * start + bit < from + 2

-- none of the upper bits below the least
above_least : (index mask bits start upper h : ℕ) → IsLeast (under index (mask / 2) (bits / 2)) start upper → start ≤ h → bit_and h (mask / 2) ≡ bits / 2 → upper ≤ h
above_least index mask bits start upper h found more e =
    elim (cases_lt h upper) [
      | inl less ↦ absurd (both_ways (bit_and h (mask / 2) == bits / 2) (found.least h more less) (eq-eqb _ _ e))
      | inr over ↦ over
    ]

pub odd_least : (index mask bits from start top number : ℕ) → mask % 2 ≡ 1 → Starts from (bits % 2) start → IsLeast (under index (mask / 2) (bits / 2)) start top
    → number ≡ 2 * top + bits % 2 → IsLeast (under index mask bits) from number
odd_least index mask bits from start top number odd starts found is =
    let enough = starts.enough in
    let fewest = starts.least in
    let over = found.above in
    let half : number / 2 ≡ top = omega (arith, is) in
    let bit : number % 2 ≡ bits % 2 = omega (arith, is) in
    let there : bit_and top (mask / 2) ≡ bits / 2 = eqb-true _ _ found.met in record {
      above = omega (arith, enough, over, is);
      met = eq-eqb _ _ (both number mask bits (ap (λ n. bit_and n (mask / 2)) half ∙ there) (kept number mask odd ∙ bit));
      least = λ other a b. ne_eqb (bit_and other mask) bits (λ e.
          let low : other % 2 ≡ bits % 2 = sym (kept other mask odd) ∙ lowest other mask bits e in
          let start_below : start ≤ other / 2 = omega (arith, a, low, fewest) in
          let past = above_least index mask bits start top (other / 2) found start_below (upper other mask bits e) in
          absurd (omega (arith, past, b, low, is)));
    }

pub odd_none : (index mask bits from start : ℕ) → mask % 2 ≡ 1 → Starts from (bits % 2) start → MeetsNone (under index (mask / 2) (bits / 2)) start → MeetsNone (under index mask bits) from
odd_none index mask bits from start odd starts none n up small = ne_eqb (bit_and n mask) bits (λ e.
    let fewest = starts.least in
    let low : n % 2 ≡ bits % 2 = sym (kept n mask odd) ∙ lowest n mask bits e in
    let start_below : start ≤ n / 2 = omega (arith, up, low, fewest) in
    eqb-false _ _ (none (n / 2) start_below (omega (arith, small))) (upper n mask bits e))

pub odd_over : (index mask bits from start top : ℕ) → mask % 2 ≡ 1 → Starts from (bits % 2) start → IsLeast (under index (mask / 2) (bits / 2)) start top
    → 2 ^ 64 ≤ 2 * top + bits % 2 → MeetsNone (under index mask bits) from
odd_over index mask bits from start top odd starts found over n up small = ne_eqb (bit_and n mask) bits (λ e.
    let fewest = starts.least in
    let low : n % 2 ≡ bits % 2 = sym (kept n mask odd) ∙ lowest n mask bits e in
    let start_below : start ≤ n / 2 = omega (arith, up, low, fewest) in
    let past = above_least index mask bits start top (n / 2) found start_below (upper n mask bits e) in
    absurd (omega (arith, past, low, over, small)))

-- the lowest bit may be any: that of the number where it is begun from, as long as the upper bits are those
pub record Ends (from top bit : ℕ) : Type 0 where
  pub same : top ≡ from / 2 → bit ≡ from % 2
  pub other : top ≢ from / 2 → bit ≡ 0

ends_few : (from top bit : ℕ) → Ends from top bit → bit < 2
ends_few from top bit ends =
    elim (cases_lt top (from / 2)) [
      | inl less ↦ let none = ends.other (λ e. absurd (omega (arith, less, e))) in omega (arith, none)
      | inr more ↦
          elim (cases_lt (from / 2) top) [
            | inl over ↦ let none = ends.other (λ e. absurd (omega (arith, over, e))) in omega (arith, none)
            | inr under ↦ let it = ends.same (omega (arith, more, under)) in omega (arith, it)
          ]
    ]

-- so it is no less than the first, and no more than another from there on
ends_between : (from top bit other : ℕ) → Ends from top bit → from / 2 ≤ top → from ≤ other → top ≤ other / 2 → (from ≤ 2 * top + bit) × (2 * top + bit ≤ other)
ends_between from top bit other ends over more past =
    elim (cases_lt (from / 2) top) [
      | inl less ↦ let none = ends.other (λ e. absurd (omega (arith, less, e))) in (omega (arith, none, less), omega (arith, none, past))
      | inr same ↦ let it = ends.same (omega (arith, over, same)) in (omega (arith, it, over, same), omega (arith, it, over, same, more, past))
    ]

pub even_least : (index mask bits from top bit number : ℕ) → mask % 2 ≡ 0 → bits % 2 ≡ 0 → IsLeast (under index (mask / 2) (bits / 2)) (from / 2) top → Ends from top bit
    → number ≡ 2 * top + bit → IsLeast (under index mask bits) from number
even_least index mask bits from top bit number even none found ends is =
    let over = found.above in
    let few = ends_few from top bit ends in
    let half : number / 2 ≡ top = omega (arith, is, few) in
    let there : bit_and top (mask / 2) ≡ bits / 2 = eqb-true _ _ found.met in record {
      above = omega (arith, is, (ends_between from top bit (2 * top + 1 + from) ends over (omega arith) (omega arith)).0);
      met = eq-eqb _ _ (both number mask bits (ap (λ n. bit_and n (mask / 2)) half ∙ there) (dropped number mask even ∙ sym none));
      least = λ other a b. ne_eqb (bit_and other mask) bits (λ e.
          let past = above_least index mask bits (from / 2) top (other / 2) found (omega (arith, a)) (upper other mask bits e) in
          let between = (ends_between from top bit other ends over a past).1 in
          absurd (omega (arith, between, b, is)));
    }

pub even_wrong : (index mask bits from : ℕ) → mask % 2 ≡ 0 → bits % 2 ≡ 1 → MeetsNone (under index mask bits) from
even_wrong index mask bits from even one n up small = ne_eqb (bit_and n mask) bits (λ e.
    let none = sym (dropped n mask even) ∙ lowest n mask bits e in absurd (omega (arith, none, one)))

pub even_none : (index mask bits from : ℕ) → MeetsNone (under index (mask / 2) (bits / 2)) (from / 2) → MeetsNone (under index mask bits) from
even_none index mask bits from none n up small = ne_eqb (bit_and n mask) bits (λ e.
    eqb-false _ _ (none (n / 2) (omega (arith, up)) (omega (arith, small))) (upper n mask bits e))

pub even_over : (index mask bits from top bit : ℕ) → IsLeast (under index (mask / 2) (bits / 2)) (from / 2) top → Ends from top bit → 2 ^ 64 ≤ 2 * top + bit
    → MeetsNone (under index mask bits) from
even_over index mask bits from top bit found ends over n up small = ne_eqb (bit_and n mask) bits (λ e.
    let past = above_least index mask bits (from / 2) top (n / 2) found (omega (arith, up)) (upper n mask bits e) in
    let between = (ends_between from top bit n ends found.above up past).1 in
    absurd (omega (arith, between, over, small)))

-- ---- two conditions

-- both masks have a bit of which the one asks otherwise than the other
pub masks_apart : (c d : Condition) (m n : ℕ) → c.test ≡ Masked m → d.test ≡ Masked n → bit_and c.value n ≢ bit_and d.value m → (a : ℕ) → meets c a ≡ true → meets d a ≡ true → ⊥
masks_apart c d m n one two unlike a holds also =
    let first : bit_and a m ≡ c.value = eqb-true _ _ (sym (by_test c (Masked m) one a) ∙ holds) in
    let second : bit_and a n ≡ d.value = eqb-true _ _ (sym (by_test d (Masked n) two a) ∙ also) in
    unlike (ap (λ x. bit_and x n) (sym first) ∙ and_assoc n a m ∙ ap (bit_and a) (and_comm m n) ∙ sym (and_assoc m a n) ∙ ap (λ x. bit_and x m) second)

-- no number below one is met by both
abbrev pub NoneBelow : Condition → Condition → ℕ → Type 0
NoneBelow c d from = (n : ℕ) → n < from → meets c n ≡ true → meets d n ≡ true → ⊥

-- the one is met from a number on, and then the other from there on
pub none_between : (c d : Condition) (from middle number : ℕ) → NoneBelow c d from → IsLeast c from middle → IsLeast d middle number → NoneBelow c d number
none_between c d from middle number none first second n less holds also =
    elim (cases_lt n from) [
      | inl below ↦ none n below holds also
      | inr up ↦
          elim (cases_lt n middle) [
            | inl below ↦ both_ways (meets c n) (first.least n up below) holds
            | inr over ↦ both_ways (meets d n) (second.least n over less) also
          ]
    ]

pub none_first : (c d : Condition) (from : ℕ) → NoneBelow c d from → MeetsNone c from → (n : ℕ) → n < 2 ^ 64 → meets c n ≡ true → meets d n ≡ true → ⊥
none_first c d from none past n small holds also =
    elim (cases_lt n from) [ inl below ↦ none n below holds also | inr up ↦ both_ways (meets c n) (past n up small) holds ]

pub none_second : (c d : Condition) (from middle : ℕ) → NoneBelow c d from → IsLeast c from middle → MeetsNone d middle → (n : ℕ) → n < 2 ^ 64 → meets c n ≡ true → meets d n ≡ true → ⊥
none_second c d from middle none first past n small holds also =
    elim (cases_lt n from) [
      | inl below ↦ none n below holds also
      | inr up ↦
          elim (cases_lt n middle) [
            | inl below ↦ both_ways (meets c n) (first.least n up below) holds
            | inr over ↦ both_ways (meets d n) (past n over small) also
          ]
    ]

-- where the number is not met by the first it has gone up
pub gone_up : (c d : Condition) (from middle number : ℕ) → IsLeast c from middle → IsLeast d middle number → meets c number ≡ false → from < number
gone_up c d from middle number first second unmet =
    elim (cases_lt from number) [
      | inl less ↦ less
      | inr over ↦
          let low = first.above in
          let more = second.above in
          let same : middle ≡ number = omega (arith, over, low, more) in
          absurd (both_ways (meets c number) unmet (subst (λ n. meets c n ≡ true) same first.met))
    ]

-- ---- how the steps of the code come to these

pub starts_after : (from bit start : ℕ) → bit < from % 2 → start ≡ from / 2 + 1 → Starts from bit start
starts_after from bit start less is = record { enough = omega (arith, less, is); least = omega (arith, less, is) }

pub starts_at : (from bit start : ℕ) → from % 2 ≤ bit → bit < 2 → start ≡ from / 2 → Starts from bit start
starts_at from bit start more few is = record { enough = omega (arith, more, is); least = omega (arith, few, more, is) }

pub ends_same : (from top bit : ℕ) → top ≡ from / 2 → bit ≡ from % 2 → Ends from top bit
ends_same from top bit is same = record { same = λ e. same; other = λ unlike. absurd (unlike is) }

pub ends_other : (from top bit : ℕ) → top ≢ from / 2 → bit ≡ 0 → Ends from top bit
ends_other from top bit unlike none = record { same = λ e. absurd (unlike e); other = λ e. none }

pub if_some : {P Q : ℕ → Type 0} → (o : Option ℕ) → ((n : ℕ) → P n → Q n) → IfSome o P → IfSome o Q
if_some (Some n) f has = f n has
if_some None f has = tt

pub if_none : {P Q : Type 0} → (o : Option ℕ) → (P → Q) → IfNone o P → IfNone o Q
if_none (Some n) f has = tt
if_none None f has = f has

pub none_always : {A Q : Type 0} → (o : Option A) → Q → IfNone o Q
none_always (Some n) it = tt
none_always None it = it
