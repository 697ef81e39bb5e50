-- What an operation on the bits of a set does to the set.
use Rattle.std.proofs.Common.{◌≡◌, ◌∙◌, ◌+◌, ◌-◌, ◌*◌, ◌^◌, ◌<◌, ◌≤◌, ◌==◌, ◌||◌, ◌&&◌, ℕ, zero, suc, arith, ap, sym, subst, refl, Bool, true, false, not, nat_le, min, max, bit_and, bit_or, w32}
use Rattle.sk_world.specs.Common.{bit_at, bit_not, trailing_zeros, same_set, Signals, IsSignal, IsLeast, signals_of, number_of, contains-signals_of, number_of-signals_of}
use Rattle.sk_world.specs.Sets as set
use Rattle.sk_world.proofs.Common.{nat_tests, pow_pos, pow_below, bit_at_or, bit_at_and, bit_at_not, bit_at-lt, bit_at-zero, bit_at-pow_same, bit_at-pow_other, bit_at_ones, bit_at_above, bit_at-trailing_zeros, and_pow}
use Rattle.sk_world.specs.SignalSet.{has_bit}
use Rattle.sk_world.proofs.SetLaws.{none_in_empty, in_insert, in_union, in_difference, union-one, difference-one}

-- the signals of a number's bits are this set, where the members are those that have their bits set
signals_are : (b : ℕ) (s : Signals) → ((q : ℕ) → set.contains s q ≡ (nat_le 1 q && (nat_le q 31 && has_bit b q))) → signals_of b ≡ s
signals_are b s each = same_set (signals_of b) s (λ q. contains-signals_of b q ∙ sym (each q))

max_test : (x y : ℕ) → x < 2 → y < 2 → (max x y == 1) ≡ ((x == 1) || (y == 1))
max_test x y h k = grind (arith, nat_tests)

min_test : (x y : ℕ) → x < 2 → y < 2 → (min x (1 - y) == 1) ≡ ((x == 1) && not (y == 1))
min_test x y h k = grind (arith, nat_tests)

has_bit-or : (a b q : ℕ) → has_bit (bit_or a b) q ≡ (has_bit a q || has_bit b q)
has_bit-or a b q = ap (λ x. x == 1) (bit_at_or a b (q - 1)) ∙ max_test _ _ (bit_at-lt a (q - 1)) (bit_at-lt b (q - 1))

has_bit-without : (a b q : ℕ) → b < 2 ^ 32 → q ≤ 31 → has_bit (bit_and a (2 ^ 32 - 1 - b)) q ≡ (has_bit a q && not (has_bit b q))
has_bit-without a b q small within =
    ap (λ x. x == 1) (bit_at_and a (bit_not w32 b) (q - 1))
    ∙ ap (λ x. min (bit_at a (q - 1)) x == 1) (bit_at_not w32 b (q - 1) small (omega arith))
    ∙ min_test _ _ (bit_at-lt a (q - 1)) (bit_at-lt b (q - 1))

has_bit-flag : (n q : ℕ) → 1 ≤ n → 1 ≤ q → has_bit (2 ^ (n - 1)) q ≡ (q == n)
has_bit-flag n q hn hq = grind (arith, nat_tests, bit_at-pow_same (n - 1), bit_at-pow_other (n - 1) (q - 1))

-- tests that agree on the signals from 1 to 31
within : (q : ℕ) (x y : Bool) → (1 ≤ q → q ≤ 31 → x ≡ y) → (nat_le 1 q && (nat_le q 31 && x)) ≡ (nat_le 1 q && (nat_le q 31 && y))
within q x y same = grind (arith, nat_tests)

or_within : (l u x y : Bool) → ((l && (u && x)) || (l && (u && y))) ≡ (l && (u && (x || y)))
or_within true true x y = refl
or_within true false x y = refl
or_within false u x y = refl

without_within : (l u x y : Bool) → ((l && (u && x)) && not (l && (u && y))) ≡ (l && (u && (x && not y)))
without_within true true x y = refl
without_within true false x y = refl
without_within false u x y = refl

pub signals_of-or : (a b : ℕ) → signals_of (bit_or a b) ≡ set.union (signals_of a) (signals_of b)
signals_of-or a b =
    signals_are (bit_or a b) _
    (λ q. in_union _ _ q
    ∙ (λ i. contains-signals_of a q i || contains-signals_of b q i)
    ∙ or_within (nat_le 1 q) (nat_le q 31) (has_bit a q) (has_bit b q)
    ∙ within q _ _ (λ _ _. sym (has_bit-or a b q)))

pub signals_of-without : (a b : ℕ) → b < 2 ^ 32 → signals_of (bit_and a (2 ^ 32 - 1 - b)) ≡ set.difference (signals_of a) (signals_of b)
signals_of-without a b small =
    signals_are (bit_and a (2 ^ 32 - 1 - b)) _
    (λ q. in_difference _ _ q
    ∙ (λ i. contains-signals_of a q i && not (contains-signals_of b q i))
    ∙ without_within (nat_le 1 q) (nat_le q 31) (has_bit a q) (has_bit b q)
    ∙ within q _ _ (λ _ h. sym (has_bit-without a b q small h)))

-- the bit of one signal
flag_is : (n : ℕ) → IsSignal n → signals_of (2 ^ (n - 1)) ≡ set.insert set.empty n
flag_is n is =
    signals_are (2 ^ (n - 1)) _
    (λ q. in_insert set.empty n q
    ∙ ap (λ b. (q == n) || b) (none_in_empty q)
    ∙ only n q is
    ∙ within q _ _ (λ h _. sym (has_bit-flag n q is.0 h)))
  where
    only : (n q : ℕ) → IsSignal n → ((q == n) || false) ≡ (nat_le 1 q && (nat_le q 31 && (q == n)))
    only n q is = grind (arith, nat_tests)

pub with_is : (a n f : ℕ) → IsSignal n → f ≡ 2 ^ (n - 1) → signals_of (bit_or a f) ≡ set.insert (signals_of a) n
with_is a n f is e =
    ap (λ x. signals_of (bit_or a x)) e ∙ signals_of-or a (2 ^ (n - 1)) ∙ ap (set.union (signals_of a)) (flag_is n is) ∙ union-one _ n

pub flag_below : (n : ℕ) → IsSignal n → 2 ^ (n - 1) < 2 ^ 31
flag_below n is = pow_below (n - 1) 31 (omega arith)

pub without_is : (a n f : ℕ) → IsSignal n → f ≡ 2 ^ (n - 1) → signals_of (bit_and a (2 ^ 32 - 1 - f)) ≡ set.remove (signals_of a) n
without_is a n f is e =
    ap (λ x. signals_of (bit_and a (2 ^ 32 - 1 - x))) e
    ∙ signals_of-without a (2 ^ (n - 1)) (omega (arith, flag_below n is))
    ∙ ap (set.difference (signals_of a)) (flag_is n is)
    ∙ difference-one _ n

multiple_test : (x p : ℕ) → x < 2 → 0 < p → (x * p == p) ≡ (x == 1)
multiple_test zero p h k = grind (arith, nat_tests)
multiple_test (suc zero) p h k = grind (arith, nat_tests)
multiple_test (suc (suc x)) p h k = absurd (omega arith)

in_range : (n : ℕ) (x : Bool) → IsSignal n → x ≡ (nat_le 1 n && (nat_le n 31 && x))
in_range n x is = grind (arith, nat_tests)

pub contains_is : (a n f : ℕ) → IsSignal n → f ≡ 2 ^ (n - 1) → (bit_and a f == f) ≡ set.contains (signals_of a) n
contains_is a n f is e =
    ap (λ x. bit_and a x == x) e
    ∙ ap (λ x. x == 2 ^ (n - 1)) (and_pow a (n - 1))
    ∙ multiple_test (bit_at a (n - 1)) (2 ^ (n - 1)) (bit_at-lt a (n - 1)) (pow_pos (n - 1))
    ∙ in_range n (has_bit a n) is
    ∙ sym (contains-signals_of a n)

-- the bits above signal 31 count for nothing
pub truncated : (a k : ℕ) → 31 ≤ k → signals_of (bit_and a (2 ^ k - 1)) ≡ signals_of a
truncated a k wide = signals_are (bit_and a (2 ^ k - 1)) _ (λ q. contains-signals_of a q ∙ within q _ _ (λ l u. sym (kept q l u)))
  where
    min_one : (x : ℕ) → x < 2 → min x 1 ≡ x
    min_one x h = omega arith

    kept : (q : ℕ) → 1 ≤ q → q ≤ 31 → has_bit (bit_and a (2 ^ k - 1)) q ≡ has_bit a q
    kept q l u =
        ap (λ x. x == 1)
        (bit_at_and a (2 ^ k - 1) (q - 1)
        ∙ ap (min (bit_at a (q - 1))) (bit_at_ones k (q - 1) (omega arith))
        ∙ min_one (bit_at a (q - 1)) (bit_at-lt a (q - 1)))

pub signals_of-zero : signals_of 0 ≡ set.empty
signals_of-zero = signals_are 0 _ (λ q. none_in_empty q ∙ never (nat_le 1 q) (nat_le q 31) ∙ within q _ _ (λ _ _. sym (ap (λ x. x == 1) (bit_at-zero (q - 1)))))
  where
    never : (l u : Bool) → false ≡ (l && (u && false))
    never true true = refl
    never true false = refl
    never false u = refl

-- the lowest bit of a number is its least signal
pub least_bit : (a : ℕ) → 0 < a → a < 2 ^ 31 → IsLeast (signals_of a) (trailing_zeros w32 a + 1)
least_bit a positive small =
    let t = trailing_zeros w32 a in
    let z = bit_at-trailing_zeros w32 a positive (omega arith) in
    let low : t < 31 = below_31 t z.1 in
    let less : t + 1 - 1 ≡ t = omega arith in
    record {
      signal = (omega arith, omega arith);
      member = contains-signals_of a (t + 1) ∙ sym (in_range (t + 1) _ (omega arith, omega arith)) ∙ ap (λ k. bit_at a k == 1) less ∙ ap (λ x. x == 1) z.1;
      least = λ other here. above t other z.2 (sym (contains-signals_of a other) ∙ here);
    }
  where
    below_31 : (t : ℕ) → bit_at a t ≡ 1 → t < 31
    below_31 t one = grind (arith, bit_at_above a 31 t small)

    above : (t other : ℕ) → ((i : ℕ) → i < t → bit_at a i ≡ 0) → (nat_le 1 other && (nat_le other 31 && has_bit a other)) ≡ true → t + 1 ≤ other
    above t other none here = grind (arith, nat_tests, none (other - 1))

-- the least signal of a set whose bits are not 0
pub least_of : (a r : ℕ) (s : Signals) → signals_of a ≡ s → r ≡ a → false ≡ (a == 0) → a < 2 ^ 31 → IsLeast s (trailing_zeros w32 r + 1)
least_of a r s e is some small =
    let P : Signals → Type 0 = λ x. IsLeast x (trailing_zeros w32 r + 1) in
    let Q : ℕ → Type 0 = λ x. IsLeast (signals_of a) (trailing_zeros w32 x + 1) in
    subst P e (subst Q (sym is) (least_bit a (positive a some) small))
  where
    positive : (a : ℕ) → false ≡ (a == 0) → 0 < a
    positive a some = grind (arith, nat_tests)

pub none_of_zero : (a : ℕ) (s : Signals) → signals_of a ≡ s → true ≡ (a == 0) → s ≡ set.empty
none_of_zero a s e z = sym e ∙ ap signals_of (zero_of a z) ∙ signals_of-zero
  where
    zero_of : (a : ℕ) → true ≡ (a == 0) → a ≡ 0
    zero_of a z = grind (arith, nat_tests)

pub not_empty : (s : Signals) (t : ℕ) → IsLeast s t → s ≡ set.empty → true ≡ false
not_empty s t is e = sym is.member ∙ ap (λ x. set.contains x t) e ∙ none_in_empty t

-- equal bits are equal sets
pub same_number : (a b : ℕ) (s t : Signals) (r : Bool) → signals_of a ≡ s → signals_of b ≡ t → a < 2 ^ 31 → b < 2 ^ 31 → r ≡ (a == b) → r ≡ (number_of s == number_of t)
same_number a b s t r d e h k is = is ∙ (λ i. number a s d h i == number b t e k i)
  where
    number : (a : ℕ) (s : Signals) → signals_of a ≡ s → a < 2 ^ 31 → a ≡ number_of s
    number a s d h = sym (number_of-signals_of a h) ∙ ap number_of d

-- the bits that `from_bits_truncate` keeps
pub kept_bits : (a r : ℕ) → r ≡ bit_and (bit_and a (2 ^ 32 - 1)) (2 ^ 31 - 1) → signals_of r ≡ signals_of a
kept_bits a r e = ap signals_of e ∙ truncated (bit_and a (2 ^ 32 - 1)) 31 (omega arith) ∙ truncated a 32 (omega arith)
