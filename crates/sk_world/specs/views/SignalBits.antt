-- What the bits of a set say of its members.
use Rattle.std.proofs.Common.{◌≡◌, ◌∙◌, ◌+◌, ◌-◌, ◌*◌, ◌%◌, ◌^◌, ◌<◌, ◌≤◌, ◌==◌, ◌||◌, ◌&&◌, ℕ, zero, suc, arith, ap, sym, refl, Bool, true, false, cond, [], ◌∷◌, nat_eq, nat_le, filter, sum_by}
use Rattle.std.specs.List.{list_any}
use Rattle.std.specs.Int.{bit_at}
use Rattle.sk_world.specs.Sets as set
use Rattle.sk_world.specs.views.Members.{contains-from_list}
use Rattle.std.proofs.lemmas.List.Elements.{filter-append}
use Rattle.std.proofs.lemmas.List.Folds.{list_any-append}
use Rattle.std.proofs.lemmas.List.Sums.{sum_by-append}
use Rattle.std.proofs.lemmas.Bool.Decides.{nat_tests}
use Rattle.std.proofs.lemmas.Nat.{mod-pow-add}
use Rattle.std.proofs.lemmas.Nat.Bits.{bit_at-lt}
use Rattle.sk_world.specs.SignalSet.{signals_to, has_bit, signals_of, number_of}

-- whether a number is in a list of one that is filtered
any_of_one : (p : ℕ → Bool) (k q : ℕ) → list_any (λ y. nat_eq y q) (filter p (k ∷ [])) ≡ (p k && nat_eq k q)
any_of_one p k q =
    elim (p k) as (λ b. list_any (λ y. nat_eq y q) (cond b (k ∷ []) []) ≡ (b && nat_eq k q)) [
      | true ↦ elim (nat_eq k q) as (λ b. (b || false) ≡ b) [ true ↦ refl | false ↦ refl ]
      | false ↦ refl
    ]

-- one more signal
more : (p : ℕ → Bool) (k q : ℕ) → ((nat_le 1 q && (nat_le q k && p q)) || (p (suc k) && nat_eq (suc k) q)) ≡ (nat_le 1 q && (nat_le q (suc k) && p q))
more p k q = grind (arith, nat_tests)

-- the signals up to k that pass a test
any_passing : (p : ℕ → Bool) (k q : ℕ) → list_any (λ y. nat_eq y q) (filter p (signals_to k)) ≡ (nat_le 1 q && (nat_le q k && p q))
unfolding signals_to
any_passing p zero q = grind (arith, nat_tests)
any_passing p (suc k) q =
    ap (list_any (λ y. nat_eq y q)) (filter-append p (signals_to k) (suc k ∷ []))
    ∙ list_any-append (λ y. nat_eq y q) (filter p (signals_to k)) (filter p (suc k ∷ []))
    ∙ (λ i. any_passing p k q i || any_of_one p (suc k) q i)
    ∙ more p k q

-- a signal from 1 to 31 is a member where its bit is set
pub contains-signals_of : (b q : ℕ) → set.contains (signals_of b) q ≡ (nat_le 1 q && (nat_le q 31 && has_bit b q))
unfolding signals_of
contains-signals_of b q = contains-from_list (filter (has_bit b) (signals_to 31)) q ∙ any_passing (has_bit b) 31 q

-- a test of a bit, as the number that it adds
bit_value : (k x : ℕ) → x < 2 → cond (x == 1) (2 ^ k) 0 ≡ x * 2 ^ k
bit_value k zero h = omega arith
bit_value k (suc zero) h = omega arith
bit_value k (suc (suc x)) h = absurd (omega arith)

-- what signal k + 1 adds to the number
summand : (b k : ℕ) → k < 31 → cond (set.contains (signals_of b) (suc k)) (2 ^ (suc k - 1)) 0 ≡ bit_at b k * 2 ^ k
summand b k h =
    let is_bit : set.contains (signals_of b) (suc k) ≡ (bit_at b k == 1) = contains-signals_of b (suc k) ∙ grind (arith, nat_tests) in
    let below : suc k - 1 ≡ k = omega arith in
    (λ i. cond (is_bit i) (2 ^ below i) 0) ∙ bit_value k (bit_at b k) (bit_at-lt b k)

-- the signals up to k add up to the lower k bits
number_to : (b k : ℕ) → k ≤ 31 → sum_by (λ n. cond (set.contains (signals_of b) n) (2 ^ (n - 1)) 0) (signals_to k) ≡ b % 2 ^ k
unfolding signals_to
number_to b zero h = omega arith
number_to b (suc k) h =
    let one_more : 1 + k ≡ suc k = omega arith in
    let split : b % 2 ^ suc k ≡ bit_at b k * 2 ^ k + b % 2 ^ k = ap (λ n. b % 2 ^ n) (sym one_more) ∙ mod-pow-add b 1 k in
    sum_by-append _ (signals_to k) (suc k ∷ [])
    ∙ omega (arith, number_to b k (omega arith), summand b k (omega arith), split)

-- the bits of the set that some bits of the signals 1 to 31 stand for are those bits
pub number_of-signals_of : (b : ℕ) → b < 2 ^ 31 → number_of (signals_of b) ≡ b
unfolding number_of
number_of-signals_of b h = number_to b 31 (omega arith) ∙ omega arith
