-- Numbers in rising order.
use Rattle.std.proofs.Common.{◌≡◌, ◌<◌, ◌≤◌, ◌+◌, ◌∙◌, ap, arith, refl, sym, inl, inr, ℕ, List, [], ◌∷◌, ◌++◌, Bool, true, false, ◌==◌, ◌||◌, subst}
use Rattle.std.proofs.lemmas.Bool.{cases_lt, eq-eqb, le-ltb, lt-ltb, ne_eqb}
use Rattle.std.specs.BTreeSet.{insert_key}
use Rattle.std.specs.Ordering.{nat_cmp}
use Rattle.sk_replay.specs.Logged.{RiseFrom, is_among}
use Rattle.sk_replay.specs.Seen.{RisingAreAll, RisingRise, rising}

abbrev put : List ℕ → ℕ → List ℕ
put numbers n = insert_key nat_cmp numbers n

-- ---- where a number stands

put_below : (n first : ℕ) (numbers : List ℕ) → n < first → put (first ∷ numbers) n ≡ n ∷ first ∷ numbers
put_below n first numbers less = let t = lt-ltb n first less in rw t refl

put_there : (n first : ℕ) (numbers : List ℕ) → n ≡ first → put (first ∷ numbers) n ≡ first ∷ numbers
put_there n first numbers is = let f = le-ltb n first (omega (arith, is)) in let same = eq-eqb n first is in rw (f, same) refl

put_above : (n first : ℕ) (numbers : List ℕ) → first < n → put (first ∷ numbers) n ≡ first ∷ put numbers n
put_above n first numbers more =
    let f = le-ltb n first (omega (arith, more)) in
    let other = ne_eqb n first (λ is. omega (arith, is, more)) in
    rw (f, other) refl

-- a number is below another one, the same, or above it
data Order (a b : ℕ) : Type 0 where
  below : a < b → Order a b
  equal : a ≡ b → Order a b
  above : b < a → Order a b

order : (a b : ℕ) → Order a b
order a b = elim (cases_lt a b) [
  | inl less ↦ below less
  | inr ge ↦ elim (cases_lt b a) [
    | inl more ↦ above more
    | inr le ↦ equal (omega (arith, ge, le))
  ]
]

-- ---- in which order numbers are put there is the same

put_first : (x a b : ℕ) (xs : List ℕ) → a < b → a < x → put (put (x ∷ xs) b) a ≡ a ∷ put (x ∷ xs) b
put_first x a b xs less front = elim (order b x) [
  | below lower ↦ let is = put_below b x xs lower in ap (λ l. put l a) is ∙ put_below a b (x ∷ xs) less ∙ ap (λ l. a ∷ l) (sym is)
  | equal is_it ↦ let is = put_there b x xs is_it in ap (λ l. put l a) is ∙ put_below a x xs front ∙ ap (λ l. a ∷ l) (sym is)
  | above higher ↦ let is = put_above b x xs higher in ap (λ l. put l a) is ∙ put_below a x (put xs b) front ∙ ap (λ l. a ∷ l) (sym is)
]

swapped_less : (numbers : List ℕ) (a b : ℕ) → a < b → put (put numbers a) b ≡ put (put numbers b) a
swapped_less [] a b less = put_above b a [] less ∙ sym (put_below a b [] less)
swapped_less (x ∷ xs) a b less = elim (order a x) [
  | below front ↦ ap (λ l. put l b) (put_below a x xs front) ∙ put_above b a (x ∷ xs) less ∙ sym (put_first x a b xs less front)
  | equal is ↦
      let higher : x < b = omega (arith, is, less) in
      ap (λ l. put l b) (put_there a x xs is) ∙ put_above b x xs higher
      ∙ sym (ap (λ l. put l a) (put_above b x xs higher) ∙ put_there a x (put xs b) is)
  | above behind ↦
      let higher : x < b = omega (arith, behind, less) in
      ap (λ l. put l b) (put_above a x xs behind) ∙ put_above b x (put xs a) higher
      ∙ ap (λ l. x ∷ l) (swapped_less xs a b less)
      ∙ sym (ap (λ l. put l a) (put_above b x xs higher) ∙ put_above a x (put xs b) behind)
]

swapped : (numbers : List ℕ) (a b : ℕ) → put (put numbers a) b ≡ put (put numbers b) a
swapped numbers a b = elim (order a b) [
  | below less ↦ swapped_less numbers a b less
  | equal is ↦ ap (put (put numbers a)) (sym is) ∙ ap (λ n. put (put numbers n) a) is
  | above more ↦ sym (swapped_less numbers b a more)
]

-- one number more
pub rising_more : (numbers : List ℕ) (n : ℕ) → rising (numbers ++ n ∷ []) ≡ put (rising numbers) n
rising_more [] n = refl
rising_more (first ∷ numbers) n = ap (λ l. put l first) (rising_more numbers n) ∙ swapped (rising numbers) n first

-- ---- which numbers are there

among_put : (n other : ℕ) (numbers : List ℕ) → is_among n (put numbers other) ≡ ((other == n) || is_among n numbers)
among_put n other [] = refl
among_put n other (first ∷ numbers) = elim (order other first) [
  | below less ↦ ap (is_among n) (put_below other first numbers less)
  | equal is ↦
      ap (is_among n) (put_there other first numbers is) ∙ again (first == n) (is_among n numbers)
      ∙ ap (λ m. (m == n) || ((first == n) || is_among n numbers)) (sym is)
  | above more ↦
      ap (is_among n) (put_above other first numbers more) ∙ ap (λ b. (first == n) || b) (among_put n other numbers)
      ∙ exchanged (first == n) (other == n) (is_among n numbers)
]
  where
    again : (a b : Bool) → (a || b) ≡ (a || (a || b))
    again true b = refl
    again false b = refl

    exchanged : (a b c : Bool) → (a || (b || c)) ≡ (b || (a || c))
    exchanged true true c = refl
    exchanged true false c = refl
    exchanged false true c = refl
    exchanged false false c = refl

pub rising_are_all : RisingAreAll
rising_are_all [] n = refl
rising_are_all (first ∷ numbers) n = among_put n first (rising numbers) ∙ ap (λ b. (first == n) || b) (rising_are_all numbers n)

-- ---- they rise

put_rises : (from n : ℕ) (numbers : List ℕ) → from ≤ n → RiseFrom from numbers → RiseFrom from (put numbers n)
put_rises from n [] low rise = (low, tt)
put_rises from n (first ∷ numbers) low rise = elim (order n first) [
  | below less ↦ subst (RiseFrom from) (sym (put_below n first numbers less)) (low, (omega (arith, less), rise.1))
  | equal is ↦ subst (RiseFrom from) (sym (put_there n first numbers is)) rise
  | above more ↦ subst (RiseFrom from) (sym (put_above n first numbers more)) (rise.0, put_rises (first + 1) n numbers (omega (arith, more)) rise.1)
]

pub rising_rise : RisingRise
rising_rise [] = tt
rising_rise (first ∷ numbers) = put_rises 0 first (rising numbers) (omega arith) (rising_rise numbers)
