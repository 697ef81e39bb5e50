-- Values and masks, as they are read.
use Rattle.std.proofs.Common.{◌≡◌, ℕ, ◌<◌, ◌≤◌, ◌-◌, ◌^◌, nat_lt, true, bit_and, bit_or, List, [], ◌∷◌, length, refl, ap, sym, ◌∙◌, subst, arith}
use Rattle.std.proofs.lemmas.Bool.Decides.{nat_tests}
use Rattle.std.specs.Prelude.{Result, Ok, Err, IfOk, IfErr, IsErrAnd}
use Rattle.sk_policy_text.specs.declared.condition_stop.ConditionStop.{ConditionStop}
use Rattle.sk_policy_text.specs.declared.condition_stop.ConditionStop.TheVariants as stop
use Rattle.sk_policy_text.specs.declared.token.Token.{Token}
use Rattle.sk_policy_text.specs.declared.token.Token.TheVariants as token
use Rattle.sk_policy_text.specs.Conditions.{Alone, AnyOf, value_of, or_words, with_bits, Factor, Plain, Complement, factor_words, and_words, masked_by}
use Rattle.sk_policy_text.specs.ConditionsReading.{BeginsNot, NoNumber, Refuses, ReadsValue, NoValue, ReadsNumbers, NoNumbers, ReadsFactor, NoFactor, ReadsMask, NoMask}
use Rattle.sk_policy_text.proofs.ConditionsFirst.{tail, differ}
use Rattle.sk_policy_text.proofs.ConditionsUnique.{value_unique, value_starts, factor_unique}

pub refuses_on : (s : ConditionStop) (one other : List Token) (A B : Type 0) → length one ≤ length other → (A → B) → Refuses s one A → Refuses s other B
refuses_on (stop.NotUnderstood left) one other A B short on refused = (omega (arith, refused.0, short), on refused.1)
refuses_on (stop.TooDeep left) one other A B short on refused = refused
refuses_on stop.Memory one other A B short on refused = refused

pub on_ok : {X E : Type 0} {P Q : X → Type 0} (r : Result X E) → ((x : X) → P x → Q x) → IfOk r P → IfOk r Q
on_ok (Ok x) f p = f x p
on_ok (Err e) f p = tt

pub on_err : {X E : Type 0} {P Q : E → Type 0} (r : Result X E) → ((e : E) → P e → Q e) → IfErr r P → IfErr r Q
on_err (Ok x) f p = tt
on_err (Err e) f p = f e p

pub handed : {X : Type 0} (P : ConditionStop → Type 0) (r : Result X ConditionStop) (s : ConditionStop) → IsErrAnd r (λ e. e ≡ s) → P s → IfErr r P
handed P (Ok x) s is p = tt
handed P (Err e) s is p = subst P (sym is) p

-- a refusal is handed on
pub refused : {X : Type 0} (r : Result X ConditionStop) (s : ConditionStop) (one other : List Token) (A B : Type 0) → IsErrAnd r (λ e. e ≡ s) → length one ≤ length other → (A → B) → Refuses s one A
    → IfErr r (λ (it : ConditionStop). Refuses it other B)
refused r s one other A B is short on it = handed (λ (stop : ConditionStop). Refuses stop other B) r s is (refuses_on s one other A B short on it)

pub one_less : (tokens rest : List Token) (it : Token) → tokens ≡ it ∷ rest → length rest < length tokens
one_less tokens rest it e = omega (arith, ap (λ (them : List Token). length them) e)

abbrev pub NoOrs : List Token → Type 0
NoOrs tokens = (numbers : List ℕ) (rest : List Token) → tokens ≡ or_words numbers (token.Close ∷ rest) → ⊥

-- some numbers are read, and the rest is left
pub record NumbersLeft (tokens : List Token) (bits : ℕ) (rest : List Token) : Type 0 where
  pub reads : (numbers : List ℕ) (end : List Token) → rest ≡ or_words numbers (token.Close ∷ end) → ReadsNumbers tokens (with_bits bits numbers) end
  pub none : NoOrs rest → NoNumbers tokens
  pub shorter : length rest ≤ length tokens

pub numbers_begin : (tokens next : List Token) (n : ℕ) → tokens ≡ token.Number n ∷ next → NumbersLeft tokens n next
numbers_begin tokens next n is = record {
  reads = λ numbers end e. record { first = n; numbers = numbers; words = is ∙ ap (λ (more : List Token). token.Number n ∷ more) e; is = refl };
  none = λ lacks first numbers rest e. lacks numbers rest (ap tail (sym is ∙ e));
  shorter = let less = one_less tokens next _ is in omega (arith, less);
}

none_behind : (rest more next : List Token) (n : ℕ) → rest ≡ token.BitOr ∷ more → more ≡ token.Number n ∷ next → NoOrs next → NoOrs rest
none_behind rest more next n or number lacks [] end e = differ (sym or ∙ e) refl
none_behind rest more next n or number lacks (m ∷ numbers) end e = lacks numbers end (ap tail (sym number ∙ ap tail (sym or ∙ e)))

pub number_left : (tokens rest more next : List Token) (bits n : ℕ) → NumbersLeft tokens bits rest → rest ≡ token.BitOr ∷ more → more ≡ token.Number n ∷ next → NumbersLeft tokens (bit_or bits n) next
number_left tokens rest more next bits n left or number = record {
  reads = λ numbers end e. left.reads (n ∷ numbers) end (or ∙ ap (λ (them : List Token). token.BitOr ∷ them) (number ∙ ap (λ (them : List Token). token.Number n ∷ them) e));
  none = λ lacks. left.none (none_behind rest more next n or number lacks);
  shorter = let less = one_less rest more _ or in let fewer = one_less more next _ number in omega (arith, less, fewer, left.shorter);
}

pub no_number_left : (rest more : List Token) → rest ≡ token.BitOr ∷ more → NoNumber more → NoOrs rest
no_number_left rest more or lacks [] end e = differ (sym or ∙ e) refl
no_number_left rest more or lacks (m ∷ numbers) end e = lacks m _ (ap tail (sym or ∙ e))

pub no_end : (rest : List Token) → BeginsNot token.BitOr rest → BeginsNot token.Close rest → NoOrs rest
no_end rest or close [] end e = close end e
no_end rest or close (m ∷ numbers) end e = or _ e

-- ---- values

pub value_alone : (tokens rest : List Token) (n : ℕ) → tokens ≡ token.Number n ∷ rest → ReadsValue tokens n rest
value_alone tokens rest n is = record { written = Alone n; words = is; is = refl }

pub value_in_brackets : (tokens inside rest : List Token) (n : ℕ) → tokens ≡ token.Open ∷ inside → ReadsNumbers inside n rest → ReadsValue tokens n rest
value_in_brackets tokens inside rest n opens reads = record {
  written = AnyOf reads.first reads.numbers;
  words = opens ∙ ap (λ (more : List Token). token.Open ∷ more) reads.words;
  is = reads.is;
}

pub no_value : (tokens : List Token) → BeginsNot token.Open tokens → NoNumber tokens → NoValue tokens
no_value tokens opens number (Alone n) rest e = number n rest e
no_value tokens opens number (AnyOf n numbers) rest e = opens _ e

pub no_value_inside : (tokens inside : List Token) → tokens ≡ token.Open ∷ inside → NoNumbers inside → NoValue tokens
no_value_inside tokens inside opens none (Alone n) rest e = differ (sym opens ∙ e) refl
no_value_inside tokens inside opens none (AnyOf n numbers) rest e = none n numbers rest (ap tail (sym opens ∙ e))

-- ---- factors

pub factor_plain : (tokens rest : List Token) (n : ℕ) → ReadsValue tokens n rest → ReadsFactor tokens n rest
factor_plain tokens rest n reads = record { written = Plain reads.written; words = reads.words; is = reads.is }

is_small : (n : ℕ) → n < 2 ^ 31 → nat_lt n (2 ^ 31) ≡ true
is_small n small = grind (arith, nat_tests, small)

small_is : (n : ℕ) → nat_lt n (2 ^ 31) ≡ true → n < 2 ^ 31
small_is n small = grind (arith, nat_tests, small)

pub factor_complement : (tokens inside rest : List Token) (n : ℕ) → tokens ≡ token.BitNot ∷ inside → ReadsValue inside n rest → n < 2 ^ 31 → ReadsFactor tokens (2 ^ 64 - 1 - n) rest
factor_complement tokens inside rest n turns reads small = record {
  written = Complement reads.written (is_small (value_of reads.written) (subst (λ m. m < 2 ^ 31) reads.is small));
  words = turns ∙ ap (λ (more : List Token). token.BitNot ∷ more) reads.words;
  is = ap (λ m. 2 ^ 64 - 1 - m) reads.is;
}

pub no_factor : (tokens : List Token) → BeginsNot token.BitNot tokens → NoValue tokens → NoFactor tokens
no_factor tokens turns value (Plain v) rest e = value v rest e
no_factor tokens turns value (Complement v small) rest e = turns _ e

pub no_complement : (tokens inside : List Token) → tokens ≡ token.BitNot ∷ inside → NoValue inside → NoFactor tokens
no_complement tokens inside turns none (Plain v) rest e = value_starts v rest inside (sym e ∙ turns)
no_complement tokens inside turns none (Complement v small) rest e = none v rest (ap tail (sym turns ∙ e))

pub too_great : (tokens inside rest : List Token) (n : ℕ) → tokens ≡ token.BitNot ∷ inside → ReadsValue inside n rest → (n < 2 ^ 31 → ⊥) → NoFactor tokens
too_great tokens inside rest n turns reads great (Plain v) more e = value_starts v more inside (sym e ∙ turns)
too_great tokens inside rest n turns reads great (Complement v small) more e =
    let same = value_unique reads.written v rest more (sym reads.words ∙ ap tail (sym turns ∙ e)) in
    great (subst (λ m. m < 2 ^ 31) (sym (reads.is ∙ same.0)) (small_is (value_of v) small))

-- ---- masks

abbrev pub NoAnds : List Token → Type 0
NoAnds tokens = (factors : List Factor) (rest : List Token) → tokens ≡ and_words factors (token.Close ∷ rest) → ⊥

pub record FactorsLeft (tokens : List Token) (mask : ℕ) (rest : List Token) : Type 0 where
  pub reads : (factors : List Factor) (end : List Token) → rest ≡ and_words factors (token.Close ∷ end) → ReadsMask tokens (masked_by mask factors) end
  pub none : NoAnds rest → NoMask tokens
  pub shorter : length rest ≤ length tokens

pub factors_begin : (tokens first next : List Token) (n : ℕ) → tokens ≡ token.BitAnd ∷ first → ReadsFactor first n next → length next < length first → FactorsLeft tokens n next
factors_begin tokens first next n and reads less = record {
  reads = λ factors end e. record {
    first = reads.written;
    factors = factors;
    words = and ∙ ap (λ (more : List Token). token.BitAnd ∷ more) (reads.words ∙ ap (factor_words reads.written) e);
    is = ap (λ m. masked_by m factors) reads.is;
  };
  none = λ lacks other factors rest e. lacks factors rest (factor_unique reads.written other next _ (sym reads.words ∙ ap tail (sym and ∙ e))).1;
  shorter = let fewer = one_less tokens first _ and in omega (arith, less, fewer);
}

none_behind_factor : (rest more next : List Token) (n : ℕ) → rest ≡ token.BitAnd ∷ more → ReadsFactor more n next → NoAnds next → NoAnds rest
none_behind_factor rest more next n and reads lacks [] end e = differ (sym and ∙ e) refl
none_behind_factor rest more next n and reads lacks (factor ∷ factors) end e =
    lacks factors end (factor_unique reads.written factor next _ (sym reads.words ∙ ap tail (sym and ∙ e))).1

pub factor_left : (tokens rest more next : List Token) (mask n : ℕ) → FactorsLeft tokens mask rest → rest ≡ token.BitAnd ∷ more → ReadsFactor more n next → length next < length more → FactorsLeft tokens (bit_and mask n) next
factor_left tokens rest more next mask n left and reads less = record {
  reads = λ factors end e. subst (λ m. ReadsMask tokens (masked_by (bit_and mask m) factors) end) (sym reads.is)
      (left.reads (reads.written ∷ factors) end (and ∙ ap (λ (them : List Token). token.BitAnd ∷ them) (reads.words ∙ ap (factor_words reads.written) e)));
  none = λ lacks. left.none (none_behind_factor rest more next n and reads lacks);
  shorter = let fewer = one_less rest more _ and in omega (arith, less, fewer, left.shorter);
}

pub no_factor_left : (rest more : List Token) → rest ≡ token.BitAnd ∷ more → NoFactor more → NoAnds rest
no_factor_left rest more and lacks [] end e = differ (sym and ∙ e) refl
no_factor_left rest more and lacks (factor ∷ factors) end e = lacks factor _ (ap tail (sym and ∙ e))

pub no_end_of_factors : (rest : List Token) → BeginsNot token.BitAnd rest → BeginsNot token.Close rest → NoAnds rest
no_end_of_factors rest and close [] end e = close end e
no_end_of_factors rest and close (factor ∷ factors) end e = and _ e
