-- Brackets that are open in what is read.
use Rattle.std.proofs.Common.{◌≡◌, ℕ, ◌≤◌, ◌+◌, List, [], ◌∷◌, ◌++◌, length, refl, ap, sym, ◌∙◌, arith, append_assoc}
use Rattle.std.specs.Prelude.{Result, IfErr, IsErrAnd}
use Rattle.sk_terms.specs.declared.term.Term.{Term}
use Rattle.sk_policy_text.specs.declared.condition_stop.ConditionStop.{ConditionStop}
use Rattle.sk_policy_text.specs.declared.condition_stop.ConditionStop.TheVariants as stop
use Rattle.sk_policy_text.specs.declared.token.Token.{Token}
use Rattle.sk_policy_text.specs.declared.token.Token.TheVariants as token
use Rattle.sk_policy_text.specs.Conditions.{Value, Alone, AnyOf, value_words, or_words, Factor, Plain, Complement, factor_words, and_words, Side, Whole, Masked, side_words, Comparison, BitsFirst, ValueFirst, comparison_words, from, up_to, Alternative, One, Range, Brackets, Alternatives, Last, Either, alternative_words, alternatives_words}
use Rattle.sk_policy_text.specs.ConditionsRead.{opening, closing, opens, closes}
use Rattle.sk_policy_text.specs.ConditionsReading.{OpensIn, ReadsOne, Refuses, Stops}
use Rattle.sk_policy_text.proofs.ConditionsValues.{handed}

opens_both : (one other : List Token) → opens (one ++ other) ≡ opens one + opens other
opens_both [] other = omega arith
opens_both (it ∷ one) other = omega (arith, opens_both one other)

closes_both : (one other : List Token) → closes (one ++ other) ≡ closes one + closes other
closes_both [] other = omega arith
closes_both (it ∷ one) other = omega (arith, closes_both one other)

-- what stands before the rest, with as many brackets that close as open
pub record Passes (tokens rest : List Token) : Type 0 where
  pub front : List Token
  pub words : tokens ≡ front ++ rest
  pub even : opens front ≡ closes front

pub none_passed : (tokens : List Token) → Passes tokens tokens
none_passed tokens = record { front = []; words = refl; even = refl }

pub passed_both : (a b d : List Token) → Passes a b → Passes b d → Passes a d
passed_both a b d one other = record {
  front = one.front ++ other.front;
  words = one.words ∙ ap (λ (them : List Token). one.front ++ them) other.words ∙ sym (append_assoc one.front other.front d);
  even = omega (arith, opens_both one.front other.front, closes_both one.front other.front, one.even, other.even);
}

pub passes_as : (a b d : List Token) → a ≡ b → Passes b d → Passes a d
passes_as a b d is passes = record { front = passes.front; words = is ∙ passes.words; even = passes.even }

-- a word that is no bracket
passed_one : (it : Token) (a b : List Token) → opening it ≡ 0 → closing it ≡ 0 → Passes a b → Passes (it ∷ a) b
passed_one it a b not_open not_close passes = record {
  front = it ∷ passes.front;
  words = ap (λ (them : List Token). it ∷ them) passes.words;
  even = omega (arith, not_open, not_close, passes.even);
}

pub passed_word : (tokens rest more : List Token) (it : Token) → opening it ≡ 0 → closing it ≡ 0 → Passes tokens rest → rest ≡ it ∷ more → Passes tokens more
passed_word tokens rest more it not_open not_close passes is =
    passed_both tokens rest more passes (passes_as rest (it ∷ more) more is (passed_one it more more not_open not_close (none_passed more)))

-- brackets around what is passed
passed_inside : (a b : List Token) → Passes a (token.Close ∷ b) → Passes (token.Open ∷ a) b
passed_inside a b passes = record {
  front = token.Open ∷ (passes.front ++ token.Close ∷ []);
  words = ap (λ (them : List Token). token.Open ∷ them) (passes.words ∙ sym (append_assoc passes.front (token.Close ∷ []) b));
  even = omega (arith, opens_both passes.front (token.Close ∷ []), closes_both passes.front (token.Close ∷ []), passes.even);
}

numbers_pass : (numbers : List ℕ) (rest : List Token) → Passes (or_words numbers rest) rest
numbers_pass [] rest = none_passed rest
numbers_pass (n ∷ numbers) rest = passed_one token.BitOr _ rest refl refl (passed_one (token.Number n) _ rest refl refl (numbers_pass numbers rest))

value_passes : (value : Value) (rest : List Token) → Passes (value_words value rest) rest
value_passes (Alone n) rest = passed_one (token.Number n) rest rest refl refl (none_passed rest)
value_passes (AnyOf n numbers) rest = passed_inside _ rest (passed_one (token.Number n) _ _ refl refl (numbers_pass numbers (token.Close ∷ rest)))

factor_passes : (factor : Factor) (rest : List Token) → Passes (factor_words factor rest) rest
factor_passes (Plain value) rest = value_passes value rest
factor_passes (Complement value small) rest = passed_one token.BitNot _ rest refl refl (value_passes value rest)

factors_pass : (factors : List Factor) (rest : List Token) → Passes (and_words factors rest) rest
factors_pass [] rest = none_passed rest
factors_pass (factor ∷ factors) rest =
    passed_one token.BitAnd _ rest refl refl (passed_both _ (and_words factors rest) rest (factor_passes factor (and_words factors rest)) (factors_pass factors rest))

side_passes : (side : Side) (rest : List Token) → Passes (side_words side rest) rest
side_passes (Whole register there) rest = passed_one (token.Register register) rest rest refl refl (none_passed rest)
side_passes (Masked register there factor factors) rest =
    passed_inside _ rest (passed_one (token.Register register) _ _ refl refl (factors_pass (factor ∷ factors) (token.Close ∷ rest)))

comparison_passes : (comparison : Comparison) (rest : List Token) → Passes (comparison_words comparison rest) rest
comparison_passes (BitsFirst side it value) rest =
    passed_both _ _ rest (side_passes side (token.Compare it ∷ value_words value rest)) (passed_one (token.Compare it) _ rest refl refl (value_passes value rest))
comparison_passes (ValueFirst value it side) rest =
    passed_both _ _ rest (value_passes value (token.Compare it ∷ side_words side rest)) (passed_one (token.Compare it) _ rest refl refl (side_passes side rest))

mutual
  pub alternative_passes : (alternative : Alternative) (rest : List Token) → Passes (alternative_words alternative rest) rest
  alternative_passes (One comparison) rest = comparison_passes comparison rest
  alternative_passes (Range first one other last alike) rest =
      passed_inside _ rest (passed_both _ _ _ (comparison_passes (from first one) (token.And ∷ comparison_words (up_to other last) (token.Close ∷ rest)))
      (passed_one token.And _ _ refl refl (comparison_passes (up_to other last) (token.Close ∷ rest))))
  alternative_passes (Brackets inside) rest = passed_inside _ rest (alternatives_pass inside (token.Close ∷ rest))

  pub alternatives_pass : (alternatives : Alternatives) (rest : List Token) → Passes (alternatives_words alternatives rest) rest
  alternatives_pass (Last alternative) rest = alternative_passes alternative rest
  alternatives_pass (Either alternative others) rest =
      passed_both _ _ rest (alternative_passes alternative (token.Or ∷ alternatives_words others rest)) (passed_one token.Or _ rest refl refl (alternatives_pass others rest))

pub one_passes : (tokens rest : List Token) (old new : List Term) → ReadsOne tokens old new rest → Passes tokens rest
one_passes tokens rest old new one = passes_as tokens _ rest one.words (alternative_passes one.written rest)

-- ---- what opens

pub opens_on : (tokens rest : List Token) (left room : ℕ) → Passes tokens rest → OpensIn rest left room → OpensIn tokens left room
opens_on tokens rest left room passes it = record {
  before = passes.front ++ it.before;
  behind = it.behind;
  words = passes.words ∙ ap (λ (them : List Token). passes.front ++ them) it.words ∙ sym (append_assoc passes.front it.before (token.Open ∷ it.behind));
  stands = it.stands;
  many = omega (arith, opens_both passes.front it.before, closes_both passes.front it.before, passes.even, it.many);
}

pub opens_inside : (tokens inside : List Token) (left room more : ℕ) → tokens ≡ token.Open ∷ inside → room ≡ more + 1 → OpensIn inside left more → OpensIn tokens left room
opens_inside tokens inside left room more opens one it = record {
  before = token.Open ∷ it.before;
  behind = it.behind;
  words = opens ∙ ap (λ (them : List Token). token.Open ∷ them) it.words;
  stands = it.stands;
  many = omega (arith, one, it.many);
}

pub opens_here : (tokens inside : List Token) → tokens ≡ token.Open ∷ inside → OpensIn tokens (length tokens) 0
opens_here tokens inside opens = record {
  before = [];
  behind = inside;
  words = opens;
  stands = ap (λ (them : List Token). length them) opens;
  many = omega arith;
}

-- ---- what stops the reading

pub stops_on : (s : ConditionStop) (room other_room : ℕ) (one other : List Token) (A B : Type 0) → length one ≤ length other
    → ((left : ℕ) → OpensIn one left room → OpensIn other left other_room) → (A → B) → Stops s room one A → Stops s other_room other B
stops_on (stop.NotUnderstood left) room other_room one other A B short opens on stopped = (omega (arith, stopped.0, short), on stopped.1)
stops_on (stop.TooDeep left) room other_room one other A B short opens on stopped = opens left stopped
stops_on stop.Memory room other_room one other A B short opens on stopped = tt

pub refuses_stops : (s : ConditionStop) (room : ℕ) (one other : List Token) (A B : Type 0) → length one ≤ length other → (A → B) → Refuses s one A → Stops s room other B
refuses_stops (stop.NotUnderstood left) room one other A B short on refused = (omega (arith, refused.0, short), on refused.1)
refuses_stops (stop.TooDeep left) room one other A B short on refused = absurd refused
refuses_stops stop.Memory room one other A B short on refused = absurd refused

-- handed on by `?`
pub stopped : {X : Type 0} (r : Result X ConditionStop) (s : ConditionStop) (room other_room : ℕ) (one other : List Token) (A B : Type 0) → IsErrAnd r (λ e. e ≡ s) → length one ≤ length other
    → ((left : ℕ) → OpensIn one left room → OpensIn other left other_room) → (A → B) → Stops s room one A → IfErr r (λ (it : ConditionStop). Stops it other_room other B)
stopped r s room other_room one other A B is short opens on it =
    handed (λ (stop : ConditionStop). Stops stop other_room other B) r s is (stops_on s room other_room one other A B short opens on it)

pub refused_stops : {X : Type 0} (r : Result X ConditionStop) (s : ConditionStop) (room : ℕ) (one other : List Token) (A B : Type 0) → IsErrAnd r (λ e. e ≡ s) → length one ≤ length other
    → (A → B) → Refuses s one A → IfErr r (λ (it : ConditionStop). Stops it room other B)
refused_stops r s room one other A B is short on it = handed (λ (stop : ConditionStop). Stops stop room other B) r s is (refuses_stops s room one other A B short on it)
