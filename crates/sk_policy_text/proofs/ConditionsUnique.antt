-- The same words are read in one way alone.
use Rattle.std.proofs.Common.{◌≡◌, ℕ, ◌-◌, nat_eq, bit_and, bit_or, Bool, true, false, List, [], ◌∷◌, ◌++◌, map, refl, ap, sym, ◌∙◌}
use Rattle.sk_terms.specs.declared.term.Register.{Register}
use Rattle.sk_terms.specs.declared.term.Term.{Term}
use Rattle.sk_policy_text.specs.declared.comparison.Bits.{Bits}
use Rattle.sk_policy_text.specs.declared.comparison.Compared.{Compared}
use Rattle.sk_policy_text.specs.declared.token.Relation.{Relation}
use Rattle.sk_policy_text.specs.declared.token.Token.{Token}
use Rattle.sk_policy_text.specs.declared.token.Token.TheVariants as token
use Rattle.sk_terms.specs.Expressions.{all_bits}
use Rattle.sk_policy_text.specs.Conditions.{Value, Alone, AnyOf, value_words, value_of, or_words, with_bits, Factor, Plain, Complement, factor_words, factor_of, and_words, masked_by, Side, Whole, Masked, side_words, Comparison, BitsFirst, ValueFirst, comparison_words, from, up_to, Alternative, One, Range, Brackets, Alternatives, Last, Either, alternative_words, alternatives_words, Condition, Always, Never, Some as some_of, Each, each_words, condition_words, MixedAreNone}
use Rattle.sk_policy_text.specs.ConditionsReading.{BeginsNot, bits_in, compared, ranged, term_of, terms_of, terms_of_all, choices_of}
use Rattle.sk_policy_text.proofs.ConditionsFirst.{tail, first, number, relation_at, register_at, differ, true_not_false}

pub both : {A B C : Type 0} (f : A → B → C) {a a' : A} {b b' : B} → a ≡ a' → b ≡ b' → f a b ≡ f a' b'
both f {a} {a'} {b} {b'} e d = ap (λ x. f x b) e ∙ ap (f a') d

pub numbers_unique : (ns ms : List ℕ) (a b : ℕ) (r s : List Token) → a ≡ b → or_words ns (token.Close ∷ r) ≡ or_words ms (token.Close ∷ s)
    → (with_bits a ns ≡ with_bits b ms) × (r ≡ s)
numbers_unique [] [] a b r s same e = (same, ap tail e)
numbers_unique [] (m ∷ ms) a b r s same e = absurd (differ e refl)
numbers_unique (n ∷ ns) [] a b r s same e = absurd (differ e refl)
numbers_unique (n ∷ ns) (m ∷ ms) a b r s same e =
    numbers_unique ns ms (bit_or a n) (bit_or b m) r s (both bit_or same (ap number (ap tail e))) (ap tail (ap tail e))

pub value_unique : (v w : Value) (r s : List Token) → value_words v r ≡ value_words w s → (value_of v ≡ value_of w) × (r ≡ s)
value_unique (Alone n) (Alone m) r s e = (ap number e, ap tail e)
value_unique (Alone n) (AnyOf m ms) r s e = absurd (differ e refl)
value_unique (AnyOf n ns) (Alone m) r s e = absurd (differ e refl)
value_unique (AnyOf n ns) (AnyOf m ms) r s e = numbers_unique ns ms n m r s (ap number (ap tail e)) (ap tail (ap tail e))

-- no value begins with `~`
pub value_starts : (v : Value) (r tokens : List Token) → value_words v r ≡ token.BitNot ∷ tokens → ⊥
value_starts (Alone n) r tokens e = differ e refl
value_starts (AnyOf n ns) r tokens e = differ e refl

pub factor_unique : (f g : Factor) (r s : List Token) → factor_words f r ≡ factor_words g s → (factor_of f ≡ factor_of g) × (r ≡ s)
factor_unique (Plain v) (Plain w) r s e = value_unique v w r s e
factor_unique (Plain v) (Complement w small) r s e = absurd (value_starts v r _ e)
factor_unique (Complement v small) (Plain w) r s e = absurd (value_starts w s _ (sym e))
factor_unique (Complement v small) (Complement w small') r s e =
    let same = value_unique v w r s (ap tail e) in (ap (λ n. 0xffffffffffffffff - n) same.0, same.1)

pub factors_unique : (fs gs : List Factor) (a b : ℕ) (r s : List Token) → a ≡ b → and_words fs (token.Close ∷ r) ≡ and_words gs (token.Close ∷ s)
    → (masked_by a fs ≡ masked_by b gs) × (r ≡ s)
factors_unique [] [] a b r s same e = (same, ap tail e)
factors_unique [] (g ∷ gs) a b r s same e = absurd (differ e refl)
factors_unique (f ∷ fs) [] a b r s same e = absurd (differ e refl)
factors_unique (f ∷ fs) (g ∷ gs) a b r s same e =
    let now = factor_unique f g _ _ (ap tail e) in
    factors_unique fs gs (bit_and a (factor_of f)) (bit_and b (factor_of g)) r s (both bit_and same now.0) now.1

pub mask_unique : (f g : Factor) (fs gs : List Factor) (r s : List Token) → and_words (f ∷ fs) (token.Close ∷ r) ≡ and_words (g ∷ gs) (token.Close ∷ s)
    → (masked_by (factor_of f) fs ≡ masked_by (factor_of g) gs) × (r ≡ s)
mask_unique f g fs gs r s e = let now = factor_unique f g _ _ (ap tail e) in factors_unique fs gs (factor_of f) (factor_of g) r s now.0 now.1

abbrev bits_with : Register → ℕ → Bits
bits_with register mask = record { register = register; mask = mask }

pub side_unique : (a b : Side) (r s : List Token) → side_words a r ≡ side_words b s → (bits_in a ≡ bits_in b) × (r ≡ s)
side_unique (Whole x there) (Whole y there') r s e = let same = ap register_at e in (ap (λ (z : Register). bits_with z (all_bits z)) same, ap tail e)
side_unique (Whole x there) (Masked y there' g gs) r s e = absurd (differ e refl)
side_unique (Masked x there f fs) (Whole y there') r s e = absurd (differ e refl)
side_unique (Masked x there f fs) (Masked y there' g gs) r s e =
    let now = mask_unique f g fs gs r s (ap tail (ap tail e)) in (both bits_with (ap register_at (ap tail e)) now.0, now.1)

abbrev compared_with : Bool → Bits → Relation → ℕ → Compared
compared_with number_first bits relation number = record { bits = bits; relation = relation; number = number; number_first = number_first }

-- no words of bits are those of a value
pub side_no_value : (a : Side) (v : Value) (r s : List Token) → side_words a r ≡ value_words v s → ⊥
side_no_value (Whole x there) (Alone n) r s e = differ e refl
side_no_value (Whole x there) (AnyOf n ns) r s e = differ e refl
side_no_value (Masked x there f fs) (Alone n) r s e = differ e refl
side_no_value (Masked x there f fs) (AnyOf n ns) r s e = differ (ap tail e) refl

pub comparison_unique : (c d : Comparison) (r s : List Token) → comparison_words c r ≡ comparison_words d s → (compared c ≡ compared d) × (r ≡ s)
comparison_unique (BitsFirst a it v) (BitsFirst b it' w) r s e =
    let bits = side_unique a b _ _ e in
    let last = value_unique v w r s (ap tail bits.1) in
    (ap (λ (x : Bits). compared_with false x it (value_of v)) bits.0 ∙ both (compared_with false (bits_in b)) (ap relation_at bits.1) last.0, last.1)
comparison_unique (BitsFirst a it v) (ValueFirst w it' b) r s e = absurd (side_no_value a w _ _ e)
comparison_unique (ValueFirst v it a) (BitsFirst b it' w) r s e = absurd (side_no_value b v _ _ (sym e))
comparison_unique (ValueFirst v it a) (ValueFirst w it' b) r s e =
    let value = value_unique v w _ _ e in
    let last = side_unique a b r s (ap tail value.1) in
    (ap (λ (x : Bits). compared_with true x it (value_of v)) last.0 ∙ both (compared_with true (bits_in b)) (ap relation_at value.1) value.0, last.1)

-- ---- comparisons begin otherwise than brackets do

abbrev pub starts : List Token → Bool
starts (token.Register register ∷ rest) = true
starts (token.Number n ∷ rest) = true
starts (token.Open ∷ token.Register register ∷ token.BitAnd ∷ rest) = true
starts (token.Open ∷ token.Number n ∷ token.BitOr ∷ rest) = true
starts (token.Open ∷ token.Number n ∷ token.Close ∷ rest) = true
starts tokens = false

pub comparison_starts : (c : Comparison) (r : List Token) → starts (comparison_words c r) ≡ true
comparison_starts (BitsFirst (Whole x there) it v) r = refl
comparison_starts (BitsFirst (Masked x there f fs) it v) r = refl
comparison_starts (ValueFirst (Alone n) it a) r = refl
comparison_starts (ValueFirst (AnyOf n []) it a) r = refl
comparison_starts (ValueFirst (AnyOf n (m ∷ ms)) it a) r = refl

pub inside_starts : (c : Comparison) (r : List Token) → starts (token.Open ∷ comparison_words c r) ≡ false
inside_starts (BitsFirst (Whole x there) it v) r = refl
inside_starts (BitsFirst (Masked x there f fs) it v) r = refl
inside_starts (ValueFirst (Alone n) it a) r = refl
inside_starts (ValueFirst (AnyOf n ns) it a) r = refl

pub one_inside : (a : Alternative) (r : List Token) → starts (token.Open ∷ alternative_words a r) ≡ false
one_inside (One c) r = inside_starts c r
one_inside (Range v a b w alike) r = refl
one_inside (Brackets inside) r = refl

pub all_inside : (a : Alternatives) (r : List Token) → starts (token.Open ∷ alternatives_words a r) ≡ false
all_inside (Last a) r = one_inside a r
all_inside (Either a others) r = one_inside a _

pub range_no_comparison : (v : Value) (a : Side) (c : Comparison) (r s : List Token) → token.Open ∷ comparison_words (from v a) r ≡ comparison_words c s → ⊥
range_no_comparison v a c r s e = true_not_false (sym (comparison_starts c s) ∙ sym (ap starts e) ∙ inside_starts (from v a) r)

pub brackets_no_comparison : (a : Alternatives) (c : Comparison) (r s : List Token) → token.Open ∷ alternatives_words a r ≡ comparison_words c s → ⊥
brackets_no_comparison a c r s e = true_not_false (sym (comparison_starts c s) ∙ sym (ap starts e) ∙ all_inside a r)

-- an alternative that begins as a comparison is one
pub one_comparison : (a : Alternative) (c : Comparison) (r s : List Token) → alternative_words a r ≡ comparison_words c s → r ≡ s
one_comparison (One d) c r s e = (comparison_unique d c r s e).1
one_comparison (Range v a b w alike) c r s e = absurd (range_no_comparison v a c _ s e)
one_comparison (Brackets inside) c r s e = absurd (brackets_no_comparison inside c _ s e)

-- no alternatives in brackets begin as a range does
pub no_start : (a : Alternatives) (c : Comparison) (r s : List Token) → alternatives_words a (token.Close ∷ r) ≡ comparison_words c (token.And ∷ s) → ⊥
no_start (Last a) c r s e = differ (one_comparison a c _ _ e) refl
no_start (Either a others) c r s e = differ (one_comparison a c _ _ e) refl

-- ---- alternatives

pub close_no_or : (r : List Token) → BeginsNot token.Or (token.Close ∷ r)
close_no_or r rest e = differ e refl

abbrev range_term : Compared → Compared → List Term
range_term one other = ranged one.bits one.number other.number true ∷ []

mutual
  pub alternative_unique : (a b : Alternative) (r s : List Token) → alternative_words a r ≡ alternative_words b s → (terms_of a ≡ terms_of b) × (r ≡ s)
  alternative_unique (One c) (One d) r s e = let same = comparison_unique c d r s e in (ap (λ (it : Compared). term_of it ∷ []) same.0, same.1)
  alternative_unique (One c) (Range v x y w alike) r s e = absurd (range_no_comparison v x c _ r (sym e))
  alternative_unique (One c) (Brackets b) r s e = absurd (brackets_no_comparison b c _ r (sym e))
  alternative_unique (Range v x y w alike) (One d) r s e = absurd (range_no_comparison v x d _ s e)
  alternative_unique (Range v x y w alike) (Range v' x' y' w' alike') r s e =
      let one = comparison_unique (from v x) (from v' x') _ _ (ap tail e) in
      let other = comparison_unique (up_to y w) (up_to y' w') _ _ (ap tail one.1) in
      (both range_term one.0 other.0, ap tail other.1)
  alternative_unique (Range v x y w alike) (Brackets b) r s e = absurd (no_start b (from v x) s _ (sym (ap tail e)))
  alternative_unique (Brackets a) (One d) r s e = absurd (brackets_no_comparison a d _ s e)
  alternative_unique (Brackets a) (Range v x y w alike) r s e = absurd (no_start a (from v x) r _ (ap tail e))
  alternative_unique (Brackets a) (Brackets b) r s e =
      let same = alternatives_unique a b (token.Close ∷ r) (token.Close ∷ s) (close_no_or r) (close_no_or s) (ap tail e) in (same.0, ap tail same.1)

  pub alternatives_unique : (a b : Alternatives) (r s : List Token) → BeginsNot token.Or r → BeginsNot token.Or s → alternatives_words a r ≡ alternatives_words b s
      → (terms_of_all a ≡ terms_of_all b) × (r ≡ s)
  alternatives_unique (Last a) (Last b) r s lacks lacks2 e = alternative_unique a b r s e
  alternatives_unique (Last a) (Either b others) r s lacks lacks2 e = absurd (lacks _ (alternative_unique a b _ _ e).1)
  alternatives_unique (Either a others) (Last b) r s lacks lacks2 e = absurd (lacks2 _ (sym (alternative_unique a b _ _ e).1))
  alternatives_unique (Either a others) (Either b others') r s lacks lacks2 e =
      let one = alternative_unique a b _ _ e in
      let more = alternatives_unique others others' r s lacks lacks2 (ap tail one.1) in
      (both (λ (x y : List Term). x ++ y) one.0 more.0, more.1)

-- ---- conditions

pub each_unique : (cs ds : List Alternative) → each_words cs ≡ each_words ds → map terms_of cs ≡ map terms_of ds
each_unique [] [] e = refl
each_unique [] (b ∷ ds) e = absurd (differ e refl)
each_unique (a ∷ cs) [] e = absurd (differ e refl)
each_unique (a ∷ cs) (b ∷ ds) e =
    let one = alternative_unique a b _ _ (ap tail e) in both (λ (x : List Term) (y : List (List Term)). x ∷ y) one.0 (each_unique cs ds one.1)

abbrev pub has_some : List Token → Bool
has_some [] = false
has_some (it ∷ rest) = true

pub none_begins : (it : Token) → BeginsNot it []
none_begins it rest e = true_not_false (sym (ap has_some e))

-- alternatives up to the end are no alternatives with `&&` behind the first
some_not_each : (a : Alternatives) (first second : Alternative) (others : List Alternative) → alternatives_words a [] ≡ alternative_words first (each_words (second ∷ others)) → ⊥
some_not_each (Last a) first second others e = true_not_false (sym (ap has_some (alternative_unique a first _ _ e).1))
some_not_each (Either a more) first second others e = differ (alternative_unique a first _ _ e).1 refl

-- a number alone is no alternative
comparison_long : (c : Comparison) (r : List Token) → has_some (tail (comparison_words c r)) ≡ true
comparison_long (BitsFirst (Whole x there) it v) r = refl
comparison_long (BitsFirst (Masked x there f fs) it v) r = refl
comparison_long (ValueFirst (Alone n) it a) r = refl
comparison_long (ValueFirst (AnyOf n ns) it a) r = refl

pub not_alone : (a : Alternative) (n : ℕ) (r : List Token) → alternative_words a r ≡ token.Number n ∷ [] → ⊥
not_alone (One c) n r e = true_not_false (sym (comparison_long c r) ∙ ap (λ (tokens : List Token). has_some (tail tokens)) e)
not_alone (Range v a b w alike) n r e = differ e refl
not_alone (Brackets a) n r e = differ e refl

pub none_alone : (a : Alternatives) (n : ℕ) (r : List Token) → alternatives_words a r ≡ token.Number n ∷ [] → ⊥
none_alone (Last a) n r e = not_alone a n r e
none_alone (Either a others) n r e = not_alone a n _ e

pub condition_unique : (a b : Condition) → condition_words a ≡ condition_words b → choices_of a ≡ choices_of b
condition_unique Always Always e = refl
condition_unique Always Never e = absurd (true_not_false (ap (λ (tokens : List Token). nat_eq (number tokens) 1) e))
condition_unique Always (some_of b) e = absurd (none_alone b 1 [] (sym e))
condition_unique Always (Each first second others) e = absurd (not_alone first 1 _ (sym e))
condition_unique Never Always e = absurd (true_not_false (sym (ap (λ (tokens : List Token). nat_eq (number tokens) 1) e)))
condition_unique Never Never e = refl
condition_unique Never (some_of b) e = absurd (none_alone b 0 [] (sym e))
condition_unique Never (Each first second others) e = absurd (not_alone first 0 _ (sym e))
condition_unique (some_of a) Always e = absurd (none_alone a 1 [] e)
condition_unique (some_of a) Never e = absurd (none_alone a 0 [] e)
condition_unique (some_of a) (some_of b) e = ap (λ (terms : List Term). terms ∷ []) (alternatives_unique a b [] [] (none_begins token.Or) (none_begins token.Or) e).0
condition_unique (some_of a) (Each first second others) e = absurd (some_not_each a first second others e)
condition_unique (Each first second others) Always e = absurd (not_alone first 1 _ e)
condition_unique (Each first second others) Never e = absurd (not_alone first 0 _ e)
condition_unique (Each first second others) (some_of b) e = absurd (some_not_each b first second others (sym e))
condition_unique (Each a second others) (Each b second' others') e =
    let one = alternative_unique a b _ _ e in
    both (λ (x : List Term) (y : List (List Term)). x ∷ y) one.0 (each_unique (second ∷ others) (second' ∷ others') one.1)

-- ---- `&&` beside `||`

or_then_and : (one other : Alternative) (rest : List Token) (written : Condition) → condition_words written ≡ alternative_words one (token.Or ∷ alternative_words other (token.And ∷ rest)) → ⊥
or_then_and one other rest Always e = not_alone one 1 _ (sym e)
or_then_and one other rest Never e = not_alone one 0 _ (sym e)
or_then_and one other rest (some_of (Last a)) e = true_not_false (sym (ap has_some (alternative_unique a one _ _ e).1))
or_then_and one other rest (some_of (Either a (Last b))) e =
    true_not_false (sym (ap has_some (alternative_unique b other _ _ (ap tail (alternative_unique a one _ _ e).1)).1))
or_then_and one other rest (some_of (Either a (Either b more))) e = differ (alternative_unique b other _ _ (ap tail (alternative_unique a one _ _ e).1)).1 refl
or_then_and one other rest (Each first second others) e = differ (alternative_unique first one _ _ e).1 refl

and_then_or : (one other : Alternative) (rest : List Token) (written : Condition) → condition_words written ≡ alternative_words one (token.And ∷ alternative_words other (token.Or ∷ rest)) → ⊥
and_then_or one other rest Always e = not_alone one 1 _ (sym e)
and_then_or one other rest Never e = not_alone one 0 _ (sym e)
and_then_or one other rest (some_of (Last a)) e = true_not_false (sym (ap has_some (alternative_unique a one _ _ e).1))
and_then_or one other rest (some_of (Either a more)) e = differ (alternative_unique a one _ _ e).1 refl
and_then_or one other rest (Each first second []) e =
    true_not_false (sym (ap has_some (alternative_unique second other _ _ (ap tail (alternative_unique first one _ _ e).1)).1))
and_then_or one other rest (Each first second (third ∷ others)) e = differ (alternative_unique second other _ _ (ap tail (alternative_unique first one _ _ e).1)).1 refl

pub mixed_are_none : MixedAreNone
mixed_are_none one other rest written = (or_then_and one other rest written, and_then_or one other rest written)
