-- Alternatives, as they are read.
use Rattle.std.proofs.Common.{◌≡◌, ℕ, ◌<◌, true, false, List, [], ◌∷◌, ◌++◌, length, refl, ap, sym, ◌∙◌, subst, arith, append_assoc}
use Rattle.sk_terms.specs.declared.term.Register.{Register}
use Rattle.sk_terms.specs.declared.term.Term.{Term}
use Rattle.sk_policy_text.specs.declared.comparison.Bits.{Bits}
use Rattle.sk_policy_text.specs.declared.comparison.Compared.{Compared}
use Rattle.sk_policy_text.specs.declared.token.Relation.{Relation}
use Rattle.sk_policy_text.specs.declared.token.Token.{Token}
use Rattle.sk_policy_text.specs.declared.token.Token.TheVariants as token
use Rattle.sk_policy_text.specs.Conditions.{Alone, AnyOf, Whole, Masked, Comparison, BitsFirst, ValueFirst, comparison_words, from, up_to, Alternative, One, Range, Brackets, Alternatives, Last, Either, alternative_words, alternatives_words}
use Rattle.sk_policy_text.specs.ConditionsReading.{BeginsNot, is_in_numbers, is_one, BeginsMask, NoMaskThere, BeginsNumbers, NoNumbersThere, NoBrackets, compared, term_of, ranged, ReadsComparison, NoComparison, StartsRange, NoStart, MakesRange, ReadsRange, NoRange, terms_of, terms_of_all, ReadsOne, NoAlternative, ReadsSome, NoAlternatives}
use Rattle.sk_policy_text.proofs.ConditionsFirst.{tail, differ, true_not_false}
use Rattle.sk_policy_text.proofs.ConditionsValues.{one_less}
use Rattle.sk_policy_text.proofs.ConditionsDeep.{Passes, passes_as, passed_both, passed_word, alternative_passes}
use Rattle.sk_policy_text.proofs.ConditionsUnique.{both, comparison_unique, alternative_unique, no_start, close_no_or, one_inside, all_inside, starts, alternatives_unique}

-- ---- where a comparison begins

-- brackets of bits or of a value are no other ones
pub mask_starts : (tokens inside : List Token) → tokens ≡ token.Open ∷ inside → BeginsMask inside → starts tokens ≡ true
mask_starts tokens inside opens begins = ap starts (opens ∙ ap (λ (them : List Token). token.Open ∷ them) begins.words)

numbers_start : (n : ℕ) (second : Token) (rest : List Token) → is_in_numbers second ≡ true → starts (token.Open ∷ token.Number n ∷ second ∷ rest) ≡ true
numbers_start n token.BitOr rest is = refl
numbers_start n token.Close rest is = refl
numbers_start n token.Open rest is = absurd (true_not_false (sym is))
numbers_start n token.And rest is = absurd (true_not_false (sym is))
numbers_start n token.Or rest is = absurd (true_not_false (sym is))
numbers_start n token.BitAnd rest is = absurd (true_not_false (sym is))
numbers_start n token.BitNot rest is = absurd (true_not_false (sym is))
numbers_start n (token.Compare it) rest is = absurd (true_not_false (sym is))
numbers_start n (token.Register it) rest is = absurd (true_not_false (sym is))
numbers_start n (token.Number m) rest is = absurd (true_not_false (sym is))
numbers_start n token.Other rest is = absurd (true_not_false (sym is))

pub value_starts : (tokens inside : List Token) → tokens ≡ token.Open ∷ inside → BeginsNumbers inside → starts tokens ≡ true
value_starts tokens inside opens begins =
    ap starts (opens ∙ ap (λ (them : List Token). token.Open ∷ them) begins.words) ∙ numbers_start begins.first begins.second begins.rest begins.goes_on

brackets_start : (written : Alternative) (rest : List Token) → is_one written ≡ false → starts (alternative_words written rest) ≡ false
brackets_start (One c) rest is = absurd (true_not_false is)
brackets_start (Range v a b w alike) rest is = one_inside (One (from v a)) _
brackets_start (Brackets inside) rest is = all_inside inside _

pub no_brackets : (tokens : List Token) → starts tokens ≡ true → NoBrackets tokens
no_brackets tokens is written rest other e = true_not_false (sym is ∙ ap starts e ∙ brackets_start written rest other)

pub no_comparison_there : (tokens inside : List Token) → tokens ≡ token.Open ∷ inside → NoMaskThere inside → NoNumbersThere inside → NoComparison tokens
no_comparison_there tokens inside opens mask numbers (BitsFirst (Whole r there) it v) rest e = differ (sym opens ∙ e) refl
no_comparison_there tokens inside opens mask numbers (BitsFirst (Masked r there f fs) it v) rest e = mask r there _ (ap tail (sym opens ∙ e))
no_comparison_there tokens inside opens mask numbers (ValueFirst (Alone n) it a) rest e = differ (sym opens ∙ e) refl
no_comparison_there tokens inside opens mask numbers (ValueFirst (AnyOf n []) it a) rest e = numbers n token.Close _ refl (ap tail (sym opens ∙ e))
no_comparison_there tokens inside opens mask numbers (ValueFirst (AnyOf n (m ∷ ms)) it a) rest e = numbers n token.BitOr _ refl (ap tail (sym opens ∙ e))

-- ---- ranges

pub range_started : (inside middle rest : List Token) (it : Compared) → ReadsComparison inside it middle → middle ≡ token.And ∷ rest → StartsRange inside
range_started inside middle rest it reads and = record { written = reads.written; rest = rest; words = reads.words ∙ ap (comparison_words reads.written) and }

pub no_range_started : (inside middle : List Token) (it : Compared) → ReadsComparison inside it middle → BeginsNot token.And middle → NoStart inside
no_range_started inside middle it reads and other rest e = and rest (comparison_unique reads.written other middle _ (sym reads.words ∙ e)).1

pub none_started : (inside : List Token) → NoComparison inside → NoStart inside
none_started inside none other rest e = none other _ e

abbrev range_with : Compared → Compared → Term
range_with one other = ranged one.bits one.number other.number true

-- the words are those of a range, where the comparisons make one
range_words_of : (c d : Comparison) (inside middle again end rest : List Token) (term : Term) → inside ≡ comparison_words c middle → middle ≡ token.And ∷ again → again ≡ comparison_words d end → end ≡ token.Close ∷ rest
    → MakesRange (compared c) (compared d) → term ≡ range_with (compared c) (compared d) → ReadsRange inside term rest
range_words_of (BitsFirst a it v) d inside middle again end rest term one and other close makes is = absurd (true_not_false (sym makes.first))
range_words_of (ValueFirst v it a) (ValueFirst w it' b) inside middle again end rest term one and other close makes is = absurd (true_not_false makes.last)
range_words_of (ValueFirst v it a) (BitsFirst b it' w) inside middle again end rest term one and other close makes is = record {
  first = v;
  one = a;
  other = b;
  last = w;
  register = ap (λ (bits : Bits). bits.register) makes.bits;
  mask = ap (λ (bits : Bits). bits.mask) makes.bits;
  words = one
      ∙ ap (λ (it : Relation). comparison_words (ValueFirst v it a) middle) makes.above
      ∙ ap (comparison_words (from v a)) (and ∙ ap (λ (them : List Token). token.And ∷ them) (other
      ∙ ap (λ (it : Relation). comparison_words (BitsFirst b it w) end) makes.below
      ∙ ap (comparison_words (up_to b w)) close));
  is = is;
}

pub range_read : (inside middle again end rest : List Token) (it that : Compared) (term : Term) → ReadsComparison inside it middle → middle ≡ token.And ∷ again → ReadsComparison again that end → end ≡ token.Close ∷ rest
    → MakesRange it that → term ≡ range_with it that → ReadsRange inside term rest
range_read inside middle again end rest it that term one and other close makes is =
    range_words_of one.written other.written inside middle again end rest term one.words and other.words close
    (subst (λ (x : Compared). MakesRange x (compared other.written)) one.is (subst (λ (x : Compared). MakesRange it x) other.is makes))
    (is ∙ ap (λ (x : Compared). range_with x that) one.is ∙ ap (range_with (compared one.written)) other.is)

pub no_first_of_range : (inside : List Token) → NoComparison inside → NoRange inside
no_first_of_range inside none v a b w same mask rest e = none (from v a) _ e

pub no_and_of_range : (inside middle : List Token) (it : Compared) → ReadsComparison inside it middle → BeginsNot token.And middle → NoRange inside
no_and_of_range inside middle it reads and v a b w same mask rest e = and _ (comparison_unique reads.written (from v a) middle _ (sym reads.words ∙ e)).1

pub no_last_of_range : (inside middle again : List Token) (it : Compared) → ReadsComparison inside it middle → middle ≡ token.And ∷ again → NoComparison again → NoRange inside
no_last_of_range inside middle again it reads and none v a b w same mask rest e =
    none (up_to b w) _ (ap tail (sym and ∙ (comparison_unique reads.written (from v a) middle _ (sym reads.words ∙ e)).1))

pub no_close_of_range : (inside middle again end : List Token) (it that : Compared) → ReadsComparison inside it middle → middle ≡ token.And ∷ again → ReadsComparison again that end → BeginsNot token.Close end → NoRange inside
no_close_of_range inside middle again end it that one and other close v a b w same mask rest e =
    close rest (comparison_unique other.written (up_to b w) end _
    (sym other.words ∙ ap tail (sym and ∙ (comparison_unique one.written (from v a) middle _ (sym one.words ∙ e)).1))).1

abbrev bits_of_both : Register → ℕ → Bits
bits_of_both register mask = record { register = register; mask = mask }

pub makes_no_range : (inside middle again end : List Token) (it that : Compared) → ReadsComparison inside it middle → middle ≡ token.And ∷ again → ReadsComparison again that end → (MakesRange it that → ⊥) → NoRange inside
makes_no_range inside middle again end it that one and other makes v a b w same mask rest e =
    let first = comparison_unique one.written (from v a) middle _ (sym one.words ∙ e) in
    let last = comparison_unique other.written (up_to b w) end _ (sym other.words ∙ ap tail (sym and ∙ first.1)) in
    let it_is = one.is ∙ first.0 in
    let that_is = other.is ∙ last.0 in
    makes (record {
      first = ap (λ (x : Compared). x.number_first) it_is;
      last = ap (λ (x : Compared). x.number_first) that_is;
      above = ap (λ (x : Compared). x.relation) it_is;
      below = ap (λ (x : Compared). x.relation) that_is;
      bits = ap (λ (x : Compared). x.bits) it_is ∙ both bits_of_both same mask ∙ sym (ap (λ (x : Compared). x.bits) that_is);
    })

-- ---- one alternative

pub comparison_read : (tokens rest : List Token) (it : Compared) (term : Term) (old new : List Term) → ReadsComparison tokens it rest → term ≡ term_of it → new ≡ old ++ term ∷ [] → ReadsOne tokens old new rest
comparison_read tokens rest it term old new reads means is = record {
  written = One reads.written;
  words = reads.words;
  is = is ∙ ap (λ (t : Term). old ++ t ∷ []) (means ∙ ap term_of reads.is);
}

pub no_comparison_alone : (tokens : List Token) → NoBrackets tokens → NoComparison tokens → NoAlternative tokens
no_comparison_alone tokens brackets none (One c) rest e = none c rest e
no_comparison_alone tokens brackets none (Range v a b w alike) rest e = brackets (Range v a b w alike) rest refl e
no_comparison_alone tokens brackets none (Brackets inside) rest e = brackets (Brackets inside) rest refl e

pub nothing_opens : (tokens : List Token) → NoComparison tokens → BeginsNot token.Open tokens → NoAlternative tokens
nothing_opens tokens none opens (One c) rest e = none c rest e
nothing_opens tokens none opens (Range v a b w alike) rest e = opens _ e
nothing_opens tokens none opens (Brackets inside) rest e = opens _ e

pub range_in_brackets : (tokens inside rest : List Token) (term : Term) (old new : List Term) → tokens ≡ token.Open ∷ inside → ReadsRange inside term rest → new ≡ old ++ term ∷ [] → ReadsOne tokens old new rest
range_in_brackets tokens inside rest term old new opens reads is = record {
  written = Range reads.first reads.one reads.other reads.last (record { register = reads.register; mask = reads.mask });
  words = opens ∙ ap (λ (them : List Token). token.Open ∷ them) reads.words;
  is = is ∙ ap (λ (t : Term). old ++ t ∷ []) reads.is;
}

pub no_range_inside : (tokens inside : List Token) → NoComparison tokens → tokens ≡ token.Open ∷ inside → StartsRange inside → NoRange inside → NoAlternative tokens
no_range_inside tokens inside none opens starts range (One c) rest e = none c rest e
no_range_inside tokens inside none opens starts range (Range v a b w alike) rest e = range v a b w alike.register alike.mask rest (ap tail (sym opens ∙ e))
no_range_inside tokens inside none opens starts range (Brackets all) rest e = no_start all starts.written rest starts.rest (ap tail (sym e ∙ opens) ∙ starts.words)

pub some_in_brackets : (tokens inside end rest : List Token) (old new : List Term) → tokens ≡ token.Open ∷ inside → ReadsSome inside old new end → end ≡ token.Close ∷ rest → ReadsOne tokens old new rest
some_in_brackets tokens inside end rest old new opens reads close = record {
  written = Brackets reads.written;
  words = opens ∙ ap (λ (them : List Token). token.Open ∷ them) (reads.words ∙ ap (alternatives_words reads.written) close);
  is = reads.is;
}

pub none_inside : (tokens inside : List Token) → NoComparison tokens → tokens ≡ token.Open ∷ inside → NoStart inside → NoAlternatives inside → NoAlternative tokens
none_inside tokens inside none opens start all (One c) rest e = none c rest e
none_inside tokens inside none opens start all (Range v a b w alike) rest e = start (from v a) _ (ap tail (sym opens ∙ e))
none_inside tokens inside none opens start all (Brackets b) rest e = all b _ (close_no_or rest) (ap tail (sym opens ∙ e))

pub not_closed : (tokens inside end : List Token) (old new : List Term) → NoComparison tokens → tokens ≡ token.Open ∷ inside → NoStart inside → ReadsSome inside old new end → BeginsNot token.Close end → NoAlternative tokens
not_closed tokens inside end old new none opens start reads close (One c) rest e = none c rest e
not_closed tokens inside end old new none opens start reads close (Range v a b w alike) rest e = start (from v a) _ (ap tail (sym opens ∙ e))
not_closed tokens inside end old new none opens start reads close (Brackets b) rest e =
    close rest (alternatives_unique reads.written b end _ reads.ends (close_no_or rest) (sym reads.words ∙ ap tail (sym opens ∙ e))).1

-- ---- all of them

pub no_first : (tokens : List Token) → NoAlternative tokens → NoAlternatives tokens
no_first tokens none (Last a) rest ends e = none a rest e
no_first tokens none (Either a others) rest ends e = none a _ e

pub no_others : (tokens rest more : List Token) (old new : List Term) → ReadsOne tokens old new rest → rest ≡ token.Or ∷ more → NoAlternatives more → NoAlternatives tokens
no_others tokens rest more old new reads or none (Last b) end ends e = ends _ (sym (alternative_unique reads.written b rest end (sym reads.words ∙ e)).1 ∙ or)
no_others tokens rest more old new reads or none (Either b others) end ends e =
    none others end ends (ap tail (sym or ∙ (alternative_unique reads.written b rest _ (sym reads.words ∙ e)).1))

-- some alternatives are read, and the rest is left
pub record SomeLeft (tokens : List Token) (old now : List Term) (rest : List Token) : Type 0 where
  pub ends : BeginsNot token.Or rest → ReadsSome tokens old now rest
  pub reads : (others : Alternatives) (end : List Token) (new : List Term) → BeginsNot token.Or end → rest ≡ token.Or ∷ alternatives_words others end → new ≡ now ++ terms_of_all others → ReadsSome tokens old new end
  pub none : (more : List Token) → rest ≡ token.Or ∷ more → NoAlternatives more → NoAlternatives tokens
  pub passes : Passes tokens rest
  pub shorter : length rest < length tokens

pub some_begin : (tokens rest : List Token) (old now : List Term) → ReadsOne tokens old now rest → length rest < length tokens → SomeLeft tokens old now rest
some_begin tokens rest old now one less = record {
  ends = λ ends. record { written = Last one.written; words = one.words; is = one.is; ends = ends };
  reads = λ others end new ends e is. record {
    written = Either one.written others;
    words = one.words ∙ ap (alternative_words one.written) e;
    is = is ∙ ap (λ (terms : List Term). terms ++ terms_of_all others) one.is ∙ append_assoc old (terms_of one.written) (terms_of_all others);
    ends = ends;
  };
  none = λ more or none. no_others tokens rest more old now one or none;
  passes = passes_as tokens _ rest one.words (alternative_passes one.written rest);
  shorter = less;
}

pub some_more : (tokens rest more next : List Token) (old mid now : List Term) → SomeLeft tokens old mid rest → rest ≡ token.Or ∷ more → ReadsOne more mid now next → length next < length more → SomeLeft tokens old now next
some_more tokens rest more next old mid now left or one less = record {
  ends = λ ends. left.reads (Last one.written) next now ends (or ∙ ap (λ (them : List Token). token.Or ∷ them) one.words) one.is;
  reads = λ others end new ends e is.
      left.reads (Either one.written others) end new ends (or ∙ ap (λ (them : List Token). token.Or ∷ them) (one.words ∙ ap (alternative_words one.written) e))
      (is ∙ ap (λ (terms : List Term). terms ++ terms_of_all others) one.is ∙ append_assoc mid (terms_of one.written) (terms_of_all others));
  none = λ another or' none. left.none more or (no_others more next another mid now one or' none);
  passes = passed_both tokens more next (passed_word tokens rest more token.Or refl refl left.passes or) (passes_as more _ next one.words (alternative_passes one.written next));
  shorter = let fewer = one_less rest more _ or in omega (arith, less, fewer, left.shorter);
}
