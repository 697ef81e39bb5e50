-- Whole conditions, as they are read.
use Rattle.std.proofs.Common.{◌≡◌, ℕ, ◌<◌, ◌≤◌, List, [], ◌∷◌, ◌++◌, length, map, refl, ap, sym, ◌∙◌, arith, append_assoc, append-nil}
use Rattle.sk_terms.specs.declared.choices.Choice.{Choice}
use Rattle.sk_terms.specs.declared.term.Term.{Term}
use Rattle.sk_policy_text.specs.declared.token.Token.{Token}
use Rattle.sk_policy_text.specs.declared.token.Token.TheVariants as token
use Rattle.sk_policy_text.specs.Conditions.{Alternative, Alternatives, Last, Either, alternative_words, alternatives_words, Always, Never, Some as some_of, Each, each_words, condition_words}
use Rattle.sk_policy_text.specs.ConditionsRead.{NoCondition}
use Rattle.sk_policy_text.specs.ConditionsReading.{BeginsNot, terms_of, terms_of_all, ReadsOne, NoAlternative, ReadsSome, NoAlternatives, lists_of, IsCondition, ReadsOthers, NoOthers, ReadsEach, NoEach, NotAlone, NoWritten}
use Rattle.sk_policy_text.proofs.ConditionsFirst.{tail, number, differ}
use Rattle.sk_policy_text.proofs.ConditionsValues.{one_less}
use Rattle.sk_policy_text.proofs.ConditionsDeep.{Passes, none_passed, passes_as, passed_both, passed_word, alternative_passes}
use Rattle.sk_policy_text.proofs.ConditionsUnique.{alternative_unique, alternatives_unique, none_begins, not_alone, none_alone}

none_left : {X : Type 0} (xs : List X) → length xs ≡ 0 → xs ≡ []
none_left [] none = refl
none_left (x ∷ xs) none = absurd (omega (arith, none))

-- ---- the others behind `||`

pub others_read : (tokens end : List Token) (old new : List Term) (choices : List Choice) → ReadsSome tokens old new end → length end ≡ 0 → lists_of choices ≡ new ∷ [] → ReadsOthers tokens old choices
others_read tokens end old new choices reads none is = record {
  written = reads.written;
  words = reads.words ∙ ap (alternatives_words reads.written) (none_left end none);
  is = is ∙ ap (λ (terms : List Term). terms ∷ []) reads.is;
}

pub others_go_on : (tokens end : List Token) (old new : List Term) → ReadsSome tokens old new end → (length end ≡ 0 → ⊥) → NoOthers tokens
others_go_on tokens end old new reads some written e =
    some (ap (λ (them : List Token). length them) (alternatives_unique reads.written written end [] reads.ends (none_begins token.Or) (sym reads.words ∙ e)).1)

pub no_others_there : (tokens : List Token) → NoAlternatives tokens → NoOthers tokens
no_others_there tokens none written e = none written [] (none_begins token.Or) e

-- ---- each behind `&&`

lists_both : (one other : List Choice) → lists_of (one ++ other) ≡ lists_of one ++ lists_of other
lists_both [] other = refl
lists_both (choice ∷ one) other = ap (λ (lists : List (List Term)). choice.terms.items ∷ lists) (lists_both one other)

pub record EachLeft (tokens : List Token) (old now : List Choice) (rest : List Token) : Type 0 where
  pub reads : (written : List Alternative) (new : List Choice) → rest ≡ each_words written → lists_of new ≡ lists_of now ++ map terms_of written → ReadsEach tokens old new
  pub none : NoEach rest → NoEach tokens
  pub passes : Passes tokens rest
  pub shorter : length rest ≤ length tokens

pub each_begin : (tokens : List Token) (old : List Choice) → EachLeft tokens old old tokens
each_begin tokens old = record {
  reads = λ written new words is. record { written = written; words = words; is = is };
  none = λ none. none;
  passes = none_passed tokens;
  shorter = omega arith;
}

none_behind : (rest more next : List Token) (none_yet terms : List Term) → rest ≡ token.And ∷ more → ReadsOne more none_yet terms next → NoEach next → NoEach rest
none_behind rest more next none_yet terms and one none [] e = differ (sym and ∙ e) refl
none_behind rest more next none_yet terms and one none (a ∷ others) e = none others (alternative_unique one.written a next _ (sym one.words ∙ ap tail (sym and ∙ e))).1

pub each_more : (tokens rest more next : List Token) (old mid now : List Choice) (choice : Choice) (none_yet : List Term) → EachLeft tokens old mid rest → rest ≡ token.And ∷ more → none_yet ≡ []
    → ReadsOne more none_yet choice.terms.items next → now ≡ mid ++ choice ∷ [] → length next < length more → EachLeft tokens old now next
each_more tokens rest more next old mid now choice none_yet left and empty one is less = record {
  reads = λ written new words lists.
      left.reads (one.written ∷ written) new (and ∙ ap (λ (them : List Token). token.And ∷ them) (one.words ∙ ap (alternative_words one.written) words))
      (lists ∙ ap (λ (them : List (List Term)). them ++ map terms_of written) (ap lists_of is ∙ lists_both mid (choice ∷ [])
      ∙ ap (λ (terms : List Term). lists_of mid ++ terms ∷ []) (one.is ∙ ap (λ (terms : List Term). terms ++ terms_of one.written) empty))
      ∙ append_assoc (lists_of mid) (terms_of one.written ∷ []) (map terms_of written));
  none = λ none. left.none (none_behind rest more next none_yet choice.terms.items and one none);
  passes = passed_both tokens more next (passed_word tokens rest more token.And refl refl left.passes and) (passes_as more _ next one.words (alternative_passes one.written next));
  shorter = let fewer = one_less rest more _ and in omega (arith, less, fewer, left.shorter);
}

pub each_ends : (tokens rest : List Token) (old now : List Choice) → EachLeft tokens old now rest → length rest ≡ 0 → ReadsEach tokens old now
each_ends tokens rest old now left none = left.reads [] now (none_left rest none) (sym (append-nil (lists_of now)))

pub each_goes_on : (rest : List Token) → BeginsNot token.And rest → (length rest ≡ 0 → ⊥) → NoEach rest
each_goes_on rest and some [] e = some (ap (λ (them : List Token). length them) e)
each_goes_on rest and some (a ∷ others) e = and _ e

pub no_each_first : (rest more : List Token) → rest ≡ token.And ∷ more → NoAlternative more → NoEach rest
no_each_first rest more and none [] e = differ (sym and ∙ e) refl
no_each_first rest more and none (a ∷ others) e = none a _ (ap tail (sym and ∙ e))

-- ---- all

pub either_read : (tokens rest more : List Token) (none_yet terms : List Term) (choices : List Choice) → none_yet ≡ [] → ReadsOne tokens none_yet terms rest → rest ≡ token.Or ∷ more → ReadsOthers more terms choices
    → IsCondition tokens choices
either_read tokens rest more none_yet terms choices empty one or others = record {
  written = some_of (Either one.written others.written);
  words = one.words ∙ ap (alternative_words one.written) (or ∙ ap (λ (them : List Token). token.Or ∷ them) others.words);
  is = others.is ∙ ap (λ (them : List Term). (them ++ terms_of_all others.written) ∷ []) (one.is ∙ ap (λ (them : List Term). them ++ terms_of one.written) empty);
}

pub no_either : (tokens rest more : List Token) (none_yet terms : List Term) → ReadsOne tokens none_yet terms rest → rest ≡ token.Or ∷ more → NoOthers more → NoWritten tokens
no_either tokens rest more none_yet terms one or none = (some, each) where
  some : (written : Alternatives) → tokens ≡ alternatives_words written [] → ⊥
  some (Last a) e = none_begins token.Or more (sym (alternative_unique one.written a rest [] (sym one.words ∙ e)).1 ∙ or)
  some (Either a others) e = none others (ap tail (sym or ∙ (alternative_unique one.written a rest _ (sym one.words ∙ e)).1))

  each : (first second : Alternative) (others : List Alternative) → tokens ≡ condition_words (Each first second others) → ⊥
  each first second others e = differ (sym or ∙ (alternative_unique one.written first rest _ (sym one.words ∙ e)).1) refl

each_condition : (tokens rest : List Token) (none_yet terms : List Term) (old new : List Choice) (written : List Alternative) (one : Alternative) → tokens ≡ alternative_words one rest → terms ≡ terms_of one
    → lists_of old ≡ terms ∷ [] → rest ≡ each_words written → lists_of new ≡ lists_of old ++ map terms_of written → IsCondition tokens new
each_condition tokens rest none_yet terms old new [] one words is first ends lists = record {
  written = some_of (Last one);
  words = words ∙ ap (alternative_words one) ends;
  is = lists ∙ ap (λ (them : List (List Term)). them ++ []) (first ∙ ap (λ (them : List Term). them ∷ []) is);
}
each_condition tokens rest none_yet terms old new (second ∷ others) one words is first ends lists = record {
  written = Each one second others;
  words = words ∙ ap (alternative_words one) ends;
  is = lists ∙ ap (λ (them : List (List Term)). them ++ map terms_of (second ∷ others)) (first ∙ ap (λ (them : List Term). them ∷ []) is);
}

pub each_read : (tokens rest : List Token) (none_yet terms : List Term) (old new : List Choice) → none_yet ≡ [] → ReadsOne tokens none_yet terms rest → lists_of old ≡ terms ∷ [] → ReadsEach rest old new → IsCondition tokens new
each_read tokens rest none_yet terms old new empty one first each =
    each_condition tokens rest none_yet terms old new each.written one.written one.words (one.is ∙ ap (λ (them : List Term). them ++ terms_of one.written) empty) first each.words each.is

pub no_each : (tokens rest : List Token) (none_yet terms : List Term) → ReadsOne tokens none_yet terms rest → BeginsNot token.Or rest → NoEach rest → NoWritten tokens
no_each tokens rest none_yet terms one or none = (some, each) where
  some : (written : Alternatives) → tokens ≡ alternatives_words written [] → ⊥
  some (Last a) e = none [] (alternative_unique one.written a rest [] (sym one.words ∙ e)).1
  some (Either a others) e = or _ (alternative_unique one.written a rest _ (sym one.words ∙ e)).1

  each : (first second : Alternative) (others : List Alternative) → tokens ≡ condition_words (Each first second others) → ⊥
  each first second others e = none (second ∷ others) (alternative_unique one.written first rest _ (sym one.words ∙ e)).1

pub no_first_written : (tokens : List Token) → NoAlternative tokens → NoWritten tokens
no_first_written tokens none = (some, each) where
  some : (written : Alternatives) → tokens ≡ alternatives_words written [] → ⊥
  some (Last a) e = none a _ e
  some (Either a others) e = none a _ e

  each : (first second : Alternative) (others : List Alternative) → tokens ≡ condition_words (Each first second others) → ⊥
  each first second others e = none first _ e

pub always_read : (tokens : List Token) (choices : List Choice) → tokens ≡ token.Number 1 ∷ [] → choices ≡ [] → IsCondition tokens choices
always_read tokens choices is none = record { written = Always; words = is; is = ap lists_of none }

pub never_read : (tokens : List Token) (terms : List Term) (choices : List Choice) → tokens ≡ token.Number 0 ∷ [] → terms ≡ [] → lists_of choices ≡ terms ∷ [] → IsCondition tokens choices
never_read tokens terms choices is none lists = record { written = Never; words = is; is = lists ∙ ap (λ (them : List Term). them ∷ []) none }

pub no_such_number : (tokens : List Token) (n : ℕ) → tokens ≡ token.Number n ∷ [] → (n ≡ 1 → ⊥) → (n ≡ 0 → ⊥) → NoCondition tokens
no_such_number tokens n is one zero Always e = one (ap number (sym is ∙ e))
no_such_number tokens n is one zero Never e = zero (ap number (sym is ∙ e))
no_such_number tokens n is one zero (some_of alternatives) e = none_alone alternatives n [] (sym e ∙ is)
no_such_number tokens n is one zero (Each first second others) e = not_alone first n _ (sym e ∙ is)

pub no_condition : (tokens : List Token) → NotAlone tokens → NoWritten tokens → NoCondition tokens
no_condition tokens alone none Always e = alone 1 e
no_condition tokens alone none Never e = alone 0 e
no_condition tokens alone none (some_of alternatives) e = none.0 alternatives e
no_condition tokens alone none (Each first second others) e = none.1 first second others e
