-- What is read holds where the condition does.
use Rattle.std.proofs.Common.{◌≡◌, ℕ, zero, suc, ◌^◌, ◌<◌, ◌&&◌, ◌||◌, Bool, true, false, nat_le, bit_and, List, [], ◌∷◌, ◌++◌, map, refl, ap, sym, ◌∙◌, subst, arith}
use Rattle.std.specs.Prelude.{All, slice_index_or}
use Rattle.std.specs.List.{list_all}
use Rattle.std.proofs.lemmas.Bool.Decides.{nat_tests}
use Rattle.std.proofs.lemmas.Nat.{and_mask, and_le_l}
use Rattle.std.proofs.lemmas.List.Elements.{All-nil, All-cons, All-head, All-tail, All-append}
use Rattle.sk_insn.specs.declared.record.Record.{Record}
use Rattle.sk_terms.specs.declared.choices.Choice.{Choice}
use Rattle.sk_terms.specs.declared.term.Register.{Register}
use Rattle.sk_terms.specs.declared.term.Register.TheVariants as register
use Rattle.sk_terms.specs.declared.term.Term.{Term}
use Rattle.sk_terms.specs.Expressions.{all_bits}
use Rattle.sk_terms.specs.Lines.{holds_one, holds_choice, meets_choices}
use Rattle.sk_terms.specs.Terms.{register_of, takes, holds_term}
use Rattle.sk_policy.specs.Policies.{IsWhole, IsThere, AsksThere, AllThere}
use Rattle.sk_policy_text.specs.declared.comparison.Bits.{Bits}
use Rattle.sk_policy_text.specs.declared.token.Relation.{Relation}
use Rattle.sk_policy_text.specs.declared.token.Relation.TheVariants as relation
use Rattle.sk_policy_text.specs.declared.token.Token.{Token}
use Rattle.sk_policy_text.specs.Conditions.{Value, value_of, relates, Side, Whole, Masked, register_in, mask_in, seen, Comparison, BitsFirst, ValueFirst, holds_comparison, AreAlike, Alternative, One, Range, Brackets, Alternatives, Last, Either, holds_alternative, holds_alternatives, Condition, Always, Never, Some as some_of, Each, holds_condition, WordsTellMeaning}
use Rattle.sk_policy_text.specs.ConditionsRead.{ReadsCondition}
use Rattle.sk_policy_text.specs.ConditionsReading.{bits_in, compared, turned, ranged, related, term_of, terms_of, terms_of_all, lists_of, choices_of, IsCondition}
use Rattle.sk_policy_text.proofs.ConditionsUnique.{both, condition_unique}
use Rattle.sk_policy_text.proofs.ConditionsSizes.{choices_few}

argument_small : (numbers : List ℕ) (i : ℕ) → All (λ a. a < 2 ^ 64) numbers → slice_index_or numbers i 0 < 2 ^ 64
argument_small [] i fit = omega arith
argument_small (x ∷ numbers) zero fit = All-head (λ a. a < 2 ^ 64) x numbers fit
argument_small (x ∷ numbers) (suc i) fit = argument_small numbers i (All-tail (λ a. a < 2 ^ 64) x numbers fit)

register_small : (r : Register) (call : Record) → IsWhole call → register_of r call < 2 ^ 64
register_small register.Number call ok = omega (arith, ok.is_call.number)
register_small register.Pointer call ok = ok.pointer
register_small (register.Argument i) call ok = argument_small call.args i ok.is_call.fit

whole : (r : Register) (call : Record) → IsWhole call → bit_and (register_of r call) (all_bits r) ≡ register_of r call
whole register.Number call ok = and_mask call.nr 32 ∙ omega (arith, ok.is_call.number)
whole register.Pointer call ok = and_mask call.ip 64 ∙ omega (arith, ok.pointer)
whole (register.Argument i) call ok =
    let small = argument_small call.args i ok.is_call.fit in and_mask (slice_index_or call.args i 0) 64 ∙ omega (arith, small)

abbrev number_of : Side → Record → ℕ
number_of side call = bit_and (register_of (register_in side) call) (mask_in side)

seen_is : (side : Side) (call : Record) → IsWhole call → number_of side call ≡ seen side call
seen_is (Whole r there) call ok = whole r call ok
seen_is (Masked r there factor factors) call ok = refl

number_small : (side : Side) (call : Record) → IsWhole call → number_of side call < 2 ^ 64
number_small side call ok =
    let less = and_le_l (register_of (register_in side) call) (mask_in side) in
    let small = register_small (register_in side) call ok in omega (arith, less, small)

related_means : (bits : Bits) (it : Relation) (n v : ℕ) → v < 2 ^ 64 → takes (related bits it n) v ≡ relates it v n
related_means bits relation.Is n v small = grind (arith, nat_tests)
related_means bits relation.IsNot n v small = grind (arith, nat_tests)
related_means bits relation.Below n v small = grind (arith, nat_tests, small)
related_means bits relation.AtMost n v small = grind (arith, nat_tests)
related_means bits relation.Above n v small = grind (arith, nat_tests)
related_means bits relation.AtLeast n v small = grind (arith, nat_tests, small)

relates_turned : (it : Relation) (a b : ℕ) → relates (turned it) a b ≡ relates it b a
relates_turned relation.Is a b = grind (arith, nat_tests)
relates_turned relation.IsNot a b = grind (arith, nat_tests)
relates_turned relation.Below a b = refl
relates_turned relation.AtMost a b = refl
relates_turned relation.Above a b = refl
relates_turned relation.AtLeast a b = refl

asks_number : (bits : Bits) (it : Relation) (n : ℕ) (call : Record) → holds_term (related bits it n) call ≡ takes (related bits it n) (bit_and (register_of bits.register call) bits.mask)
asks_number bits relation.Is n call = refl
asks_number bits relation.IsNot n call = refl
asks_number bits relation.Below n call = refl
asks_number bits relation.AtMost n call = refl
asks_number bits relation.Above n call = refl
asks_number bits relation.AtLeast n call = refl

related_holds : (side : Side) (it : Relation) (n : ℕ) (call : Record) → IsWhole call → holds_term (related (bits_in side) it n) call ≡ relates it (seen side call) n
related_holds side it n call ok =
    asks_number (bits_in side) it n call ∙ related_means (bits_in side) it n (number_of side call) (number_small side call ok) ∙ ap (λ v. relates it v n) (seen_is side call ok)

comparison_holds : (c : Comparison) (call : Record) → IsWhole call → holds_term (term_of (compared c)) call ≡ holds_comparison c call
comparison_holds (BitsFirst side it value) call ok = related_holds side it (value_of value) call ok
comparison_holds (ValueFirst value it side) call ok = related_holds side (turned it) (value_of value) call ok ∙ relates_turned it (seen side call) (value_of value)

or_false : (b : Bool) → (b || false) ≡ b
or_false true = refl
or_false false = refl

and_true : (b : Bool) → (b && true) ≡ b
and_true true = refl
and_true false = refl

or_assoc : (a b c : Bool) → ((a || b) || c) ≡ (a || (b || c))
or_assoc true b c = refl
or_assoc false b c = refl

either_holds : (one other : List Term) (call : Record) → holds_one (one ++ other) call ≡ (holds_one one call || holds_one other call)
either_holds [] other call = refl
either_holds (term ∷ one) other call = ap (λ b. holds_term term call || b) (either_holds one other call) ∙ sym (or_assoc (holds_term term call) (holds_one one call) (holds_one other call))

abbrev alike_number : Register → ℕ → Record → ℕ
alike_number r mask call = bit_and (register_of r call) mask

range_holds : (first : Value) (one other : Side) (last : Value) (alike : AreAlike one other) (call : Record) → IsWhole call
    → holds_term (ranged (bits_in one) (value_of first) (value_of last) true) call ≡ holds_alternative (Range first one other last alike) call
range_holds first one other last alike call ok =
    ap (λ v. nat_le (value_of first) v && nat_le (number_of one call) (value_of last)) (seen_is one call ok)
    ∙ ap (λ v. nat_le (value_of first) (seen one call) && nat_le v (value_of last)) (both (λ (r : Register) mask. alike_number r mask call) alike.register alike.mask ∙ seen_is other call ok)

mutual
  alternative_holds : (a : Alternative) (call : Record) → IsWhole call → holds_one (terms_of a) call ≡ holds_alternative a call
  alternative_holds (One c) call ok = or_false (holds_term (term_of (compared c)) call) ∙ comparison_holds c call ok
  alternative_holds (Range first one other last alike) call ok =
      or_false (holds_term (ranged (bits_in one) (value_of first) (value_of last) true) call) ∙ range_holds first one other last alike call ok
  alternative_holds (Brackets inside) call ok = alternatives_hold inside call ok

  alternatives_hold : (all : Alternatives) (call : Record) → IsWhole call → holds_one (terms_of_all all) call ≡ holds_alternatives all call
  alternatives_hold (Last a) call ok = alternative_holds a call ok
  alternatives_hold (Either a others) call ok =
      either_holds (terms_of a) (terms_of_all others) call ∙ both (λ b d. b || d) (alternative_holds a call ok) (alternatives_hold others call ok)

abbrev meets_lists : List (List Term) → Record → Bool
meets_lists lists call = list_all (λ terms. holds_one terms call) lists

choices_meet : (choices : List Choice) (call : Record) → meets_choices choices call ≡ meets_lists (lists_of choices) call
choices_meet [] call = refl
choices_meet (choice ∷ choices) call = ap (λ b. holds_choice choice call && b) (choices_meet choices call)

each_meets : (written : List Alternative) (call : Record) → IsWhole call → meets_lists (map terms_of written) call ≡ list_all (λ a. holds_alternative a call) written
each_meets [] call ok = refl
each_meets (a ∷ written) call ok = both (λ b d. b && d) (alternative_holds a call ok) (each_meets written call ok)

condition_meets : (written : Condition) (call : Record) → IsWhole call → meets_lists (choices_of written) call ≡ holds_condition written call
condition_meets Always call ok = refl
condition_meets Never call ok = refl
condition_meets (some_of all) call ok = and_true (holds_one (terms_of_all all) call) ∙ alternatives_hold all call ok
condition_meets (Each first second others) call ok = both (λ b d. b && d) (alternative_holds first call ok) (each_meets (second ∷ others) call ok)

-- ---- the registers are there

related_there : (bits : Bits) (it : Relation) (n : ℕ) → IsThere bits.register → AsksThere (related bits it n)
related_there bits relation.Is n there = there
related_there bits relation.IsNot n there = there
related_there bits relation.Below n there = there
related_there bits relation.AtMost n there = there
related_there bits relation.Above n there = there
related_there bits relation.AtLeast n there = there

side_there : (side : Side) → IsThere (register_in side)
side_there (Whole r there) = there
side_there (Masked r there factor factors) = there

comparison_there : (c : Comparison) → AsksThere (term_of (compared c))
comparison_there (BitsFirst side it value) = related_there (bits_in side) it (value_of value) (side_there side)
comparison_there (ValueFirst value it side) = related_there (bits_in side) (turned it) (value_of value) (side_there side)

mutual
  alternative_there : (a : Alternative) → All AsksThere (terms_of a)
  alternative_there (One c) = All-cons AsksThere (term_of (compared c)) [] (comparison_there c) (All-nil AsksThere)
  alternative_there (Range first one other last alike) = All-cons AsksThere (ranged (bits_in one) (value_of first) (value_of last) true) [] (side_there one) (All-nil AsksThere)
  alternative_there (Brackets inside) = alternatives_there inside

  alternatives_there : (all : Alternatives) → All AsksThere (terms_of_all all)
  alternatives_there (Last a) = alternative_there a
  alternatives_there (Either a others) = All-append AsksThere (terms_of a) (terms_of_all others) (alternative_there a) (alternatives_there others)

abbrev ListThere : List Term → Type 0
ListThere terms = All AsksThere terms

each_there : (written : List Alternative) → All ListThere (map terms_of written)
each_there [] = All-nil ListThere
each_there (a ∷ written) = All-cons ListThere (terms_of a) (map terms_of written) (alternative_there a) (each_there written)

condition_there : (written : Condition) → All ListThere (choices_of written)
condition_there Always = All-nil ListThere
condition_there Never = All-cons ListThere [] [] (All-nil AsksThere) (All-nil ListThere)
condition_there (some_of all) = All-cons ListThere (terms_of_all all) [] (alternatives_there all) (All-nil ListThere)
condition_there (Each first second others) = each_there (first ∷ second ∷ others)

abbrev ChoiceThere : Choice → Type 0
ChoiceThere choice = All AsksThere choice.terms.items

choices_there : (choices : List Choice) → All ListThere (lists_of choices) → AllThere choices
choices_there [] all = All-nil ChoiceThere
choices_there (choice ∷ choices) all =
    All-cons ChoiceThere choice choices (All-head ListThere choice.terms.items (lists_of choices) all) (choices_there choices (All-tail ListThere choice.terms.items (lists_of choices) all))

pub reads_condition : (tokens : List Token) (choices : List Choice) → IsCondition tokens choices → ReadsCondition tokens choices
reads_condition tokens choices it = record {
  there = choices_there choices (subst (All ListThere) (sym it.is) (condition_there it.written));
  size = choices_few tokens choices it;
  written = it.written;
  words = it.words;
  means = λ other words call ok.
      choices_meet choices call ∙ ap (λ (lists : List (List Term)). meets_lists lists call) (it.is ∙ condition_unique it.written other (sym it.words ∙ words)) ∙ condition_meets other call ok;
}

-- two conditions with the same words are read as the same choices
pub words_tell_meaning : WordsTellMeaning
words_tell_meaning one other same call ok =
    sym (condition_meets one call ok) ∙ ap (λ (lists : List (List Term)). meets_lists lists call) (condition_unique one other same) ∙ condition_meets other call ok
