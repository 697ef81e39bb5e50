-- Choices are read as a condition, which holds where they do.
use Rattle.std.proofs.Common.{◌≡◌, ◌<◌, ◌&&◌, ◌||◌, ◌∙◌, ap, arith, sym, refl, ℕ, List, [], ◌∷◌, ◌++◌, length, codes, flat_map, Bool, true, false, append_assoc}
use Rattle.std.specs.List.{All, list_all}
use Rattle.std.proofs.lemmas.List.{append-nil}
use Rattle.std.proofs.lemmas.List.Elements.{All-head, All-tail}
use Rattle.std.proofs.lemmas.List.Folds.{list_all-append}
use Rattle.sk_insn.specs.declared.record.Record.{Record}
use Rattle.sk_terms.specs.declared.choices.Choice.{Choice}
use Rattle.sk_terms.specs.declared.known.Known.{Known}
use Rattle.sk_terms.specs.declared.term.Term.{Term}
use Rattle.sk_terms.specs.Known.{known_by}
use Rattle.sk_terms.specs.Lines.{holds_one, holds_choice, meets_choices}
use Rattle.sk_terms.specs.Terms.{holds_term}
use Rattle.sk_terms.specs.Text.{choice_text, choices_text, known_text, other_text, terms_text}
use Rattle.sk_policy.specs.Policies.{IsWhole}
use Rattle.sk_policy_text.specs.declared.token.Token.{Token}
use Rattle.sk_policy_text.specs.declared.token.Token.TheVariants as token
use Rattle.sk_policy_text.specs.Conditions.{Alternative, Brackets, Alternatives, Last, Either, alternative_words, alternatives_words, Always, Some as some_of, Each, each_words, holds_alternative, holds_alternatives}
use Rattle.sk_policy_when.specs.Written.{ConditionsComeBack, HasSayable, IsConditionOf, IsSayable, read}
use Rattle.sk_policy_when.proofs.Cutting.{AreClean, and_reads, both_clean, close_reads, ends, open_reads, or_reads}
use Rattle.sk_policy_when.proofs.Named.{one_stands}
use Rattle.sk_policy_when.proofs.Values.{stands_read}
use Rattle.sk_policy_when.proofs.Wording.{IsEach, and_true, joined, term_beside, term_each}

-- ---- tests

or_false : (b : Bool) → (b || false) ≡ b
or_false true = refl
or_false false = refl

and_assoc : (a b c : Bool) → ((a && b) && c) ≡ (a && (b && c))
and_assoc true b c = refl
and_assoc false b c = refl

-- ---- one of some terms

-- a text is alternatives that hold where a test does
record IsAlternatives (text : List ℕ) (test : Record → Bool) : Type 0 where
  written : Alternatives
  words : (rest : List ℕ) → ends rest ≡ true → read (text ++ rest) ≡ alternatives_words written (read rest)
  means : (call : Record) → IsWhole call → holds_alternatives written call ≡ test call
  clean : AreClean text

abbrev behind_or : Known → Term → List ℕ
behind_or known term = codes " || " ++ other_text known term

one_of : (known : Known) (term : Term) (terms : List Term) → IsSayable term → All IsSayable terms
    → IsAlternatives (other_text known term ++ flat_map (behind_or known) terms) (λ call. holds_one (term ∷ terms) call)
one_of known term [] it all =
    let one = term_beside known term it in
    record {
      written = Last one.written;
      words = λ rest e. ap (λ l. read (l ++ rest)) (append-nil (other_text known term)) ∙ one.words rest e;
      means = λ call ok. one.means call ok ∙ sym (or_false (holds_term term call));
      clean = both_clean (other_text known term) [] one.clean refl;
    }
one_of known term (other ∷ terms) it all =
    let one = term_beside known term it in
    let more = one_of known other terms (All-head IsSayable other terms all) (All-tail IsSayable other terms all) in
    let behind = other_text known other ++ flat_map (behind_or known) terms in
    record {
      written = Either one.written more.written;
      words = λ rest e.
          ap read (append_assoc (other_text known term) (codes " || " ++ behind) rest)
          ∙ one.words (codes " || " ++ (behind ++ rest)) refl
          ∙ ap (alternative_words one.written) (or_reads (behind ++ rest) ∙ ap (λ l. token.Or ∷ l) (more.words rest e));
      means = λ call ok.
          ap (λ b. b || holds_alternatives more.written call) (one.means call ok)
          ∙ ap (λ b. holds_term term call || b) (more.means call ok);
      clean = both_clean (other_text known term) (codes " || " ++ behind) one.clean more.clean;
    }

-- ---- a choice beside others

brackets_each : (text : List ℕ) (test : Record → Bool) → IsAlternatives text test → IsEach (codes "(" ++ (text ++ codes ")")) test
brackets_each text test it = record {
  first = Brackets it.written;
  others = [];
  words = λ rest e.
      ap (λ l. read (40 ∷ l)) (append_assoc text (41 ∷ []) rest)
      ∙ open_reads (text ++ (41 ∷ rest))
      ∙ ap (λ l. token.Open ∷ l) (it.words (41 ∷ rest) refl ∙ ap (alternatives_words it.written) (close_reads rest));
  means = λ call ok. and_true (holds_alternatives it.written call) ∙ it.means call ok;
  clean = both_clean text (41 ∷ []) it.clean refl;
}

choice_each : (known : Known) (terms : List Term) → 0 < length terms → All IsSayable terms → IsEach (choice_text known terms) (λ call. holds_one terms call)
choice_each known [] some all = absurd (omega (arith, some))
choice_each known (term ∷ []) some all =
    let each = term_each known term (All-head IsSayable term [] all) in
    record { first = each.first; others = each.others; words = each.words; means = λ call ok. each.means call ok ∙ sym (or_false (holds_term term call)); clean = each.clean }
choice_each known (term ∷ other ∷ terms) some all =
    brackets_each (terms_text known (term ∷ other ∷ terms)) (λ call. holds_one (term ∷ other ∷ terms) call)
    (one_of known term (other ∷ terms) (All-head IsSayable term (other ∷ terms) all) (All-tail IsSayable term (other ∷ terms) all))

-- ---- all choices

joined_more : (front back : List Alternative) (rest : List Token) → joined (front ++ back) rest ≡ joined front (joined back rest)
joined_more [] back rest = refl
joined_more (it ∷ front) back rest = ap (λ l. token.And ∷ alternative_words it l) (joined_more front back rest)

abbrev behind_and : Known → Choice → List ℕ
behind_and known choice = codes " && " ++ choice_text known choice.terms.items

all_of : (known : Known) (choice : Choice) (choices : List Choice) → HasSayable choice → All HasSayable choices
    → IsEach (choice_text known choice.terms.items ++ flat_map (behind_and known) choices) (λ call. meets_choices (choice ∷ choices) call)
all_of known choice [] it all =
    let one = choice_each known choice.terms.items it.some it.terms in
    record {
      first = one.first;
      others = one.others;
      words = λ rest e. ap (λ l. read (l ++ rest)) (append-nil (choice_text known choice.terms.items)) ∙ one.words rest e;
      means = λ call ok. one.means call ok ∙ sym (and_true (holds_choice choice call));
      clean = both_clean (choice_text known choice.terms.items) [] one.clean refl;
    }
all_of known choice (other ∷ choices) it all =
    let one = choice_each known choice.terms.items it.some it.terms in
    let more = all_of known other choices (All-head HasSayable other choices all) (All-tail HasSayable other choices all) in
    let behind = choice_text known other.terms.items ++ flat_map (behind_and known) choices in
    record {
      first = one.first;
      others = one.others ++ (more.first ∷ more.others);
      words = λ rest e.
          ap read (append_assoc (choice_text known choice.terms.items) (codes " && " ++ behind) rest)
          ∙ one.words (codes " && " ++ (behind ++ rest)) refl
          ∙ ap (λ l. alternative_words one.first (joined one.others l)) (and_reads (behind ++ rest) ∙ ap (λ l. token.And ∷ l) (more.words rest e))
          ∙ ap (alternative_words one.first) (sym (joined_more one.others (more.first ∷ more.others) (read rest)));
      means = λ call ok.
          ap (λ b. holds_alternative one.first call && b) (list_all-append (λ a. holds_alternative a call) one.others (more.first ∷ more.others))
          ∙ sym (and_assoc (holds_alternative one.first call) (list_all (λ a. holds_alternative a call) one.others) (list_all (λ a. holds_alternative a call) (more.first ∷ more.others)))
          ∙ ap (λ b. b && list_all (λ a. holds_alternative a call) (more.first ∷ more.others)) (one.means call ok)
          ∙ ap (λ b. holds_choice choice call && b) (more.means call ok);
      clean = both_clean (choice_text known choice.terms.items) (codes " && " ++ behind) one.clean more.clean;
    }

-- ---- conditions

at_end : (text : List ℕ) → read (text ++ []) ≡ read text
at_end text = ap read (append-nil text)

joined_each : (others : List Alternative) → joined others [] ≡ each_words others
joined_each [] = refl
joined_each (it ∷ others) = ap (λ l. token.And ∷ alternative_words it l) (joined_each others)

-- a text is a condition, without a line feed and without a remark
pub record IsWritten (text : List ℕ) (choices : List Choice) : Type 0 where
  pub condition : IsConditionOf text choices
  pub clean : AreClean text

each_condition : (text : List ℕ) (choices : List Choice) → IsEach text (λ call. meets_choices choices call) → IsWritten text choices
each_condition text choices it = record { condition = by_others it.others (sym (at_end text) ∙ it.words [] refl) it.means; clean = it.clean }
  where
    by_others : (others : List Alternative) → read text ≡ alternative_words it.first (joined others [])
        → ((call : Record) → IsWhole call → (holds_alternative it.first call && list_all (λ a. holds_alternative a call) others) ≡ meets_choices choices call) → IsConditionOf text choices
    by_others [] words means = record {
      written = some_of (Last it.first);
      words = words;
      means = λ call ok. sym (and_true (holds_alternative it.first call)) ∙ means call ok;
    }
    by_others (second ∷ others) words means = record {
      written = Each it.first second others;
      words = words ∙ ap (alternative_words it.first) (joined_each (second ∷ others));
      means = means;
    }

one_condition : (known : Known) (choice : Choice) (terms : List Term) → choice.terms.items ≡ terms → 0 < length terms → All IsSayable terms
    → IsWritten (terms_text known terms) (choice ∷ [])
one_condition known choice [] is some all = absurd (omega (arith, some))
one_condition known choice (term ∷ []) is some all =
    let each = choice_each known (term ∷ []) some all in
    each_condition (known_text known term) (choice ∷ []) (record {
      first = each.first;
      others = each.others;
      words = each.words;
      means = λ call ok. each.means call ok ∙ ap (λ l. holds_one l call) (sym is) ∙ sym (and_true (holds_choice choice call));
      clean = each.clean;
    })
one_condition known choice (term ∷ other ∷ terms) is some all =
    let one = one_of known term (other ∷ terms) (All-head IsSayable term (other ∷ terms) all) (All-tail IsSayable term (other ∷ terms) all) in
    record {
      condition = record {
        written = some_of one.written;
        words = sym (at_end (terms_text known (term ∷ other ∷ terms))) ∙ one.words [] refl;
        means = λ call ok. one.means call ok ∙ ap (λ l. holds_one l call) (sym is) ∙ sym (and_true (holds_choice choice call));
      };
      clean = one.clean;
    }

always : IsConditionOf (codes "1") []
always = record { written = Always; words = stands_read (codes "1") [] (token.Number 1) one_stands refl; means = λ call ok. refl }

pub choices_condition : (known : Known) (choices : List Choice) → All HasSayable choices → IsWritten (choices_text known choices) choices
choices_condition known [] all = record { condition = always; clean = refl }
choices_condition known (choice ∷ []) all =
    let it = All-head HasSayable choice [] all in
    one_condition known choice choice.terms.items refl it.some it.terms
choices_condition known (choice ∷ other ∷ choices) all =
    each_condition (choices_text known (choice ∷ other ∷ choices)) (choice ∷ other ∷ choices)
    (all_of known choice (other ∷ choices) (All-head HasSayable choice (other ∷ choices) all) (All-tail HasSayable choice (other ∷ choices) all))

pub conditions_come_back : ConditionsComeBack
conditions_come_back call line all = (choices_condition (known_by call line.choices.items) line.choices.items all).condition
