-- Terms are read as alternatives, each of which holds where the term does.
use Rattle.std.proofs.Common.{◌≡◌, ◌<◌, ◌≤◌, ◌^◌, ◌==◌, ◌&&◌, ◌∙◌, ap, arith, sym, refl, ℕ, List, [], ◌∷◌, ◌++◌, codes, nat_le, not, if◌then◌else◌, Bool, true, false, bit_and, append_assoc}
use Rattle.std.specs.List.{list_all}
use Rattle.std.proofs.lemmas.Bool.{eqb-true, leb-true}
use Rattle.std.proofs.lemmas.Bool.Decides.{nat_tests}
use Rattle.std.proofs.lemmas.Nat.{and_le_r}
use Rattle.sk_insn.specs.declared.record.Record.{Record}
use Rattle.sk_arguments.specs.declared.forms.Form.{Form}
use Rattle.sk_terms.specs.declared.known.Known.{Known}
use Rattle.sk_terms.specs.declared.term.Register.{Register}
use Rattle.sk_terms.specs.declared.term.Term.{Term}
use Rattle.sk_terms.specs.declared.wording.Wording.{Wording}
use Rattle.sk_terms.specs.declared.wording.Wording.TheVariants.{Is, IsNot, AtMost, AtLeast, Within, Outside}
use Rattle.sk_terms.specs.Constants.{parts_of}
use Rattle.sk_terms.specs.Expressions.{expresses, wording_of}
use Rattle.sk_terms.specs.Known.{form_on}
use Rattle.sk_terms.specs.Terms.{holds_term, register_of, takes}
use Rattle.sk_terms.specs.Text.{beside_text, bits_text, known_text, number_text, other_text, value_text, wording_text}
use Rattle.sk_terms.proofs.Masks.{one_number}
use Rattle.sk_terms.proofs.Parts.{parts_read_back}
use Rattle.sk_policy.specs.Policies.{IsThere, IsWhole}
use Rattle.sk_policy_text.specs.declared.token.Relation.{Relation}
use Rattle.sk_policy_text.specs.declared.token.Relation.TheVariants as relation
use Rattle.sk_policy_text.specs.declared.token.Token.{Token}
use Rattle.sk_policy_text.specs.declared.token.Token.TheVariants as token
use Rattle.sk_policy_text.specs.Conditions.{Alternative, One, Range, Brackets, Last, Either, alternative_words, BitsFirst, ValueFirst, comparison_words, from, holds_alternative, relates, up_to, value_of}
use Rattle.sk_policy_when.specs.Written.{IsSayable, read}
use Rattle.sk_policy_when.proofs.Cutting.{AreClean, and_reads, at_least_reads, at_most_reads, below_reads, both_clean, close_reads, ends, is_not_reads, is_reads, open_reads, or_reads}
use Rattle.sk_policy_when.proofs.Named.{number_stands}
use Rattle.sk_policy_when.proofs.Values.{IsValue, group_is, number_is}
use Rattle.sk_policy_when.proofs.Masks.{parts_some}
use Rattle.sk_policy_when.proofs.Comparing.{IsRelation, IsSide, bits_first, side_is, value_first}

-- ---- what is said of a term is what it takes

pub exact : (term : Term) (n : ℕ) → n ≤ term.mask → expresses (wording_of term) n ≡ takes term n
exact term n small = by_tests term.inside (term.first == term.last) (term.first == 0) (nat_le term.mask term.last) refl refl refl
  where
    one : (term.first == term.last) ≡ true → (n == term.first) ≡ (nat_le term.first n && nat_le n term.last)
    one e = sym (one_number n term.first) ∙ ap (λ k. nat_le term.first n && nat_le n k) (eqb-true term.first term.last e)

    by_tests : (a b c d : Bool) → (term.first == term.last) ≡ b → (term.first == 0) ≡ c → nat_le term.mask term.last ≡ d
        → expresses (if not a then (if b then IsNot term.first else Outside term.first term.last)
        else (if b then Is term.first
        else (if c then AtMost term.last
        else (if d then AtLeast term.first else Within term.first term.last)))) n
        ≡ (if a then nat_le term.first n && nat_le n term.last else not (nat_le term.first n && nat_le n term.last))
    by_tests false true c d of_b of_c of_d = ap not (one of_b)
    by_tests false false c d of_b of_c of_d = grind (arith, nat_tests)
    by_tests true true c d of_b of_c of_d = one of_b
    by_tests true false true d of_b of_c of_d = let zero = eqb-true term.first 0 of_c in grind (arith, nat_tests, zero)
    by_tests true false false true of_b of_c of_d = let below = leb-true term.mask term.last of_d in grind (arith, nat_tests, below, small)
    by_tests true false false false of_b of_c of_d = refl

-- numbers of 64 bits
abbrev AreFit : Wording → Type 0
AreFit (Is k) = k < 2 ^ 64
AreFit (IsNot k) = k < 2 ^ 64
AreFit (AtMost k) = k < 2 ^ 64
AreFit (AtLeast k) = k < 2 ^ 64
AreFit (Within first last) = (first < 2 ^ 64) × (last < 2 ^ 64)
AreFit (Outside first last) = (first < 2 ^ 64) × (last < 2 ^ 64)

fit : (term : Term) → IsSayable term → AreFit (wording_of term)
fit term it = by_tests term.inside (term.first == term.last) (term.first == 0) (nat_le term.mask term.last)
  where
    by_tests : (a b c d : Bool)
        → AreFit (if not a then (if b then IsNot term.first else Outside term.first term.last)
        else (if b then Is term.first
        else (if c then AtMost term.last
        else (if d then AtLeast term.first else Within term.first term.last))))
    by_tests false true c d = it.first
    by_tests false false c d = (it.first, it.last)
    by_tests true true c d = it.first
    by_tests true false true d = it.last
    by_tests true false false true = it.first
    by_tests true false false false = (it.first, it.last)

-- ---- relations

is_there : IsRelation (codes " == ") relation.Is
is_there = record { words = λ rest. is_reads rest; ends_word = λ rest. refl; clean = refl }

is_not_there : IsRelation (codes " != ") relation.IsNot
is_not_there = record { words = λ rest. is_not_reads rest; ends_word = λ rest. refl; clean = refl }

at_most_there : IsRelation (codes " <= ") relation.AtMost
at_most_there = record { words = λ rest. at_most_reads rest; ends_word = λ rest. refl; clean = refl }

at_least_there : IsRelation (codes " >= ") relation.AtLeast
at_least_there = record { words = λ rest. at_least_reads rest; ends_word = λ rest. refl; clean = refl }

below_there : IsRelation (codes " < ") relation.Below
below_there = record { words = λ rest. below_reads rest; ends_word = λ rest. refl; clean = refl }

-- ---- what a text is read as

-- a text is an alternative that holds where a test does
pub record IsAlternative (text : List ℕ) (test : Record → Bool) : Type 0 where
  pub written : Alternative
  pub words : (rest : List ℕ) → ends rest ≡ true → read (text ++ rest) ≡ alternative_words written (read rest)
  pub means : (call : Record) → IsWhole call → holds_alternative written call ≡ test call
  pub clean : AreClean text

-- `&& A && B`, before other words
abbrev pub joined : List Alternative → List Token → List Token
joined [] rest = rest
joined (it ∷ others) rest = token.And ∷ alternative_words it (joined others rest)

-- a text is one alternative or more that all have to hold
pub record IsEach (text : List ℕ) (test : Record → Bool) : Type 0 where
  pub first : Alternative
  pub others : List Alternative
  pub words : (rest : List ℕ) → ends rest ≡ true → read (text ++ rest) ≡ alternative_words first (joined others (read rest))
  pub means : (call : Record) → IsWhole call → (holds_alternative first call && list_all (λ it. holds_alternative it call) others) ≡ test call
  pub clean : AreClean text

pub and_true : (b : Bool) → (b && true) ≡ b
and_true true = refl
and_true false = refl

pub alone_each : (text : List ℕ) (test : Record → Bool) → IsAlternative text test → IsEach text test
alone_each text test it = record {
  first = it.written;
  others = [];
  words = it.words;
  means = λ call ok. and_true (holds_alternative it.written call) ∙ it.means call ok;
  clean = it.clean;
}

-- what some bits of a register are
abbrev pub says_of : Wording → Register → ℕ → Record → Bool
says_of wording register mask call = expresses wording (bit_and (register_of register call) mask)

-- ---- one comparison

compared : (bits op value : List ℕ) (register : Register) (mask n : ℕ) (relation : Relation) → IsSide bits register mask → IsRelation op relation → IsValue value n
    → IsAlternative (bits ++ (op ++ value)) (λ call. relates relation (bit_and (register_of register call) mask) n)
compared bits op value register mask n relation one is other = record {
  written = One (BitsFirst one.side relation other.value);
  words = λ rest e. bits_first bits op value register mask n relation one is other rest e;
  means = λ call ok. ap (λ a. relates relation a (value_of other.value)) (one.sees call ok) ∙ ap (relates relation (bit_and (register_of register call) mask)) other.is;
  clean = both_clean bits (op ++ value) one.clean (both_clean op value is.clean other.clean);
}

-- ---- ranges

module _ (bits first last : List ℕ) (register : Register) (mask n m : ℕ) (side : IsSide bits register mask) (one : IsValue first n) (other : IsValue last m) where
  -- `FIRST <= BITS && BITS <= LAST`
  abbrev within : List ℕ
  within = first ++ (codes " <= " ++ (bits ++ (codes " && " ++ (bits ++ (codes " <= " ++ last)))))

  within_clean : AreClean within
  within_clean =
      both_clean first (codes " <= " ++ (bits ++ (codes " && " ++ (bits ++ (codes " <= " ++ last))))) one.clean
      (both_clean bits (codes " && " ++ (bits ++ (codes " <= " ++ last))) side.clean (both_clean bits (codes " <= " ++ last) side.clean other.clean))

  within_read : (rest : List ℕ) → ends rest ≡ true
      → read (within ++ rest) ≡ comparison_words (from one.value side.side) (token.And ∷ comparison_words (up_to side.side other.value) (read rest))
  within_read rest e =
      ap (λ l. read (l ++ rest)) (sym (append_assoc first (codes " <= " ++ bits) (codes " && " ++ (bits ++ (codes " <= " ++ last)))))
      ∙ ap read (append_assoc (first ++ (codes " <= " ++ bits)) (codes " && " ++ (bits ++ (codes " <= " ++ last))) rest)
      ∙ value_first first (codes " <= ") bits register mask n relation.AtMost one at_most_there side (codes " && " ++ ((bits ++ (codes " <= " ++ last)) ++ rest)) refl
      ∙ ap (comparison_words (from one.value side.side))
      (and_reads ((bits ++ (codes " <= " ++ last)) ++ rest)
      ∙ ap (λ l. token.And ∷ l) (bits_first bits (codes " <= ") last register mask m relation.AtMost side at_most_there other rest e))

  both_hold : (call : Record) → IsWhole call
      → (holds_alternative (One (from one.value side.side)) call && holds_alternative (One (up_to side.side other.value)) call) ≡ says_of (Within n m) register mask call
  both_hold call ok =
      let sees = side.sees call ok in
      let low = one.is in
      let high = other.is in
      rw (sees, low, high) refl

  within_each : IsEach within (says_of (Within n m) register mask)
  within_each = record {
    first = One (from one.value side.side);
    others = One (up_to side.side other.value) ∷ [];
    words = within_read;
    means = λ call ok.
        ap (λ b. holds_alternative (One (from one.value side.side)) call && b) (and_true (holds_alternative (One (up_to side.side other.value)) call))
        ∙ both_hold call ok;
    clean = within_clean;
  }

  within_beside : IsAlternative (codes "(" ++ (within ++ codes ")")) (says_of (Within n m) register mask)
  within_beside = record {
    written = Range one.value side.side side.side other.value (record { register = refl; mask = refl });
    words = λ rest e.
        ap (λ l. read (40 ∷ l)) (append_assoc within (41 ∷ []) rest)
        ∙ open_reads (within ++ (41 ∷ rest))
        ∙ ap (λ l. token.Open ∷ l)
        (within_read (41 ∷ rest) refl
        ∙ ap (λ l. comparison_words (from one.value side.side) (token.And ∷ comparison_words (up_to side.side other.value) l)) (close_reads rest));
    means = both_hold;
    clean = both_clean within (41 ∷ []) within_clean refl;
  }

  -- `(BITS < FIRST || LAST < BITS)`
  abbrev outside : List ℕ
  outside = codes "(" ++ (bits ++ (codes " < " ++ (first ++ (codes " || " ++ (last ++ (codes " < " ++ (bits ++ codes ")")))))))

  last_read : (rest : List ℕ) → read ((last ++ (codes " < " ++ (bits ++ (41 ∷ [])))) ++ rest) ≡ comparison_words (ValueFirst other.value relation.Below side.side) (token.Close ∷ read rest)
  last_read rest =
      ap (λ l. read (l ++ rest)) (sym (append_assoc last (codes " < " ++ bits) (41 ∷ [])))
      ∙ ap read (append_assoc (last ++ (codes " < " ++ bits)) (41 ∷ []) rest)
      ∙ value_first last (codes " < ") bits register mask m relation.Below other below_there side (41 ∷ rest) refl
      ∙ ap (comparison_words (ValueFirst other.value relation.Below side.side)) (close_reads rest)

  outside_is : IsAlternative outside (says_of (Outside n m) register mask)
  outside_is = record {
    written = Brackets (Either (One (BitsFirst side.side relation.Below one.value)) (Last (One (ValueFirst other.value relation.Below side.side))));
    words = λ rest e.
        ap (λ l. read (40 ∷ (l ++ rest))) (sym (append_assoc bits (codes " < " ++ first) (codes " || " ++ (last ++ (codes " < " ++ (bits ++ (41 ∷ [])))))))
        ∙ ap (λ l. read (40 ∷ l)) (append_assoc (bits ++ (codes " < " ++ first)) (codes " || " ++ (last ++ (codes " < " ++ (bits ++ (41 ∷ []))))) rest)
        ∙ open_reads ((bits ++ (codes " < " ++ first)) ++ (codes " || " ++ ((last ++ (codes " < " ++ (bits ++ (41 ∷ [])))) ++ rest)))
        ∙ ap (λ l. token.Open ∷ l)
        (bits_first bits (codes " < ") first register mask n relation.Below side below_there one (codes " || " ++ ((last ++ (codes " < " ++ (bits ++ (41 ∷ [])))) ++ rest)) refl
        ∙ ap (comparison_words (BitsFirst side.side relation.Below one.value))
        (or_reads ((last ++ (codes " < " ++ (bits ++ (41 ∷ [])))) ++ rest)
        ∙ ap (λ l. token.Or ∷ l) (last_read rest)));
    means = λ call ok.
        let sees = side.sees call ok in
        let low = one.is in
        let high = other.is in
        rw (sees, low, high) refl;
    clean =
        both_clean bits (codes " < " ++ (first ++ (codes " || " ++ (last ++ (codes " < " ++ (bits ++ (41 ∷ []))))))) side.clean
        (both_clean first (codes " || " ++ (last ++ (codes " < " ++ (bits ++ (41 ∷ []))))) one.clean
        (both_clean last (codes " < " ++ (bits ++ (41 ∷ []))) other.clean (both_clean bits (41 ∷ []) side.clean refl)));
  }

-- ---- wordings

number_value : (n : ℕ) → n < 2 ^ 64 → IsValue (number_text n) n
number_value n small = number_is (number_text n) n (number_stands n small)

group_value : (it : Form) (mask n : ℕ) → n < 2 ^ 64 → IsValue (value_text it mask n) n
group_value it mask n small = group_is (parts_of it mask n) n (parts_some it mask n) (parts_read_back it mask n) small

wording_each : (it : Form) (register : Register) (mask : ℕ) (wording : Wording) → IsThere register → mask < 2 ^ 64 → AreFit wording
    → IsEach (wording_text it register mask wording) (says_of wording register mask)
wording_each it register mask (Is k) there small has =
    alone_each _ _ (compared (bits_text it register mask) (codes " == ") (value_text it mask k) register mask k relation.Is (side_is it register mask there small) is_there (group_value it mask k has))
wording_each it register mask (IsNot k) there small has =
    alone_each _ _ (compared (bits_text it register mask) (codes " != ") (value_text it mask k) register mask k relation.IsNot (side_is it register mask there small) is_not_there (group_value it mask k has))
wording_each it register mask (AtMost k) there small has =
    alone_each _ _ (compared (bits_text it register mask) (codes " <= ") (number_text k) register mask k relation.AtMost (side_is it register mask there small) at_most_there (number_value k has))
wording_each it register mask (AtLeast k) there small has =
    alone_each _ _ (compared (bits_text it register mask) (codes " >= ") (number_text k) register mask k relation.AtLeast (side_is it register mask there small) at_least_there (number_value k has))
wording_each it register mask (Within n m) there small has =
    within_each (bits_text it register mask) (number_text n) (number_text m) register mask n m (side_is it register mask there small) (number_value n has.0) (number_value m has.1)
wording_each it register mask (Outside n m) there small has =
    alone_each _ _ (outside_is (bits_text it register mask) (number_text n) (number_text m) register mask n m (side_is it register mask there small) (number_value n has.0) (number_value m has.1))

wording_beside : (it : Form) (register : Register) (mask : ℕ) (wording : Wording) → IsThere register → mask < 2 ^ 64 → AreFit wording
    → IsAlternative (beside_text wording (wording_text it register mask wording)) (says_of wording register mask)
wording_beside it register mask (Is k) there small has =
    compared (bits_text it register mask) (codes " == ") (value_text it mask k) register mask k relation.Is (side_is it register mask there small) is_there (group_value it mask k has)
wording_beside it register mask (IsNot k) there small has =
    compared (bits_text it register mask) (codes " != ") (value_text it mask k) register mask k relation.IsNot (side_is it register mask there small) is_not_there (group_value it mask k has)
wording_beside it register mask (AtMost k) there small has =
    compared (bits_text it register mask) (codes " <= ") (number_text k) register mask k relation.AtMost (side_is it register mask there small) at_most_there (number_value k has)
wording_beside it register mask (AtLeast k) there small has =
    compared (bits_text it register mask) (codes " >= ") (number_text k) register mask k relation.AtLeast (side_is it register mask there small) at_least_there (number_value k has)
wording_beside it register mask (Within n m) there small has =
    within_beside (bits_text it register mask) (number_text n) (number_text m) register mask n m (side_is it register mask there small) (number_value n has.0) (number_value m has.1)
wording_beside it register mask (Outside n m) there small has =
    outside_is (bits_text it register mask) (number_text n) (number_text m) register mask n m (side_is it register mask there small) (number_value n has.0) (number_value m has.1)

-- ---- terms

term_holds : (term : Term) (call : Record) → says_of (wording_of term) term.register term.mask call ≡ holds_term term call
term_holds term call = exact term (bit_and (register_of term.register call) term.mask) (and_le_r (register_of term.register call) term.mask)

pub term_each : (known : Known) (term : Term) → IsSayable term → IsEach (known_text known term) (λ call. holds_term term call)
term_each known term it =
    let each = wording_each (form_on known term.register) term.register term.mask (wording_of term) it.there it.mask (fit term it) in
    record { first = each.first; others = each.others; words = each.words; means = λ call ok. each.means call ok ∙ term_holds term call; clean = each.clean }

pub term_beside : (known : Known) (term : Term) → IsSayable term → IsAlternative (other_text known term) (λ call. holds_term term call)
term_beside known term it =
    let one = wording_beside (form_on known term.register) term.register term.mask (wording_of term) it.there it.mask (fit term it) in
    record { written = one.written; words = one.words; means = λ call ok. one.means call ok ∙ term_holds term call; clean = one.clean }
