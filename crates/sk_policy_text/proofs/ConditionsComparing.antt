-- Bits and comparisons, as they are read.
use Rattle.std.proofs.Common.{◌≡◌, ℕ, true, false, List, ◌∷◌, refl, ap, sym, ◌∙◌}
use Rattle.sk_terms.specs.declared.term.Register.{Register}
use Rattle.sk_terms.specs.Expressions.{all_bits}
use Rattle.sk_policy.specs.Policies.{IsThere}
use Rattle.sk_policy_text.specs.declared.comparison.Bits.{Bits}
use Rattle.sk_policy_text.specs.declared.comparison.Compared.{Compared}
use Rattle.sk_policy_text.specs.declared.token.Relation.{Relation}
use Rattle.sk_policy_text.specs.declared.token.Token.{Token}
use Rattle.sk_policy_text.specs.declared.token.Token.TheVariants as token
use Rattle.sk_policy_text.specs.Conditions.{Alone, AnyOf, value_words, value_of, Whole, Masked, side_words, BitsFirst, ValueFirst}
use Rattle.sk_policy_text.specs.ConditionsReading.{BeginsNot, NoRegister, NoRelation, BeginsWithRegister, ReadsValue, NoValue, ReadsMask, NoMask, ReadsMasked, NoMasked, ReadsBits, NoBits, ReadsComparison, NoBitsFirst, NoValueFirst, NoComparison}
use Rattle.sk_policy_text.proofs.ConditionsFirst.{tail, differ}
use Rattle.sk_policy_text.proofs.ConditionsUnique.{value_unique, side_unique}

-- ---- bits

abbrev with_mask : Register → ℕ → Bits
with_mask register mask = record { register = register; mask = mask }

pub masked_read : (tokens more rest : List Token) (register : Register) (mask : ℕ) → tokens ≡ token.Register register ∷ more → IsThere register → ReadsMask more mask rest
    → ReadsMasked tokens (with_mask register mask) rest
masked_read tokens more rest register mask is there reads = record {
  there = there;
  first = reads.first;
  factors = reads.factors;
  words = is ∙ ap (λ (them : List Token). token.Register register ∷ them) reads.words;
  is = reads.is;
}

pub no_mask_behind : (tokens more : List Token) (register : Register) → tokens ≡ token.Register register ∷ more → NoMask more → NoMasked tokens
no_mask_behind tokens more register is none other there first factors rest e = none first factors rest (ap tail (sym is ∙ e))

pub no_register_masked : (tokens : List Token) → NoRegister tokens → NoMasked tokens
no_register_masked tokens none other there first factors rest e = none other there _ e

pub bits_masked : (tokens inside rest : List Token) (bits : Bits) → tokens ≡ token.Open ∷ inside → ReadsMasked inside bits rest → ReadsBits tokens bits rest
bits_masked tokens inside rest bits opens reads = record {
  written = Masked bits.register reads.there reads.first reads.factors;
  words = opens ∙ ap (λ (them : List Token). token.Open ∷ them) reads.words;
  is = ap (λ mask. with_mask bits.register mask) reads.is;
}

pub bits_whole : (tokens rest : List Token) (register : Register) (mask : ℕ) → tokens ≡ token.Register register ∷ rest → IsThere register → mask ≡ all_bits register
    → ReadsBits tokens (with_mask register mask) rest
bits_whole tokens rest register mask is there all = record { written = Whole register there; words = is; is = ap (λ m. with_mask register m) all }

pub no_bits_inside : (tokens inside : List Token) → tokens ≡ token.Open ∷ inside → NoMasked inside → NoBits tokens
no_bits_inside tokens inside opens none (Whole register there) rest e = differ (sym opens ∙ e) refl
no_bits_inside tokens inside opens none (Masked register there factor factors) rest e = none register there factor factors rest (ap tail (sym opens ∙ e))

pub no_bits : (tokens : List Token) → BeginsNot token.Open tokens → NoRegister tokens → NoBits tokens
no_bits tokens opens none (Whole register there) rest e = none register there rest e
no_bits tokens opens none (Masked register there factor factors) rest e = opens _ e

-- ---- comparisons

abbrev with_all : Compared → Compared
with_all it = it

pub value_first_read : (tokens a b rest : List Token) (n : ℕ) (relation : Relation) (bits : Bits) → ReadsValue tokens n a → a ≡ token.Compare relation ∷ b → ReadsBits b bits rest
    → ReadsComparison tokens (record { bits = bits; relation = relation; number = n; number_first = true }) rest
value_first_read tokens a b rest n relation bits value is side = record {
  written = ValueFirst value.written relation side.written;
  words = value.words ∙ ap (value_words value.written) (is ∙ ap (λ (them : List Token). token.Compare relation ∷ them) side.words);
  is =
      ap (λ m. let it : Compared = record { bits = bits; relation = relation; number = m; number_first = true } in it) value.is
      ∙ ap (λ (them : Bits). let it : Compared = record { bits = them; relation = relation; number = value_of value.written; number_first = true } in it) side.is;
}

pub bits_first_read : (tokens a b rest : List Token) (n : ℕ) (relation : Relation) (bits : Bits) → ReadsBits tokens bits a → a ≡ token.Compare relation ∷ b → ReadsValue b n rest
    → ReadsComparison tokens (record { bits = bits; relation = relation; number = n; number_first = false }) rest
bits_first_read tokens a b rest n relation bits side is value = record {
  written = BitsFirst side.written relation value.written;
  words = side.words ∙ ap (side_words side.written) (is ∙ ap (λ (them : List Token). token.Compare relation ∷ them) value.words);
  is =
      ap (λ m. let it : Compared = record { bits = bits; relation = relation; number = m; number_first = false } in it) value.is
      ∙ ap (λ (them : Bits). let it : Compared = record { bits = them; relation = relation; number = value_of value.written; number_first = false } in it) side.is;
}

pub no_value_first : (tokens : List Token) → NoValue tokens → NoValueFirst tokens
no_value_first tokens none value relation side rest e = none value _ e

pub no_relation_of_value : (tokens a : List Token) (n : ℕ) → ReadsValue tokens n a → NoRelation a → NoValueFirst tokens
no_relation_of_value tokens a n reads none value relation side rest e = none relation _ (value_unique reads.written value a _ (sym reads.words ∙ e)).1

pub no_side_of_value : (tokens a b : List Token) (n : ℕ) (relation : Relation) → ReadsValue tokens n a → a ≡ token.Compare relation ∷ b → NoBits b → NoValueFirst tokens
no_side_of_value tokens a b n relation reads is none value other side rest e = none side rest (ap tail (sym is ∙ (value_unique reads.written value a _ (sym reads.words ∙ e)).1))

pub no_bits_first : (tokens : List Token) → NoBits tokens → NoBitsFirst tokens
no_bits_first tokens none side relation value rest e = none side _ e

pub no_relation_of_bits : (tokens a : List Token) (bits : Bits) → ReadsBits tokens bits a → NoRelation a → NoBitsFirst tokens
no_relation_of_bits tokens a bits reads none side relation value rest e = none relation _ (side_unique reads.written side a _ (sym reads.words ∙ e)).1

pub no_value_of_bits : (tokens a b : List Token) (bits : Bits) (relation : Relation) → ReadsBits tokens bits a → a ≡ token.Compare relation ∷ b → NoValue b → NoBitsFirst tokens
no_value_of_bits tokens a b bits relation reads is none side other value rest e = none value rest (ap tail (sym is ∙ (side_unique reads.written side a _ (sym reads.words ∙ e)).1))

pub no_comparison : (tokens : List Token) → NoBitsFirst tokens → NoValueFirst tokens → NoComparison tokens
no_comparison tokens bits value (BitsFirst side relation v) rest e = bits side relation v rest e
no_comparison tokens bits value (ValueFirst v relation side) rest e = value v relation side rest e

-- ---- which of both stands first

pub register_no_value : (tokens : List Token) → BeginsWithRegister tokens → NoValueFirst tokens
register_no_value tokens begins (Alone n) relation side rest e = differ (sym begins.words ∙ e) refl
register_no_value tokens begins (AnyOf n numbers) relation side rest e = differ (sym begins.words ∙ e) refl

pub register_inside_no_value : (tokens inside : List Token) → tokens ≡ token.Open ∷ inside → BeginsWithRegister inside → NoValueFirst tokens
register_inside_no_value tokens inside opens begins (Alone n) relation side rest e = differ (sym opens ∙ e) refl
register_inside_no_value tokens inside opens begins (AnyOf n numbers) relation side rest e = differ (sym begins.words ∙ ap tail (sym opens ∙ e)) refl

pub no_register_no_bits : (tokens : List Token) → BeginsNot token.Open tokens → NoRegister tokens → NoBitsFirst tokens
no_register_no_bits tokens opens none (Whole register there) relation value rest e = none register there _ e
no_register_no_bits tokens opens none (Masked register there factor factors) relation value rest e = opens _ e

pub no_register_inside : (tokens inside : List Token) → tokens ≡ token.Open ∷ inside → NoRegister inside → NoBitsFirst tokens
no_register_inside tokens inside opens none (Whole register there) relation value rest e = differ (sym opens ∙ e) refl
no_register_inside tokens inside opens none (Masked register there factor factors) relation value rest e = none register there _ (ap tail (sym opens ∙ e))
