-- Bits of registers and comparisons are read as they are written.
use Rattle.std.proofs.Common.{◌≡◌, ◌<◌, ◌^◌, ◌==◌, ◌∙◌, ap, arith, sym, refl, inl, inr, ℕ, List, [], ◌∷◌, ◌++◌, slice_index_or, true, bit_and, append_assoc}
use Rattle.std.proofs.lemmas.Bool.{cases_Bool, eqb-true}
use Rattle.std.proofs.lemmas.Nat.{and_mask}
use Rattle.std.proofs.lemmas.List.Elements.{All-get_or}
use Rattle.sk_insn.specs.declared.record.Record.{Record}
use Rattle.sk_arguments.specs.declared.forms.Form.{Form}
use Rattle.sk_terms.specs.declared.term.Register.{Register}
use Rattle.sk_terms.specs.declared.term.Register.TheVariants.{Number, Pointer, Argument}
use Rattle.sk_terms.specs.Constants.{mask_of}
use Rattle.sk_terms.specs.Expressions.{all_bits}
use Rattle.sk_terms.specs.Terms.{register_of}
use Rattle.sk_terms.specs.Text.{bits_text, mask_text, register_text}
use Rattle.sk_policy.specs.Policies.{IsThere, IsWhole}
use Rattle.sk_policy_text.specs.declared.token.Relation.{Relation}
use Rattle.sk_policy_text.specs.declared.token.Token.TheVariants as token
use Rattle.sk_policy_text.specs.Conditions.{Side, Whole, Masked, and_words, factor_words, seen, side_words, BitsFirst, ValueFirst, comparison_words, value_words}
use Rattle.sk_policy_when.specs.Written.{read}
use Rattle.sk_policy_when.proofs.Cutting.{AreClean, bits_reads, both_clean, close_reads, ends, open_reads, run_clean}
use Rattle.sk_policy_when.proofs.Named.{register_stands}
use Rattle.sk_policy_when.proofs.Values.{IsValue, stands_read}
use Rattle.sk_policy_when.proofs.Masks.{IsMask, mask_is}

-- ---- all bits of a register

all_of_it : (it : Register) (call : Record) → IsThere it → IsWhole call → bit_and (register_of it call) (all_bits it) ≡ register_of it call
all_of_it Number call there ok = and_mask call.nr 32 ∙ omega (arith, ok.is_call.number)
all_of_it Pointer call there ok = and_mask call.ip 64 ∙ omega (arith, ok.pointer)
all_of_it (Argument i) call there ok =
    let small : slice_index_or call.args i 0 < 2 ^ 64 = All-get_or (λ a. a < 2 ^ 64) call.args i 0 (omega (arith, there, ok.is_call.six)) ok.is_call.fit in
    and_mask (slice_index_or call.args i 0) 64 ∙ omega (arith, small)

-- ---- bits of a register

-- a text is some bits of a register
pub record IsSide (text : List ℕ) (register : Register) (mask : ℕ) : Type 0 where
  pub side : Side
  pub words : (rest : List ℕ) → ends rest ≡ true → read (text ++ rest) ≡ side_words side (read rest)
  pub sees : (call : Record) → IsWhole call → seen side call ≡ bit_and (register_of register call) mask
  pub clean : AreClean text

whole_is : (register : Register) (mask : ℕ) → IsThere register → mask ≡ all_bits register → IsSide (register_text register) register mask
whole_is register mask there is = record {
  side = Whole register there;
  words = λ rest e. stands_read (register_text register) rest (token.Register register) (register_stands register there) e;
  sees = λ call ok. sym (ap (bit_and (register_of register call)) is ∙ all_of_it register call there ok);
  clean = run_clean (register_text register) (register_stands register there).run;
}

masked_read : (register : Register) (bits : List ℕ) (mask : ℕ) (there : IsThere register) (is : IsMask bits mask) (rest : List ℕ)
    → read ((40 ∷ (register_text register ++ (32 ∷ 38 ∷ 32 ∷ (bits ++ (41 ∷ []))))) ++ rest) ≡ side_words (Masked register there is.factor is.factors) (read rest)
masked_read register bits mask there is rest =
    ap (λ l. read (40 ∷ l)) (append_assoc (register_text register) (32 ∷ 38 ∷ 32 ∷ (bits ++ (41 ∷ []))) rest)
    ∙ open_reads (register_text register ++ (32 ∷ 38 ∷ 32 ∷ ((bits ++ (41 ∷ [])) ++ rest)))
    ∙ ap (λ l. token.Open ∷ l)
    (stands_read (register_text register) (32 ∷ 38 ∷ 32 ∷ ((bits ++ (41 ∷ [])) ++ rest)) (token.Register register) (register_stands register there) refl
    ∙ ap (λ l. token.Register register ∷ l)
    (bits_reads ((bits ++ (41 ∷ [])) ++ rest)
    ∙ ap (λ l. token.BitAnd ∷ l)
    (ap read (append_assoc bits (41 ∷ []) rest)
    ∙ is.words (41 ∷ rest) refl
    ∙ ap (λ l. factor_words is.factor (and_words is.factors l)) (close_reads rest))))

masked_is : (register : Register) (bits : List ℕ) (mask : ℕ) → IsThere register → IsMask bits mask
    → IsSide (40 ∷ (register_text register ++ (32 ∷ 38 ∷ 32 ∷ (bits ++ (41 ∷ []))))) register mask
masked_is register bits mask there is = record {
  side = Masked register there is.factor is.factors;
  words = λ rest e. masked_read register bits mask there is rest;
  sees = λ call ok. ap (bit_and (register_of register call)) is.is;
  clean = both_clean (register_text register) (32 ∷ 38 ∷ 32 ∷ (bits ++ (41 ∷ []))) (run_clean (register_text register) (register_stands register there).run) (both_clean bits (41 ∷ []) is.clean refl);
}

pub side_is : (it : Form) (register : Register) (mask : ℕ) → IsThere register → mask < 2 ^ 64 → IsSide (bits_text it register mask) register mask
side_is it register mask there small = elim (cases_Bool (mask == all_bits register)) [
  | inl t ↦ rw t (whole_is register mask there (eqb-true mask (all_bits register) t))
  | inr f ↦ rw f (masked_is register (mask_text (mask_of it mask)) mask there (mask_is it mask small))
]

-- ---- comparisons

-- the text of a relation, with a space on each side
pub record IsRelation (text : List ℕ) (relation : Relation) : Type 0 where
  pub words : (rest : List ℕ) → read (text ++ rest) ≡ token.Compare relation ∷ read rest
  pub ends_word : (rest : List ℕ) → ends (text ++ rest) ≡ true
  pub clean : AreClean text

pub bits_first : (bits op value : List ℕ) (register : Register) (mask n : ℕ) (relation : Relation) (one : IsSide bits register mask) → IsRelation op relation
    → (other : IsValue value n) (rest : List ℕ) → ends rest ≡ true → read ((bits ++ (op ++ value)) ++ rest) ≡ comparison_words (BitsFirst one.side relation other.value) (read rest)
bits_first bits op value register mask n relation one is other rest e =
    ap read (append_assoc bits (op ++ value) rest)
    ∙ one.words ((op ++ value) ++ rest) (ap ends (append_assoc op value rest) ∙ is.ends_word (value ++ rest))
    ∙ ap (side_words one.side)
    (ap read (append_assoc op value rest)
    ∙ is.words (value ++ rest)
    ∙ ap (λ l. token.Compare relation ∷ l) (other.words rest e))

pub value_first : (value op bits : List ℕ) (register : Register) (mask n : ℕ) (relation : Relation) (one : IsValue value n) → IsRelation op relation
    → (other : IsSide bits register mask) (rest : List ℕ) → ends rest ≡ true → read ((value ++ (op ++ bits)) ++ rest) ≡ comparison_words (ValueFirst one.value relation other.side) (read rest)
value_first value op bits register mask n relation one is other rest e =
    ap read (append_assoc value (op ++ bits) rest)
    ∙ one.words ((op ++ bits) ++ rest) (ap ends (append_assoc op bits rest) ∙ is.ends_word (bits ++ rest))
    ∙ ap (value_words one.value)
    (ap read (append_assoc op bits rest)
    ∙ is.words (bits ++ rest)
    ∙ ap (λ l. token.Compare relation ∷ l) (other.words rest e))
