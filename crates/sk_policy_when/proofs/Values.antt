-- Groups of parts and masks are read as their numbers.
use Rattle.std.proofs.Common.{◌≡◌, ◌<◌, ◌^◌, ◌∙◌, ap, arith, sym, refl, ℕ, List, [], ◌∷◌, ◌++◌, length, map, codes, flat_map, true, bit_or, append_assoc}
use Rattle.std.proofs.lemmas.Nat.{le_or_l, le_or_r}
use Rattle.std.specs.Int.Bits.{or_zero_r}
use Rattle.sk_terms.specs.declared.constants.Part.{Part}
use Rattle.sk_terms.specs.Constants.{bits_of, value}
use Rattle.sk_terms.specs.Text.{group_text, part_text, parts_text}
use Rattle.sk_terms.proofs.Parts.{or_assoc}
use Rattle.sk_policy_text.specs.declared.token.Token.{Token}
use Rattle.sk_policy_text.specs.declared.token.Token.TheVariants as token
use Rattle.sk_policy_text.specs.Conditions.{Value, Alone, AnyOf, or_words, value_of, value_words, with_bits}
use Rattle.sk_policy_when.specs.Written.{read}
use Rattle.sk_policy_when.proofs.Cutting.{AreClean, both_clean, run_clean, bar_reads, close_reads, ends, open_reads, run_reads}
use Rattle.sk_policy_when.proofs.Named.{Stands, part_stands}

-- ---- words that stand for numbers

pub stands_read : (word rest : List ℕ) (for : Token) → Stands word for → ends rest ≡ true → read (word ++ rest) ≡ for ∷ read rest
stands_read word rest for is e = run_reads word rest is.run e ∙ ap (λ t. t ∷ read rest) is.token

-- ---- parts

-- each part has 64 bits
abbrev pub AreSmall : List Part → Type 0
AreSmall [] = Unit {0}
AreSmall (it ∷ parts) = (value it < 2 ^ 64) × AreSmall parts

abbrev barred : Part → List ℕ
barred it = codes "|" ++ part_text it

ends_barred : (parts : List Part) (rest : List ℕ) → ends rest ≡ true → ends (flat_map barred parts ++ rest) ≡ true
ends_barred [] rest e = e
ends_barred (it ∷ parts) rest e = refl

others_read : (parts : List Part) (rest : List ℕ) → AreSmall parts → ends rest ≡ true → read (flat_map barred parts ++ rest) ≡ or_words (map value parts) (read rest)
others_read [] rest small e = refl
others_read (it ∷ parts) rest small e =
    let stands = part_stands it small.0 in
    let behind = ends_barred parts rest e in
    ap (λ l. read (124 ∷ l)) (append_assoc (part_text it) (flat_map barred parts) rest)
    ∙ bar_reads (part_text it) (flat_map barred parts ++ rest) stands.run
    ∙ ap (λ l. token.BitOr ∷ l)
    (stands_read (part_text it) (flat_map barred parts ++ rest) (token.Number (value it)) stands behind
    ∙ ap (λ l. token.Number (value it) ∷ l) (others_read parts rest small.1 e))

parts_read : (it : Part) (parts : List Part) (rest : List ℕ) → AreSmall (it ∷ parts) → ends rest ≡ true
    → read (parts_text (it ∷ parts) ++ rest) ≡ token.Number (value it) ∷ or_words (map value parts) (read rest)
parts_read it parts rest small e =
    let stands = part_stands it small.0 in
    ap read (append_assoc (part_text it) (flat_map barred parts) rest)
    ∙ stands_read (part_text it) (flat_map barred parts ++ rest) (token.Number (value it)) stands (ends_barred parts rest e)
    ∙ ap (λ l. token.Number (value it) ∷ l) (others_read parts rest small.1 e)

others_clean : (parts : List Part) → AreSmall parts → AreClean (flat_map barred parts)
others_clean [] small = refl
others_clean (it ∷ parts) small = both_clean (part_text it) (flat_map barred parts) (run_clean (part_text it) (part_stands it small.0).run) (others_clean parts small.1)

parts_clean : (it : Part) (parts : List Part) → AreSmall (it ∷ parts) → AreClean (parts_text (it ∷ parts))
parts_clean it parts small = both_clean (part_text it) (flat_map barred parts) (run_clean (part_text it) (part_stands it small.0).run) (others_clean parts small.1)

-- ---- what they are together

with_all : (bits : ℕ) (parts : List Part) → with_bits bits (map value parts) ≡ bit_or bits (bits_of parts)
with_all bits [] = sym (or_zero_r bits)
with_all bits (it ∷ parts) = with_all (bit_or bits (value it)) parts ∙ or_assoc bits (value it) (bits_of parts)

pub all_small : (parts : List Part) → bits_of parts < 2 ^ 64 → AreSmall parts
all_small [] small = tt
all_small (it ∷ parts) small =
    let left = le_or_l (value it) (bits_of parts) in
    let right = le_or_r (value it) (bits_of parts) in
    (omega (arith, left, small), all_small parts (omega (arith, right, small)))

-- ---- groups

-- a text is a value
pub record IsValue (text : List ℕ) (n : ℕ) : Type 0 where
  pub value : Value
  pub words : (rest : List ℕ) → ends rest ≡ true → read (text ++ rest) ≡ value_words value (read rest)
  pub is : value_of value ≡ n
  pub clean : AreClean text

pub number_is : (word : List ℕ) (n : ℕ) → Stands word (token.Number n) → IsValue word n
number_is word n stands = record { value = Alone n; words = λ rest e. stands_read word rest (token.Number n) stands e; is = refl; clean = run_clean word stands.run }

brackets_read : (it other : Part) (parts : List Part) (rest : List ℕ) → AreSmall (it ∷ other ∷ parts) → ends rest ≡ true
    → read (group_text (it ∷ other ∷ parts) ++ rest) ≡ value_words (AnyOf (value it) (map value (other ∷ parts))) (read rest)
brackets_read it other parts rest small e =
    ap (λ l. read (40 ∷ l)) (append_assoc (parts_text (it ∷ other ∷ parts)) (41 ∷ []) rest)
    ∙ open_reads (parts_text (it ∷ other ∷ parts) ++ (41 ∷ rest))
    ∙ ap (λ l. token.Open ∷ l)
    (parts_read it (other ∷ parts) (41 ∷ rest) small refl
    ∙ ap (λ l. token.Number (value it) ∷ or_words (map value (other ∷ parts)) l) (close_reads rest))

-- one part or more are what they are together
pub group_is : (parts : List Part) (n : ℕ) → 0 < length parts → bits_of parts ≡ n → n < 2 ^ 64 → IsValue (group_text parts) n
group_is [] n some is small = absurd (omega (arith, some))
group_is (it ∷ []) n some is small =
    let each = all_small (it ∷ []) (omega (arith, is, small)) in
    record {
      value = Alone (value it);
      words = λ rest e. stands_read (part_text it) rest (token.Number (value it)) (part_stands it each.0) e;
      is = sym (or_zero_r (value it)) ∙ is;
      clean = run_clean (part_text it) (part_stands it each.0).run;
    }
group_is (it ∷ other ∷ parts) n some is small =
    let each = all_small (it ∷ other ∷ parts) (omega (arith, is, small)) in
    record {
      value = AnyOf (value it) (map value (other ∷ parts));
      words = λ rest e. brackets_read it other parts rest each e;
      is = with_all (value it) (other ∷ parts) ∙ is;
      clean = both_clean (parts_text (it ∷ other ∷ parts)) (41 ∷ []) (parts_clean it (other ∷ parts) each) refl;
    }
