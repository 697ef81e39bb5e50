-- Masks are read as their bits.
use Rattle.std.proofs.Common.{◌≡◌, ◌<◌, ◌-◌, ◌^◌, ◌==◌, ◌&&◌, ◌||◌, ◌∙◌, ap, arith, sym, refl, ℕ, List, [], ◌∷◌, ◌++◌, length, codes, nat_lt, not, if◌then◌else◌, Bool, true, false, bit_and, bit_xor}
use Rattle.std.specs.Cmp.{second_so}
use Rattle.std.specs.Int.Bits.{or_zero_r}
use Rattle.std.specs.Int.Count.{ones_in}
use Rattle.std.proofs.lemmas.Bool.{and_parts, lt-ltb, ltb-true}
use Rattle.sk_arguments.specs.declared.forms.Form.{Form}
use Rattle.sk_arguments.specs.declared.forms.Form.TheVariants as form
use Rattle.sk_terms.specs.declared.constants.Part.{Part}
use Rattle.sk_terms.specs.declared.constants.Part.TheVariants as piece
use Rattle.sk_terms.specs.Constants.{Mask, some_of, all_but, lower_but, are_constants, bits_of, can_be_left_out, complement, constants_of, is_unsigned, is_whole, lies_in, mask_of, mask_value, named, parts_of, with_rest}
use Rattle.sk_terms.specs.Text.{group_text, mask_text}
use Rattle.sk_terms.proofs.Parts.{masks_read_back, parts_read_back}
use Rattle.sk_policy_text.specs.declared.token.Token.TheVariants as token
use Rattle.sk_policy_text.specs.Conditions.{Factor, Plain, Complement, Alone, and_words, factor_of, factor_words, masked_by, value_of}
use Rattle.sk_policy_when.specs.Written.{read}
use Rattle.sk_policy_when.proofs.Cutting.{AreClean, bits_reads, ends, not_reads}
use Rattle.sk_policy_when.proofs.Named.{lower_half_stands}
use Rattle.sk_policy_when.proofs.Values.{IsValue, group_is, stands_read}

-- ---- a number has parts

rest_some : (n : ℕ) (parts : List Part) → 0 < length (with_rest n parts)
rest_some n [] = omega arith
rest_some n (it ∷ parts) = by_tests (length (it ∷ parts) == 0 || nat_lt (length (it ∷ parts)) (ones_in 64 (bit_xor n (bits_of (it ∷ parts))))) (bit_xor n (bits_of (it ∷ parts)) == 0)
  where
    by_tests : (a b : Bool)
        → 0 < length (if a then piece.Number n ∷ [] else (if b then it ∷ parts else (it ∷ parts) ++ (piece.Number (bit_xor n (bits_of (it ∷ parts))) ∷ [])))
    by_tests true b = omega arith
    by_tests false true = omega arith
    by_tests false false = omega arith

pub parts_some : (it : Form) (mask n : ℕ) → 0 < length (parts_of it mask n)
parts_some form.Plain mask n = omega arith
parts_some (form.One set) mask n = by_test (is_whole mask)
  where
    by_test : (b : Bool) → 0 < length (if b then named set n ∷ [] else piece.Number n ∷ [])
    by_test true = omega arith
    by_test false = omega arith
parts_some (form.Bits set field) mask n = by_test (lies_in n mask)
  where
    by_test : (b : Bool) → 0 < length (if b then with_rest n (constants_of set field mask n) else piece.Number n ∷ [])
    by_test true = rest_some n (constants_of set field mask n)
    by_test false = omega arith

-- ---- masks that are written

-- the bits that a complement leaves out are those of an int
abbrev IsRight : Mask → Type 0
IsRight (some_of parts) = (0 < length parts) × (bits_of parts < 2 ^ 64)
IsRight (all_but parts) = (0 < length parts) × (bits_of parts < 2 ^ 31)
IsRight (lower_but parts) = (0 < length parts) × (bits_of parts < 2 ^ 31)

left_out_small : (it : Form) (bits : ℕ) → can_be_left_out it bits ≡ true → bits < 2 ^ 31
left_out_small it bits e = ltb-true bits (2 ^ 31) (and_parts (nat_lt bits (2 ^ 31)) (are_constants (parts_of it bits bits)) e).0

number_right : (n : ℕ) → n < 2 ^ 64 → IsRight (some_of (piece.Number n ∷ []))
number_right n small = let same = or_zero_r n in (omega arith, omega (arith, same, small))

parts_right : (it : Form) (mask n : ℕ) → n < 2 ^ 64 → IsRight (some_of (parts_of it mask n))
parts_right it mask n small = let same = parts_read_back it mask n in (parts_some it mask n, omega (arith, same, small))

small_right : (it : Form) (n : ℕ) → can_be_left_out it n ≡ true → (0 < length (parts_of it n n)) × (bits_of (parts_of it n n) < 2 ^ 31)
small_right it n e = let same = parts_read_back it n n in let small = left_out_small it n e in (parts_some it n n, omega (arith, same, small))

mask_right : (it : Form) (mask : ℕ) → mask < 2 ^ 64 → IsRight (mask_of it mask)
mask_right it mask small =
    by_tests (mask == 0xffffffff || mask == 0xffffffff00000000) (are_constants (parts_of it mask mask)) (not (is_unsigned it) && can_be_left_out it (2 ^ 64 - 1 - mask))
    (nat_lt mask (2 ^ 32) && can_be_left_out it (2 ^ 32 - 1 - mask)) refl refl where
      by_tests : (a b c d : Bool) → (not (is_unsigned it) && can_be_left_out it (2 ^ 64 - 1 - mask)) ≡ c → (nat_lt mask (2 ^ 32) && can_be_left_out it (2 ^ 32 - 1 - mask)) ≡ d
          → IsRight (if a then some_of (piece.Number mask ∷ [])
          else (if b then some_of (parts_of it mask mask)
          else (if c then all_but (parts_of it (2 ^ 64 - 1 - mask) (2 ^ 64 - 1 - mask))
          else (if d then lower_but (parts_of it (2 ^ 32 - 1 - mask) (2 ^ 32 - 1 - mask)) else some_of (parts_of it mask mask)))))
      by_tests true b c d of_c of_d = number_right mask small
      by_tests false true c d of_c of_d = parts_right it mask mask small
      by_tests false false true d of_c of_d = small_right it (2 ^ 64 - 1 - mask) (second_so (not (is_unsigned it)) (can_be_left_out it (2 ^ 64 - 1 - mask)) of_c)
      by_tests false false false true of_c of_d = small_right it (2 ^ 32 - 1 - mask) (second_so (nat_lt mask (2 ^ 32)) (can_be_left_out it (2 ^ 32 - 1 - mask)) of_d)
      by_tests false false false false of_c of_d = parts_right it mask mask small

-- ---- what they are read as

-- a text is one factor or more
pub record IsMask (text : List ℕ) (mask : ℕ) : Type 0 where
  pub factor : Factor
  pub factors : List Factor
  pub words : (rest : List ℕ) → ends rest ≡ true → read (text ++ rest) ≡ factor_words factor (and_words factors (read rest))
  pub is : masked_by (factor_of factor) factors ≡ mask
  pub clean : AreClean text

complement_small : (n : ℕ) → n < 2 ^ 31 → complement n ≡ 2 ^ 64 - 1 - n
complement_small n small = let t = lt-ltb n (2 ^ 31) small in ap (λ b. if b then 2 ^ 64 - 1 - n else 2 ^ 32 - 1 - n) t

small_value : {text : List ℕ} {n : ℕ} (it : IsValue text n) → n < 2 ^ 31 → nat_lt (value_of it.value) (2 ^ 31) ≡ true
small_value it small = lt-ltb (value_of it.value) (2 ^ 31) (omega (arith, it.is, small))

right_is : (it : Mask) → IsRight it → IsMask (mask_text it) (mask_value it)
right_is (some_of parts) right =
    let value = group_is parts (bits_of parts) right.0 refl right.1 in
    record { factor = Plain value.value; factors = []; words = value.words; is = value.is; clean = value.clean }
right_is (all_but parts) right =
    let value = group_is parts (bits_of parts) right.0 refl (omega (arith, right.1)) in
    record {
      factor = Complement value.value (small_value value right.1);
      factors = [];
      words = λ rest e. not_reads (group_text parts ++ rest) ∙ ap (λ l. token.BitNot ∷ l) (value.words rest e);
      is = ap (λ n. 2 ^ 64 - 1 - n) value.is ∙ sym (complement_small (bits_of parts) right.1);
      clean = value.clean;
    }
right_is (lower_but parts) right =
    let value = group_is parts (bits_of parts) right.0 refl (omega (arith, right.1)) in
    record {
      factor = Plain (Alone 0xffffffff);
      factors = Complement value.value (small_value value right.1) ∷ [];
      words = λ rest e.
          stands_read (codes "0xffffffff") (32 ∷ 38 ∷ 32 ∷ 126 ∷ (group_text parts ++ rest)) (token.Number 0xffffffff) lower_half_stands refl
          ∙ ap (λ l. token.Number 0xffffffff ∷ l)
          (bits_reads (126 ∷ (group_text parts ++ rest))
          ∙ ap (λ l. token.BitAnd ∷ l) (not_reads (group_text parts ++ rest) ∙ ap (λ l. token.BitNot ∷ l) (value.words rest e)));
      is = ap (bit_and 0xffffffff) (ap (λ n. 2 ^ 64 - 1 - n) value.is ∙ sym (complement_small (bits_of parts) right.1));
      clean = value.clean;
    }

pub mask_is : (it : Form) (mask : ℕ) → mask < 2 ^ 64 → IsMask (mask_text (mask_of it mask)) mask
mask_is it mask small =
    let read = right_is (mask_of it mask) (mask_right it mask small) in
    record { factor = read.factor; factors = read.factors; words = read.words; is = read.is ∙ masks_read_back it mask small; clean = read.clean }
