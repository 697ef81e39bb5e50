-- The parts of a number, and masks: what they are together.
use Rattle.std.proofs.Common.{◌≡◌, ℕ, zero, suc, ◌+◌, ◌-◌, ◌/◌, ◌%◌, ◌*◌, ◌^◌, ◌<◌, ◌==◌, ◌&&◌, ◌||◌, not, nat_lt, Bool, true, false, if◌then◌else◌, List, [], ◌∷◌, ◌++◌, length, map, drop, get_or, Option, None, Some, is_some, bit_and, bit_or, bit_xor, sym, ap, ◌∙◌, refl, subst, eqb-true, add-one, drop-cons, arith}
use Rattle.std.specs.Cmp.{first_so, second_so}
use Rattle.std.specs.Int.Bits.{and_self, and_zero_l, or_zero_l, or_zero_r}
use Rattle.std.specs.Int.Count.{ones, ones_in, ones_step}
use Rattle.std.proofs.Math.Nat.{pow-suc}
use Rattle.std.proofs.lemmas.Nat.{and_comm, and_mask, and_assoc}
use Rattle.std.proofs.lemmas.Nat.Bits.{same_from_bits, bit_at_and, bit_at_or, bit_at_xor, bit_at-lt}
use Rattle.std.proofs.lemmas.Bool.Decides.{nat_tests}
use Rattle.std.specs.Int.{bit_at}
use Rattle.sk_arguments.specs.Constants.{name_in, numbers_of}
use Rattle.sk_arguments.specs.declared.constants.Set.{Set}
use Rattle.sk_arguments.specs.declared.forms.Field.{Field}
use Rattle.sk_arguments.specs.declared.forms.Form.{Form}
use Rattle.sk_arguments.specs.declared.forms.Form.TheVariants as form
use Rattle.sk_terms.specs.declared.constants.Part.{Part}
use Rattle.sk_terms.specs.declared.constants.Part.TheVariants.{Constant, Number}
use Rattle.sk_terms.specs.Constants.{some_of, all_but, lower_but, are_constants, bits_of, can_be_left_out, complement, constants_of, field_bits, field_part, is_unsigned, is_whole, lies_in, mask_value, named, parts_of, taken, value, with_rest, PartsReadBack, MasksReadBack}

-- ---- bits

pub or_assoc : (a b c : ℕ) → bit_or (bit_or a b) c ≡ bit_or a (bit_or b c)
or_assoc a b c =
    same_from_bits (bit_or (bit_or a b) c) (bit_or a (bit_or b c)) (λ i.
    let d = bit_at_or (bit_or a b) c i in
    let e = bit_at_or a b i in
    let f = bit_at_or a (bit_or b c) i in
    let g = bit_at_or b c i in
    omega (arith, d, e, f, g))

-- bits that lie in others
abbrev pub LiesIn : ℕ → ℕ → Type 0
LiesIn bits others = bit_and bits others ≡ bits

both_lie : (a b n : ℕ) → LiesIn a n → LiesIn b n → LiesIn (bit_or a b) n
both_lie a b n of_a of_b =
    same_from_bits (bit_and (bit_or a b) n) (bit_or a b) (λ i.
    let c = bit_at_and (bit_or a b) n i in
    let d = bit_at_or a b i in
    let e = sym (bit_at_and a n i) ∙ ap (λ x. bit_at x i) of_a in
    let f = sym (bit_at_and b n i) ∙ ap (λ x. bit_at x i) of_b in
    omega (arith, c, d, e, f))

less_lies : (c rest : ℕ) → LiesIn c rest → LiesIn (bit_xor rest c) rest
less_lies c rest of_c =
    same_from_bits (bit_and (bit_xor rest c) rest) (bit_xor rest c) (λ i.
    let d = bit_at_and (bit_xor rest c) rest i in
    let e = bit_at_xor rest c i in
    let f = sym (bit_at_and c rest i) ∙ ap (λ x. bit_at x i) of_c in
    let g = bit_at-lt rest i in
    let h = bit_at-lt c i in
    omega (arith, d, e, f, g, h))

deeper : (a b c : ℕ) → LiesIn a b → LiesIn b c → LiesIn a c
deeper a b c inner outer =
    ap (λ x. bit_and x c) (sym inner) ∙ and_assoc c a b ∙ ap (bit_and a) outer ∙ inner

masked_lies : (n m : ℕ) → LiesIn (bit_and n m) n
masked_lies n m =
    same_from_bits (bit_and (bit_and n m) n) (bit_and n m) (λ i.
    let d = bit_at_and (bit_and n m) n i in
    let e = bit_at_and n m i in
    omega (arith, d, e))

whole_again : (b n : ℕ) → LiesIn b n → bit_or b (bit_xor n b) ≡ n
whole_again b n of_b =
    same_from_bits (bit_or b (bit_xor n b)) n (λ i.
    let d = bit_at_or b (bit_xor n b) i in
    let e = bit_at_xor n b i in
    let f = sym (bit_at_and b n i) ∙ ap (λ x. bit_at x i) of_b in
    let g = bit_at-lt n i in
    let h = bit_at-lt b i in
    omega (arith, d, e, f, g, h))

-- ---- parts

-- each part lies in a number
abbrev pub LieIn : List Part → ℕ → Type 0
LieIn [] n = Unit {0}
LieIn (part ∷ parts) n = LiesIn (value part) n × LieIn parts n

all_lie : (parts : List Part) (n : ℕ) → LieIn parts n → LiesIn (bits_of parts) n
all_lie [] n lie = refl
all_lie (part ∷ parts) n lie = both_lie (value part) (bits_of parts) n lie.0 (all_lie parts n lie.1)

lie_together : (parts others : List Part) (n : ℕ) → LieIn parts n → LieIn others n → LieIn (parts ++ others) n
lie_together [] others n lie too = too
lie_together (part ∷ parts) others n lie too = (lie.0, lie_together parts others n lie.1 too)

bits_together : (parts others : List Part) → bits_of (parts ++ others) ≡ bit_or (bits_of parts) (bits_of others)
bits_together [] others = sym (or_zero_l (bits_of others))
bits_together (part ∷ parts) others = ap (bit_or (value part)) (bits_together parts others) ∙ sym (or_assoc (value part) (bits_of parts) (bits_of others))

value_named : (set : Set) (n : ℕ) → value (named set n) ≡ n
value_named set n = by_name (is_some (name_in set n)) where
  by_name : (b : Bool) → value (if b then Constant set n else Number n) ≡ n
  by_name true = refl
  by_name false = refl

named_lies : (set : Set) (n bits : ℕ) → LiesIn bits n → LiesIn (value (named set bits)) n
named_lies set n bits lies = subst (λ (x : ℕ). LiesIn x n) (sym (value_named set bits)) lies

taken_lie : (set : Set) (numbers : List ℕ) (rest n : ℕ) → LiesIn rest n → LieIn (map (named set) (taken numbers rest)) n
taken_lie set [] rest n lies = tt
taken_lie set (c ∷ numbers) rest n lies =
    by_test (nat_lt 0 c && lies_in c rest) refl (λ less of_less. taken_lie set numbers less n (deeper less rest n of_less lies)) where
      by_test : (b : Bool) → (nat_lt 0 c && lies_in c rest) ≡ b → ((less : ℕ) → LiesIn less rest → LieIn (map (named set) (taken numbers less)) n)
          → LieIn (map (named set) ((if b then c ∷ [] else []) ++ taken numbers (if b then bit_xor rest c else rest))) n
      by_test false e others = others rest (and_self rest)
      by_test true e others =
          let of_rest : LiesIn c rest = eqb-true (bit_and c rest) c (second_so (nat_lt 0 c) (lies_in c rest) e) in
          (named_lies set n c (deeper c rest n of_rest lies), others (bit_xor rest c) (less_lies c rest of_rest))

field_lies : (field : Option Field) (mask n : ℕ) → LieIn (field_part field mask n) n
field_lies None mask n = tt
field_lies (Some it) mask n =
    by_test (lies_in it.mask mask && (nat_lt 0 (bit_and n it.mask) || mask == it.mask) && is_some (name_in it.values (bit_and n it.mask))) where
      by_test : (b : Bool) → LieIn (if b then Constant it.values (bit_and n it.mask) ∷ [] else []) n
      by_test true = (masked_lies n it.mask, tt)
      by_test false = tt

outside_lies : (field : Option Field) (n : ℕ) → LiesIn (bit_xor n (field_bits field n)) n
outside_lies None n = less_lies 0 n (and_zero_l n)
outside_lies (Some it) n = less_lies (bit_and n it.mask) n (masked_lies n it.mask)

constants_lie : (set : Set) (field : Option Field) (mask n : ℕ) → LieIn (constants_of set field mask n) n
constants_lie set field mask n =
    lie_together (field_part field mask n) (map (named set) (taken (numbers_of set) (bit_xor n (field_bits field n)))) n
    (field_lies field mask n)
    (taken_lie set (numbers_of set) (bit_xor n (field_bits field n)) n (outside_lies field n))

rest_reads : (n : ℕ) (parts : List Part) → LieIn parts n → bits_of (with_rest n parts) ≡ n
rest_reads n parts lie =
    by_tests (length parts == 0 || nat_lt (length parts) (ones_in 64 (bit_xor n (bits_of parts)))) (bit_xor n (bits_of parts) == 0) refl where
      whole : bit_or (bits_of parts) (bit_xor n (bits_of parts)) ≡ n
      whole = whole_again (bits_of parts) n (all_lie parts n lie)

      by_tests : (a b : Bool) → (bit_xor n (bits_of parts) == 0) ≡ b
          → bits_of (if a then Number n ∷ [] else (if b then parts else parts ++ (Number (bit_xor n (bits_of parts)) ∷ []))) ≡ n
      by_tests true b e = or_zero_r n
      by_tests false true e =
          sym (or_zero_r (bits_of parts)) ∙ ap (bit_or (bits_of parts)) (sym (eqb-true (bit_xor n (bits_of parts)) 0 e)) ∙ whole
      by_tests false false e =
          bits_together parts (Number (bit_xor n (bits_of parts)) ∷ [])
          ∙ ap (bit_or (bits_of parts)) (or_zero_r (bit_xor n (bits_of parts)))
          ∙ whole

pub parts_read_back : PartsReadBack
parts_read_back form.Plain mask n = or_zero_r n
parts_read_back (form.One set) mask n = by_test (is_whole mask) where
  by_test : (b : Bool) → bits_of (if b then named set n ∷ [] else Number n ∷ []) ≡ n
  by_test true = or_zero_r (value (named set n)) ∙ value_named set n
  by_test false = or_zero_r n
parts_read_back (form.Bits set field) mask n = by_test (lies_in n mask) where
  by_test : (b : Bool) → bits_of (if b then with_rest n (constants_of set field mask n) else Number n ∷ []) ≡ n
  by_test true = rest_reads n (constants_of set field mask n) (constants_lie set field mask n)
  by_test false = or_zero_r n

-- ---- what the code does with them

-- the bits of a number are among its lowest ones
ones_below : (places n : ℕ) → n < 2 ^ places → ones n ≡ ones_in places n
unfolding ones ones_in
ones_below zero n fits = let none : n ≡ 0 = omega arith in ap ones none
ones_below (suc places) n fits =
    let twice : 2 ^ suc places ≡ 2 ^ places * 2 = pow-suc 2 places in
    let half : n / 2 < 2 ^ places = omega (arith, twice) in
    ones_step n ∙ ap (λ x. n % 2 + x) (ones_below places (n / 2) half)

pub ones_of_word : (n : ℕ) → n < 2 ^ 64 → ones n ≡ ones_in 64 n
ones_of_word n fits = ones_below 64 n fits

pub takes : (set : Set) (c rest : ℕ) (more : List ℕ) → taken (c ∷ more) rest ≡ (if nat_lt 0 c && lies_in c rest then c ∷ [] else []) ++ taken more (if nat_lt 0 c && lies_in c rest then bit_xor rest c else rest)
takes set c rest more = refl

pub one_or : (bits : ℕ) (parts : List Part) (i : ℕ) (part : Part) (n : ℕ) → i < length parts → n ≡ value (get_or parts i part) → bit_or bits (bits_of (drop i parts)) ≡ bits_of parts
    → bit_or (bit_or bits n) (bits_of (drop (i + 1) parts)) ≡ bits_of parts
one_or bits parts i part n within is kept =
    or_assoc bits n (bits_of (drop (i + 1) parts))
    ∙ ap (λ x. bit_or bits (bit_or x (bits_of (drop (i + 1) parts)))) is
    ∙ ap (λ j. bit_or bits (bit_or (value (get_or parts i part)) (bits_of (drop j parts)))) (add-one i)
    ∙ ap (λ ps. bit_or bits (bits_of ps)) (sym (drop-cons parts i part within))
    ∙ kept

-- ---- masks

left_out_small : (it : Form) (bits : ℕ) → can_be_left_out it bits ≡ true → bits < 2 ^ 31
left_out_small it bits e = let small = first_so (nat_lt bits (2 ^ 31)) (are_constants (parts_of it bits bits)) e in grind (arith, nat_tests, small)

complemented : (it : Form) (bits : ℕ) → bits < 2 ^ 31 → complement (bits_of (parts_of it bits bits)) ≡ 2 ^ 64 - 1 - bits
complemented it bits small =
    let int : nat_lt bits (2 ^ 31) ≡ true = grind (arith, nat_tests) in
    ap complement (parts_read_back it bits bits) ∙ ap (λ b. if b then 2 ^ 64 - 1 - bits else 2 ^ 32 - 1 - bits) int

pub masks_read_back : MasksReadBack
masks_read_back it mask fits =
    by_tests (mask == 0xffffffff || mask == 0xffffffff00000000) (are_constants (parts_of it mask mask)) (not (is_unsigned it) && can_be_left_out it (2 ^ 64 - 1 - mask))
    (nat_lt mask (2 ^ 32) && can_be_left_out it (2 ^ 32 - 1 - mask)) refl refl where
      by_tests : (a b c d : Bool) → (not (is_unsigned it) && can_be_left_out it (2 ^ 64 - 1 - mask)) ≡ c → (nat_lt mask (2 ^ 32) && can_be_left_out it (2 ^ 32 - 1 - mask)) ≡ d
          → mask_value (if a then some_of (Number mask ∷ [])
          else (if b then some_of (parts_of it mask mask)
          else (if c then all_but (parts_of it (2 ^ 64 - 1 - mask) (2 ^ 64 - 1 - mask))
          else (if d then lower_but (parts_of it (2 ^ 32 - 1 - mask) (2 ^ 32 - 1 - mask)) else some_of (parts_of it mask mask))))) ≡ mask
      by_tests true b c d of_c of_d = or_zero_r mask
      by_tests false true c d of_c of_d = parts_read_back it mask mask
      by_tests false false true d of_c of_d =
          let value = complemented it (2 ^ 64 - 1 - mask) (left_out_small it (2 ^ 64 - 1 - mask) (second_so (not (is_unsigned it)) (can_be_left_out it (2 ^ 64 - 1 - mask)) of_c)) in omega (arith, value, fits)
      by_tests false false false true of_c of_d =
          let in_half = first_so (nat_lt mask (2 ^ 32)) (can_be_left_out it (2 ^ 32 - 1 - mask)) of_d in
          let half : mask < 2 ^ 32 = grind (arith, nat_tests, in_half) in
          let value = complemented it (2 ^ 32 - 1 - mask) (left_out_small it (2 ^ 32 - 1 - mask) (second_so (nat_lt mask (2 ^ 32)) (can_be_left_out it (2 ^ 32 - 1 - mask)) of_d)) in
          ap (bit_and 0xffffffff) value
          ∙ and_comm 0xffffffff (2 ^ 64 - 1 - (2 ^ 32 - 1 - mask))
          ∙ and_mask (2 ^ 64 - 1 - (2 ^ 32 - 1 - mask)) 32
          ∙ omega (arith, half)
      by_tests false false false false of_c of_d = parts_read_back it mask mask
