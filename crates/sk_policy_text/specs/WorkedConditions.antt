-- Worked examples of conditions, with blanks between all words: clone(2)'s flags, personality(2)'s numbers, flags of open(2)
-- that are left out in 32 bits and in 64, ranges, and what stands beside each other with and without brackets. On which calls
-- each holds is what C says of it (C17 6.5.3.3 to 6.5.14), with all numbers unsigned and of 64 bits.
use Rattle.std.specs.Prelude.{ℕ, ◌≡◌, ◌<◌, Bool, true, false, List, [], ◌∷◌, map, codes, refl}
use Rattle.sk_insn.specs.declared.record.Record.{Record}
use Rattle.sk_insn.specs.Record.{native}
use Rattle.sk_terms.specs.declared.term.Register.TheVariants as register
use Rattle.sk_text.specs.Lines.{words_of}
use Rattle.sk_policy_text.specs.declared.token.Relation.TheVariants as relation
use Rattle.sk_policy_text.specs.declared.token.Token.{Token}
use Rattle.sk_policy_text.specs.ConditionsTokens.{token_of}
use Rattle.sk_policy_text.specs.Conditions.{Alone, AnyOf, Factor, Plain, Complement, Side, Whole, Masked, Comparison, BitsFirst, ValueFirst, One, Range, Brackets, Last, Either, Condition, Always, Never, Some, Each, condition_words, holds_condition}

abbrev pub tokens_in : List ℕ → List Token
tokens_in text = map token_of (words_of text)

-- a call of number 1 with two arguments
abbrev pub call_with : ℕ → ℕ → Record
call_with first second = native 1 0x200000000 (first ∷ second ∷ 0 ∷ 0 ∷ 0 ∷ 0 ∷ [])

abbrev pub holds_on : Condition → ℕ → ℕ → Bool
holds_on condition first second = holds_condition condition (call_with first second)

-- ---- the conditions

abbrev pub is_0 : Side → Comparison
is_0 side = BitsFirst side relation.Is (Alone 0)

-- CLONE_NEWNS is 0x20000, CLONE_NEWUSER 0x10000000
abbrev pub namespaces : (0 < 6) → Condition
namespaces there = Some (Last (One (is_0 (Masked (register.Argument 0) there (Plain (AnyOf 0x20000 (0x10000000 ∷ []))) []))))

-- PER_LINUX32 is 8, UNAME26 0x20000
abbrev pub personality : (0 < 6) → Condition
personality there = Some (Last (One (BitsFirst (Whole (register.Argument 0) there) relation.Is (AnyOf 8 (0x20000 ∷ [])))))

-- O_CREAT is 0x40, O_TRUNC 0x200
abbrev pub all_but_two : Factor
all_but_two = Complement (AnyOf 0x40 (0x200 ∷ [])) refl

abbrev pub opens_in_32_bits : (1 < 6) → Condition
opens_in_32_bits there = Some (Last (One (is_0 (Masked (register.Argument 1) there (Plain (Alone 0xffffffff)) (all_but_two ∷ [])))))

abbrev pub opens_in_64_bits : (1 < 6) → Condition
opens_in_64_bits there = Some (Last (One (is_0 (Masked (register.Argument 1) there all_but_two []))))

abbrev pub outside : (0 < 6) → (1 < 6) → Condition
outside first second =
    let side = Whole (register.Argument 1) second in
    let below = One (BitsFirst side relation.Below (Alone 3)) in
    let above = One (ValueFirst (Alone 7) relation.Below side) in
    let alone = One (BitsFirst (Whole (register.Argument 0) first) relation.Is (Alone 5)) in
    Some (Either (Brackets (Either below (Last above))) (Last alone))

abbrev pub at_least_3 : (0 < 6) → Comparison
at_least_3 there = ValueFirst (Alone 3) relation.AtMost (Whole (register.Argument 0) there)

abbrev pub at_most_7 : (0 < 6) → Comparison
at_most_7 there = BitsFirst (Whole (register.Argument 0) there) relation.AtMost (Alone 7)

abbrev pub within : (0 < 6) → Condition
within there = Each (One (at_least_3 there)) (One (at_most_7 there)) []

abbrev pub within_or_9 : (0 < 6) → Condition
within_or_9 there =
    let side = Whole (register.Argument 0) there in
    let range = Range (Alone 3) side side (Alone 7) (record { register = refl; mask = refl }) in
    Some (Either range (Last (One (BitsFirst side relation.Is (Alone 9)))))

abbrev pub of_number : (0 < 6) → (1 < 6) → Condition
of_number first second =
    let number = One (BitsFirst (Whole register.Number tt) relation.Is (Alone 1)) in
    let not_2 = One (BitsFirst (Whole (register.Argument 0) first) relation.IsNot (Alone 2)) in
    let from_4 = One (BitsFirst (Whole (register.Argument 1) second) relation.AtLeast (Alone 4)) in
    Each number (Brackets (Either not_2 (Last from_4))) []

abbrev pub below_it : Condition
below_it = Some (Last (One (ValueFirst (Alone 0x200000000) relation.Above (Whole register.Pointer tt))))

abbrev pub above_half : (0 < 6) → Condition
above_half there = Some (Last (One (BitsFirst (Whole (register.Argument 0) there) relation.Above (Alone 0x7fffffffffffffff))))

-- ---- what they are written as

pub record ConditionsAreWritten (a : 0 < 6) (b : 1 < 6) : Type 0 where
  pub always : tokens_in (codes "1") ≡ condition_words Always
  pub never : tokens_in (codes "0") ≡ condition_words Never
  pub clone : tokens_in (codes "( args[0] & ( CLONE_NEWNS | CLONE_NEWUSER ) ) == 0") ≡ condition_words (namespaces a)
  pub persona : tokens_in (codes "args[0] == ( PER_LINUX32 | UNAME26 )") ≡ condition_words (personality a)
  pub lower : tokens_in (codes "( args[1] & 0xffffffff & ~ ( O_CREAT | O_TRUNC ) ) == 0") ≡ condition_words (opens_in_32_bits b)
  pub all : tokens_in (codes "( args[1] & ~ ( O_CREAT | O_TRUNC ) ) == 0") ≡ condition_words (opens_in_64_bits b)
  pub beyond : tokens_in (codes "( args[1] < 0x3 || 0x7 < args[1] ) || args[0] == 5") ≡ condition_words (outside a b)
  pub range : tokens_in (codes "0x3 <= args[0] && args[0] <= 0x7") ≡ condition_words (within a)
  pub range_beside : tokens_in (codes "( 0x3 <= args[0] && args[0] <= 0x7 ) || args[0] == 9") ≡ condition_words (within_or_9 a)
  pub number : tokens_in (codes "nr == 1 && ( args[0] != 2 || args[1] >= 4 )") ≡ condition_words (of_number a b)
  pub pointer : tokens_in (codes "0x200000000 > ip") ≡ condition_words below_it
  pub half : tokens_in (codes "args[0] > 0x7fffffffffffffff") ≡ condition_words (above_half a)

-- ---- on which calls they hold

abbrev pub first_of_call : Condition → List ℕ → List Bool
first_of_call condition numbers = map (λ n. holds_on condition n 0) numbers

abbrev pub second_of_call : Condition → List ℕ → List Bool
second_of_call condition numbers = map (λ n. holds_on condition 0 n) numbers

pub record ConditionsHold (a : 0 < 6) (b : 1 < 6) : Type 0 where
  pub always : holds_on Always 0 0 ≡ true
  pub never : holds_on Never 0 0 ≡ false
  pub clone : first_of_call (namespaces a) (0 ∷ 0x10000011 ∷ 0x20000 ∷ 0x80000011 ∷ []) ≡ true ∷ false ∷ false ∷ true ∷ []
  pub persona : first_of_call (personality a) (0x20008 ∷ 8 ∷ 0x120008 ∷ []) ≡ true ∷ false ∷ false ∷ []
  pub lower : second_of_call (opens_in_32_bits b) (0x240 ∷ 0x500000240 ∷ 0x241 ∷ []) ≡ true ∷ true ∷ false ∷ []
  pub all : second_of_call (opens_in_64_bits b) (0x240 ∷ 0x500000240 ∷ 0x241 ∷ []) ≡ true ∷ false ∷ false ∷ []
  pub beyond : second_of_call (outside a b) (5 ∷ 2 ∷ 3 ∷ 7 ∷ 8 ∷ []) ≡ false ∷ true ∷ false ∷ false ∷ true ∷ []
  pub beyond_or_5 : holds_on (outside a b) 5 5 ≡ true
  pub range : first_of_call (within a) (2 ∷ 3 ∷ 7 ∷ 8 ∷ 9 ∷ []) ≡ false ∷ true ∷ true ∷ false ∷ false ∷ []
  pub range_beside : first_of_call (within_or_9 a) (2 ∷ 3 ∷ 7 ∷ 8 ∷ 9 ∷ []) ≡ false ∷ true ∷ true ∷ false ∷ true ∷ []
  pub number : map (λ n. holds_on (of_number a b) 2 n) (0 ∷ 3 ∷ 4 ∷ []) ≡ false ∷ false ∷ true ∷ []
  pub other_number : holds_on (of_number a b) 3 3 ≡ true
  pub pointer : holds_on below_it 0 0 ≡ false
  pub half : first_of_call (above_half a) (0xffffffffffffffff ∷ 0x7fffffffffffffff ∷ []) ≡ true ∷ false ∷ []

pub record ConditionsWork : Type 0 where
  pub written : (a : 0 < 6) (b : 1 < 6) → ConditionsAreWritten a b
  pub hold : (a : 0 < 6) (b : 1 < 6) → ConditionsHold a b
