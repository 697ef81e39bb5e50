-- How conditions are written, and what they say: expressions of C over unsigned numbers of 64 bits, in which `&&` and `||`
-- stand beside each other only with brackets. The words of each part are told with those that stand behind it.
use Rattle.std.specs.Prelude.{ℕ, ◌≡◌, ◌==◌, ◌-◌, ◌^◌, ◌&&◌, ◌||◌, not, nat_le, nat_lt, Bool, true, false, List, [], ◌∷◌, bit_and, bit_or}
use Rattle.std.specs.List.{list_all}
use Rattle.sk_insn.specs.declared.record.Record.{Record}
use Rattle.sk_terms.specs.declared.term.Register.{Register}
use Rattle.sk_terms.specs.Expressions.{all_bits}
use Rattle.sk_terms.specs.Terms.{register_of}
use Rattle.sk_policy.specs.Policies.{IsThere, IsWhole}
use Rattle.sk_policy_text.specs.declared.token.Relation.{Relation}
use Rattle.sk_policy_text.specs.declared.token.Relation.TheVariants as relation
use Rattle.sk_policy_text.specs.declared.token.Token.{Token}
use Rattle.sk_policy_text.specs.declared.token.Token.TheVariants as token

abbrev pub relates : Relation → ℕ → ℕ → Bool
relates relation.Is a b = a == b
relates relation.IsNot a b = not (a == b)
relates relation.Below a b = nat_lt a b
relates relation.AtMost a b = nat_le a b
relates relation.Above a b = nat_lt b a
relates relation.AtLeast a b = nat_le b a

-- a number, or several with `|` between them in brackets: `5`, `(A|B)`
pub data Value : Type 0 where
  Alone : ℕ → Value
  AnyOf : ℕ → List ℕ → Value

abbrev pub or_words : List ℕ → List Token → List Token
or_words [] rest = rest
or_words (n ∷ numbers) rest = token.BitOr ∷ token.Number n ∷ or_words numbers rest

abbrev pub value_words : Value → List Token → List Token
value_words (Alone n) rest = token.Number n ∷ rest
value_words (AnyOf n numbers) rest = token.Open ∷ token.Number n ∷ or_words numbers (token.Close ∷ rest)

abbrev pub with_bits : ℕ → List ℕ → ℕ
with_bits bits [] = bits
with_bits bits (n ∷ numbers) = with_bits (bit_or bits n) numbers

abbrev pub value_of : Value → ℕ
value_of (Alone n) = n
value_of (AnyOf n numbers) = with_bits n numbers

-- a value, or its complement of 64 bits: C has that only of an int, which has no bit 31 (C17 6.3.1.8)
pub data Factor : Type 0 where
  Plain : Value → Factor
  Complement : (value : Value) → nat_lt (value_of value) (2 ^ 31) ≡ true → Factor

abbrev pub factor_words : Factor → List Token → List Token
factor_words (Plain value) rest = value_words value rest
factor_words (Complement value small) rest = token.BitNot ∷ value_words value rest

abbrev pub factor_of : Factor → ℕ
factor_of (Plain value) = value_of value
factor_of (Complement value small) = 2 ^ 64 - 1 - value_of value

abbrev pub and_words : List Factor → List Token → List Token
and_words [] rest = rest
and_words (factor ∷ factors) rest = token.BitAnd ∷ factor_words factor (and_words factors rest)

abbrev pub masked_by : ℕ → List Factor → ℕ
masked_by bits [] = bits
masked_by bits (factor ∷ factors) = masked_by (bit_and bits (factor_of factor)) factors

-- a register, or some bits of it: `args[0]`, `(args[0] & 0xffffffff & ~(A|B))`
pub data Side : Type 0 where
  Whole : (register : Register) → IsThere register → Side
  Masked : (register : Register) → IsThere register → Factor → List Factor → Side

abbrev pub side_words : Side → List Token → List Token
side_words (Whole register there) rest = token.Register register ∷ rest
side_words (Masked register there factor factors) rest =
    token.Open ∷ token.Register register ∷ and_words (factor ∷ factors) (token.Close ∷ rest)

abbrev pub register_in : Side → Register
register_in (Whole register there) = register
register_in (Masked register there factor factors) = register

abbrev pub mask_in : Side → ℕ
mask_in (Whole register there) = all_bits register
mask_in (Masked register there factor factors) = masked_by (factor_of factor) factors

-- the number of the bits
abbrev pub seen : Side → Record → ℕ
seen (Whole register there) call = register_of register call
seen (Masked register there factor factors) call = bit_and (register_of register call) (masked_by (factor_of factor) factors)

-- a comparison, either way round
pub data Comparison : Type 0 where
  BitsFirst : Side → Relation → Value → Comparison
  ValueFirst : Value → Relation → Side → Comparison

abbrev pub comparison_words : Comparison → List Token → List Token
comparison_words (BitsFirst side relation value) rest = side_words side (token.Compare relation ∷ value_words value rest)
comparison_words (ValueFirst value relation side) rest = value_words value (token.Compare relation ∷ side_words side rest)

abbrev pub holds_comparison : Comparison → Record → Bool
holds_comparison (BitsFirst side relation value) call = relates relation (seen side call) (value_of value)
holds_comparison (ValueFirst value relation side) call = relates relation (value_of value) (seen side call)

-- both are the same bits of one register
pub record AreAlike (one other : Side) : Type 0 where
  pub register : register_in one ≡ register_in other
  pub mask : mask_in one ≡ mask_in other

-- the two comparisons of a range: `3 <= args[0]`, `args[0] <= 7`
abbrev pub from : Value → Side → Comparison
from first side = ValueFirst first relation.AtMost side

abbrev pub up_to : Side → Value → Comparison
up_to side last = BitsFirst side relation.AtMost last

-- what stands on the sides of `||`: a comparison, a range in brackets, or alternatives in brackets
mutual
  pub data Alternative : Type 0 where
    One : Comparison → Alternative
    Range : (first : Value) (one other : Side) (last : Value) → AreAlike one other → Alternative
    Brackets : Alternatives → Alternative

  pub data Alternatives : Type 0 where
    Last : Alternative → Alternatives
    Either : Alternative → Alternatives → Alternatives

abbrev mutual
  pub alternative_words : Alternative → List Token → List Token
  alternative_words (One comparison) rest = comparison_words comparison rest
  alternative_words (Range first one other last alike) rest =
      token.Open ∷ comparison_words (from first one) (token.And ∷ comparison_words (up_to other last) (token.Close ∷ rest))
  alternative_words (Brackets inside) rest = token.Open ∷ alternatives_words inside (token.Close ∷ rest)

  pub alternatives_words : Alternatives → List Token → List Token
  alternatives_words (Last alternative) rest = alternative_words alternative rest
  alternatives_words (Either alternative others) rest = alternative_words alternative (token.Or ∷ alternatives_words others rest)

abbrev mutual
  pub holds_alternative : Alternative → Record → Bool
  holds_alternative (One comparison) call = holds_comparison comparison call
  holds_alternative (Range first one other last alike) call =
      holds_comparison (from first one) call && holds_comparison (up_to other last) call
  holds_alternative (Brackets inside) call = holds_alternatives inside call

  pub holds_alternatives : Alternatives → Record → Bool
  holds_alternatives (Last alternative) call = holds_alternative alternative call
  holds_alternatives (Either alternative others) call = holds_alternative alternative call || holds_alternatives others call

-- `1`, `0`, alternatives, or two or more that all hold
pub data Condition : Type 0 where
  Always : Condition
  Never : Condition
  Some : Alternatives → Condition
  Each : Alternative → Alternative → List Alternative → Condition

-- `&& A && B`
abbrev pub each_words : List Alternative → List Token
each_words [] = []
each_words (alternative ∷ others) = token.And ∷ alternative_words alternative (each_words others)

abbrev pub condition_words : Condition → List Token
condition_words Always = token.Number 1 ∷ []
condition_words Never = token.Number 0 ∷ []
condition_words (Some alternatives) = alternatives_words alternatives []
condition_words (Each first second others) = alternative_words first (each_words (second ∷ others))

abbrev pub holds_condition : Condition → Record → Bool
holds_condition Always call = true
holds_condition Never call = false
holds_condition (Some alternatives) call = holds_alternatives alternatives call
holds_condition (Each first second others) call =
    holds_alternative first call && list_all (λ alternative. holds_alternative alternative call) (second ∷ others)

-- two conditions with the same words hold on the same calls
abbrev pub WordsTellMeaning : Type 0
WordsTellMeaning =
    (one other : Condition) → condition_words one ≡ condition_words other
    → (call : Record) → IsWhole call → holds_condition one call ≡ holds_condition other call

-- `A || B && ..` and `A && B || ..` without brackets are no conditions
abbrev pub MixedAreNone : Type 0
MixedAreNone =
    (one other : Alternative) (rest : List Token) (written : Condition)
    → (condition_words written ≡ alternative_words one (token.Or ∷ alternative_words other (token.And ∷ rest)) → ⊥)
    × (condition_words written ≡ alternative_words one (token.And ∷ alternative_words other (token.Or ∷ rest)) → ⊥)
