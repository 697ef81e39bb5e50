-- What words of a condition are read as, and when they are refused.
use Rattle.std.specs.Prelude.{ℕ, ◌≡◌, ◌≤◌, ◌+◌, ◌-◌, Bool, true, false, if◌then◌else◌, List, [], ◌∷◌, ◌++◌, length, map, Option, Some, None}
use Rattle.sk_terms.specs.declared.choices.Choice.{Choice}
use Rattle.sk_terms.specs.declared.term.Register.{Register}
use Rattle.sk_terms.specs.declared.term.Term.{Term}
use Rattle.sk_policy.specs.Policies.{IsThere}
use Rattle.sk_policy_text.specs.declared.comparison.Bits.{Bits}
use Rattle.sk_policy_text.specs.declared.comparison.Compared.{Compared}
use Rattle.sk_policy_text.specs.declared.condition.ConditionFault.{ConditionFault}
use Rattle.sk_policy_text.specs.declared.condition.ConditionFault.TheVariants as fault
use Rattle.sk_policy_text.specs.declared.condition_stop.ConditionStop.{ConditionStop}
use Rattle.sk_policy_text.specs.declared.condition_stop.ConditionStop.TheVariants as stop
use Rattle.sk_policy_text.specs.declared.token.Relation.{Relation}
use Rattle.sk_policy_text.specs.declared.token.Relation.TheVariants as relation
use Rattle.sk_policy_text.specs.declared.token.Token.{Token}
use Rattle.sk_policy_text.specs.declared.token.Token.TheVariants as token
use Rattle.sk_policy_text.specs.ConditionsRead.{opens, closes}
use Rattle.sk_policy_text.specs.Conditions.{Value, value_words, value_of, or_words, with_bits, Factor, factor_words, factor_of, and_words, masked_by, Side, side_words, register_in, mask_in, Comparison, BitsFirst, ValueFirst, comparison_words, from, up_to, Alternative, One, Range, Brackets, Alternatives, Last, Either, alternative_words, alternatives_words, Condition, Always, Never, Some as some_of, Each, each_words, condition_words}

-- ---- brackets

-- behind so many words a bracket opens, and at least so many are open there
pub record OpensIn (tokens : List Token) (left room : ℕ) : Type 0 where
  pub before : List Token
  pub behind : List Token
  pub words : tokens ≡ before ++ token.Open ∷ behind
  pub stands : left ≡ length (token.Open ∷ behind)
  pub many : closes before + room ≤ opens before

-- ---- why words are refused, with so many of them left

-- they are written otherwise
abbrev pub Refuses : ConditionStop → List Token → Type 0 → Type 0
Refuses (stop.NotUnderstood left) tokens none = (left ≤ length tokens) × none
Refuses (stop.TooDeep left) tokens none = ⊥
Refuses stop.Memory tokens none = ⊥

-- they are written otherwise, or too many brackets are open, of those that may be
abbrev pub Stops : ConditionStop → ℕ → List Token → Type 0 → Type 0
Stops (stop.NotUnderstood left) room tokens none = (left ≤ length tokens) × none
Stops (stop.TooDeep left) room tokens none = OpensIn tokens left room
Stops stop.Memory room tokens none = Unit {0}

-- ---- first words

abbrev pub BeginsNot : Token → List Token → Type 0
BeginsNot token tokens = (rest : List Token) → tokens ≡ token ∷ rest → ⊥

abbrev pub number_in : Token → Option ℕ
number_in (token.Number n) = Some n
number_in it = None

abbrev pub NoNumber : List Token → Type 0
NoNumber tokens = (n : ℕ) (rest : List Token) → tokens ≡ token.Number n ∷ rest → ⊥

abbrev pub relation_in : Token → Option Relation
relation_in (token.Compare relation) = Some relation
relation_in it = None

abbrev pub NoRelation : List Token → Type 0
NoRelation tokens = (relation : Relation) (rest : List Token) → tokens ≡ token.Compare relation ∷ rest → ⊥

abbrev pub register_of_token : Token → Option Register
register_of_token (token.Register register) = Some register
register_of_token it = None

abbrev pub NoRegister : List Token → Type 0
NoRegister tokens = (register : Register) → IsThere register → (rest : List Token) → tokens ≡ token.Register register ∷ rest → ⊥

pub record BeginsWithRegister (tokens : List Token) : Type 0 where
  pub register : Register
  pub rest : List Token
  pub words : tokens ≡ token.Register register ∷ rest

-- ---- values and bits

pub record ReadsValue (tokens : List Token) (n : ℕ) (rest : List Token) : Type 0 where
  pub written : Value
  pub words : tokens ≡ value_words written rest
  pub is : n ≡ value_of written

abbrev pub NoValue : List Token → Type 0
NoValue tokens = (written : Value) (rest : List Token) → tokens ≡ value_words written rest → ⊥

-- numbers with `|` between them, up to the bracket that closes
pub record ReadsNumbers (tokens : List Token) (bits : ℕ) (rest : List Token) : Type 0 where
  pub first : ℕ
  pub numbers : List ℕ
  pub words : tokens ≡ token.Number first ∷ or_words numbers (token.Close ∷ rest)
  pub is : bits ≡ with_bits first numbers

abbrev pub NoNumbers : List Token → Type 0
NoNumbers tokens = (first : ℕ) (numbers : List ℕ) (rest : List Token) → tokens ≡ token.Number first ∷ or_words numbers (token.Close ∷ rest) → ⊥

pub record ReadsFactor (tokens : List Token) (n : ℕ) (rest : List Token) : Type 0 where
  pub written : Factor
  pub words : tokens ≡ factor_words written rest
  pub is : n ≡ factor_of written

abbrev pub NoFactor : List Token → Type 0
NoFactor tokens = (written : Factor) (rest : List Token) → tokens ≡ factor_words written rest → ⊥

-- factors behind a register, up to the bracket that closes
pub record ReadsMask (tokens : List Token) (mask : ℕ) (rest : List Token) : Type 0 where
  pub first : Factor
  pub factors : List Factor
  pub words : tokens ≡ and_words (first ∷ factors) (token.Close ∷ rest)
  pub is : mask ≡ masked_by (factor_of first) factors

abbrev pub NoMask : List Token → Type 0
NoMask tokens = (first : Factor) (factors : List Factor) (rest : List Token) → tokens ≡ and_words (first ∷ factors) (token.Close ∷ rest) → ⊥

abbrev pub bits_in : Side → Bits
bits_in side = record { register = register_in side; mask = mask_in side }

-- a register that is masked, behind the bracket that opens
pub record ReadsMasked (tokens : List Token) (bits : Bits) (rest : List Token) : Type 0 where
  pub there : IsThere bits.register
  pub first : Factor
  pub factors : List Factor
  pub words : tokens ≡ token.Register bits.register ∷ and_words (first ∷ factors) (token.Close ∷ rest)
  pub is : bits.mask ≡ masked_by (factor_of first) factors

abbrev pub NoMasked : List Token → Type 0
NoMasked tokens =
    (register : Register) → IsThere register → (first : Factor) (factors : List Factor) (rest : List Token)
    → tokens ≡ token.Register register ∷ and_words (first ∷ factors) (token.Close ∷ rest) → ⊥

pub record ReadsBits (tokens : List Token) (bits : Bits) (rest : List Token) : Type 0 where
  pub written : Side
  pub words : tokens ≡ side_words written rest
  pub is : bits ≡ bits_in written

abbrev pub NoBits : List Token → Type 0
NoBits tokens = (written : Side) (rest : List Token) → tokens ≡ side_words written rest → ⊥

-- ---- comparisons, and their terms

abbrev pub compared : Comparison → Compared
compared (BitsFirst side relation value) =
    record { bits = bits_in side; relation = relation; number = value_of value; number_first = false }
compared (ValueFirst value relation side) =
    record { bits = bits_in side; relation = relation; number = value_of value; number_first = true }

pub record ReadsComparison (tokens : List Token) (it : Compared) (rest : List Token) : Type 0 where
  pub written : Comparison
  pub words : tokens ≡ comparison_words written rest
  pub is : it ≡ compared written

abbrev pub NoBitsFirst : List Token → Type 0
NoBitsFirst tokens =
    (side : Side) (relation : Relation) (value : Value) (rest : List Token) → tokens ≡ comparison_words (BitsFirst side relation value) rest → ⊥

abbrev pub NoValueFirst : List Token → Type 0
NoValueFirst tokens =
    (value : Value) (relation : Relation) (side : Side) (rest : List Token) → tokens ≡ comparison_words (ValueFirst value relation side) rest → ⊥

abbrev pub NoComparison : List Token → Type 0
NoComparison tokens = (written : Comparison) (rest : List Token) → tokens ≡ comparison_words written rest → ⊥

-- the relation of two numbers the other way round
abbrev pub turned : Relation → Relation
turned relation.Is = relation.Is
turned relation.IsNot = relation.IsNot
turned relation.Below = relation.Above
turned relation.AtMost = relation.AtLeast
turned relation.Above = relation.Below
turned relation.AtLeast = relation.AtMost

abbrev pub ranged : Bits → ℕ → ℕ → Bool → Term
ranged bits first last inside = record { register = bits.register; mask = bits.mask; first = first; last = last; inside = inside }

abbrev pub related : Bits → Relation → ℕ → Term
related bits relation.Is n = ranged bits n n true
related bits relation.IsNot n = ranged bits n n false
related bits relation.Below n = ranged bits n 0xffffffffffffffff false
related bits relation.AtMost n = ranged bits 0 n true
related bits relation.Above n = ranged bits 0 n false
related bits relation.AtLeast n = ranged bits n 0xffffffffffffffff true

abbrev pub term_of : Compared → Term
term_of it = related it.bits (if it.number_first then turned it.relation else it.relation) it.number

-- ---- alternatives

abbrev mutual
  pub terms_of : Alternative → List Term
  terms_of (One comparison) = term_of (compared comparison) ∷ []
  terms_of (Range first one other last alike) = ranged (bits_in one) (value_of first) (value_of last) true ∷ []
  terms_of (Brackets inside) = terms_of_all inside

  pub terms_of_all : Alternatives → List Term
  terms_of_all (Last alternative) = terms_of alternative
  terms_of_all (Either alternative others) = terms_of alternative ++ terms_of_all others

-- what stands behind the first number in the brackets of a value
abbrev pub is_in_numbers : Token → Bool
is_in_numbers token.BitOr = true
is_in_numbers token.Close = true
is_in_numbers it = false

abbrev pub is_one : Alternative → Bool
is_one (One comparison) = true
is_one (Range first one other last alike) = false
is_one (Brackets inside) = false

-- the brackets of bits, or of a value
pub record BeginsMask (inside : List Token) : Type 0 where
  pub register : Register
  pub rest : List Token
  pub words : inside ≡ token.Register register ∷ token.BitAnd ∷ rest

abbrev pub NoMaskThere : List Token → Type 0
NoMaskThere inside =
    (register : Register) → IsThere register → (rest : List Token) → inside ≡ token.Register register ∷ token.BitAnd ∷ rest → ⊥

pub record BeginsNumbers (inside : List Token) : Type 0 where
  pub first : ℕ
  pub second : Token
  pub rest : List Token
  pub words : inside ≡ token.Number first ∷ second ∷ rest
  pub goes_on : is_in_numbers second ≡ true

abbrev pub NoNumbersThere : List Token → Type 0
NoNumbersThere inside =
    (first : ℕ) (second : Token) (rest : List Token) → is_in_numbers second ≡ true → inside ≡ token.Number first ∷ second ∷ rest → ⊥

-- no range and no alternatives in brackets
abbrev pub NoBrackets : List Token → Type 0
NoBrackets tokens =
    (written : Alternative) (rest : List Token) → is_one written ≡ false → tokens ≡ alternative_words written rest → ⊥

-- a comparison with `&&` behind it
pub record StartsRange (tokens : List Token) : Type 0 where
  pub written : Comparison
  pub rest : List Token
  pub words : tokens ≡ comparison_words written (token.And ∷ rest)

abbrev pub NoStart : List Token → Type 0
NoStart tokens = (written : Comparison) (rest : List Token) → tokens ≡ comparison_words written (token.And ∷ rest) → ⊥

-- a range behind the bracket that opens
pub record ReadsRange (tokens : List Token) (term : Term) (rest : List Token) : Type 0 where
  pub first : Value
  pub one : Side
  pub other : Side
  pub last : Value
  pub register : register_in one ≡ register_in other
  pub mask : mask_in one ≡ mask_in other
  pub words : tokens ≡ comparison_words (from first one) (token.And ∷ comparison_words (up_to other last) (token.Close ∷ rest))
  pub is : term ≡ ranged (bits_in one) (value_of first) (value_of last) true

abbrev pub NoRange : List Token → Type 0
NoRange tokens =
    (first : Value) (one other : Side) (last : Value) → register_in one ≡ register_in other → mask_in one ≡ mask_in other → (rest : List Token)
    → tokens ≡ comparison_words (from first one) (token.And ∷ comparison_words (up_to other last) (token.Close ∷ rest)) → ⊥

-- what two comparisons have to be that make a range
pub record MakesRange (one other : Compared) : Type 0 where
  pub first : one.number_first ≡ true
  pub last : other.number_first ≡ false
  pub above : one.relation ≡ relation.AtMost
  pub below : other.relation ≡ relation.AtMost
  pub bits : one.bits ≡ other.bits

-- an alternative, whose terms stand behind others now
pub record ReadsOne (tokens : List Token) (old new : List Term) (rest : List Token) : Type 0 where
  pub written : Alternative
  pub words : tokens ≡ alternative_words written rest
  pub is : new ≡ old ++ terms_of written

abbrev pub NoAlternative : List Token → Type 0
NoAlternative tokens = (written : Alternative) (rest : List Token) → tokens ≡ alternative_words written rest → ⊥

-- all alternatives that stand there
pub record ReadsSome (tokens : List Token) (old new : List Term) (rest : List Token) : Type 0 where
  pub written : Alternatives
  pub words : tokens ≡ alternatives_words written rest
  pub is : new ≡ old ++ terms_of_all written
  pub ends : BeginsNot token.Or rest

abbrev pub NoAlternatives : List Token → Type 0
NoAlternatives tokens = (written : Alternatives) (rest : List Token) → BeginsNot token.Or rest → tokens ≡ alternatives_words written rest → ⊥

-- ---- the whole

abbrev pub lists_of : List Choice → List (List Term)
lists_of choices = map (λ (choice : Choice). choice.terms.items) choices

abbrev pub choices_of : Condition → List (List Term)
choices_of Always = []
choices_of Never = [] ∷ []
choices_of (some_of alternatives) = terms_of_all alternatives ∷ []
choices_of (Each first second others) = terms_of first ∷ map terms_of (second ∷ others)

-- the words are a condition, and the choices its own
pub record IsCondition (tokens : List Token) (choices : List Choice) : Type 0 where
  pub written : Condition
  pub words : tokens ≡ condition_words written
  pub is : lists_of choices ≡ choices_of written

-- the alternatives behind the first one, up to the end, and the choice of them all
pub record ReadsOthers (tokens : List Token) (terms : List Term) (choices : List Choice) : Type 0 where
  pub written : Alternatives
  pub words : tokens ≡ alternatives_words written []
  pub is : lists_of choices ≡ (terms ++ terms_of_all written) ∷ []

abbrev pub NoOthers : List Token → Type 0
NoOthers tokens = (written : Alternatives) → tokens ≡ alternatives_words written [] → ⊥

-- what is left behind the first alternative, up to the end
pub record ReadsEach (tokens : List Token) (old new : List Choice) : Type 0 where
  pub written : List Alternative
  pub words : tokens ≡ each_words written
  pub is : lists_of new ≡ lists_of old ++ map terms_of written

abbrev pub NoEach : List Token → Type 0
NoEach tokens = (written : List Alternative) → tokens ≡ each_words written → ⊥

abbrev pub NotAlone : List Token → Type 0
NotAlone tokens = (n : ℕ) → tokens ≡ token.Number n ∷ [] → ⊥

-- no condition but a number alone
abbrev pub NoWritten : List Token → Type 0
NoWritten tokens =
    ((written : Alternatives) → tokens ≡ alternatives_words written [] → ⊥)
    × ((first second : Alternative) (others : List Alternative) → tokens ≡ condition_words (Each first second others) → ⊥)

-- how many words stand before those that are left
abbrev pub fault_of : ConditionStop → ℕ → ConditionFault
fault_of (stop.NotUnderstood left) words = fault.NotUnderstood (words - left)
fault_of (stop.TooDeep left) words = fault.TooDeep (words - left)
fault_of stop.Memory words = fault.Memory
