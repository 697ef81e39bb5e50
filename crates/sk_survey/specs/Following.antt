-- What the pass knows of the states of a machine, while it follows every call with one of some numbers, and of the values of two
-- filters.
use Rattle.std.specs.Prelude.{ℕ, ◌≡◌, ◌+◌, ◌<◌, ◌≤◌, ◌⊎◌, true, false, List, Option, Some, None, slice_get, slice_set}
use Rattle.sk_insn.specs.declared.insn.Insn.{Insn}
use Rattle.sk_insn.specs.declared.record.Record.{Record}
use Rattle.sk_insn.specs.declared.operation.Register.{Register}
use Rattle.sk_insn.specs.declared.operation.Register.TheVariants.{Accumulator, Index}
use Rattle.sk_insn.specs.declared.operation.Comparison.{Comparison}
use Rattle.sk_insn.specs.declared.operation.Operand.{Operand}
use Rattle.sk_insn.specs.declared.operation.Operand.TheVariants.{Constant, IndexRegister}
use Rattle.sk_filter.specs.Paths.{Onward, Nowhere, To, Either as Both}
use Rattle.sk_filter.specs.Meaning.{State, Effect, GoesOn, Ends, holds}
use Rattle.sk_filter.specs.Preceding.{preceding}
use Rattle.sk_survey.specs.declared.merge.Side.{Side}
use Rattle.sk_survey.specs.declared.merge.Side.TheVariants.{Newer, Older}
use Rattle.sk_survey.specs.Answers.{IsOneOf}
use Rattle.sk_survey.specs.declared.known.Known.{Known}
use Rattle.sk_survey.specs.declared.known.Known.TheVariants.{Any, Number, Is}
use Rattle.sk_survey.specs.declared.known.Knowledge.{Knowledge}
use Rattle.sk_survey.specs.declared.follow.Next.{Next}
use Rattle.sk_survey.specs.declared.follow.Next.TheVariants.{Skip, Either, End, FollowingOrZero}

-- what is known of a number is so
abbrev pub Describes : Known → Record → ℕ → Type 0
Describes Any call n = Unit {0}
Describes Number call n = n ≡ call.nr
Describes (Is k) call n = n ≡ k

-- a scratch word is there, and what is known of it is so
abbrev pub DescribesWord : Option Known → Record → Option ℕ → Type 0
DescribesWord (Some known) call (Some n) = Describes known call n
DescribesWord known call word = ⊥

abbrev pub DescribesWords : List Known → Record → (ℕ → Option ℕ) → Type 0
DescribesWords words call stored = (k : ℕ) → k < 16 → DescribesWord (slice_get words k) call (stored k)

-- what is known of a machine is so
pub record DescribesState (knowledge : Knowledge) (call : Record) (s : State) : Type 0 where
  pub a : Describes knowledge.a call s.a
  pub x : Describes knowledge.x call s.x
  pub words : DescribesWords knowledge.words call s.stored

-- what both of two paths know is known where they meet: of A, of X and of each scratch word
abbrev pub KeepCommonWords : List Known → List Known → List Known → Type 0
KeepCommonWords words others both = (k : ℕ) → slice_get words k ≡ slice_get others k → slice_get both k ≡ slice_get words k

pub record KeepsCommon (one other both : Knowledge) : Type 0 where
  pub a : one.a ≡ other.a → both.a ≡ one.a
  pub x : one.x ≡ other.x → both.x ≡ one.x
  pub words : KeepCommonWords one.words other.words both.words

-- the same, and of one register or scratch word this
abbrev pub with_known : Register → Known → Knowledge → Knowledge
with_known Accumulator known knowledge = record knowledge { a = known }
with_known Index known knowledge = record knowledge { x = known }

abbrev pub known_register : Register → Knowledge → Known
known_register Accumulator knowledge = knowledge.a
known_register Index knowledge = knowledge.x

abbrev pub with_word : Register → ℕ → Knowledge → Knowledge
with_word register k knowledge =
    record knowledge { words = slice_set knowledge.words k (known_register register knowledge) }

-- what is known of the right side of a calculation or a comparison
abbrev pub known_operand : Operand → ℕ → Knowledge → Known
known_operand Constant k knowledge = Is k
known_operand IndexRegister k knowledge = knowledge.x

-- as a valid filter may start: it loads no word before it stores it
abbrev pub zeros : State
zeros = record { a = 0; x = 0; stored = λ k. Some 0 }

-- an effect is one of those that an instruction was found to have, with this known after it
abbrev pub Leads : Next → Insn → Knowledge → Record → Effect → Type 0
Leads (Skip skip) insn after call e = (s : State) × (e ≡ GoesOn skip s) × DescribesState after call s
Leads (Either a) insn after call e =
    (s : State)
    × (((e ≡ GoesOn insn.jt s) × DescribesState (record after { a = a }) call s)
    ⊎ ((e ≡ GoesOn insn.jf s) × DescribesState after call s))
Leads (End known) insn after call e = (value : ℕ) × (e ≡ Ends value) × Describes known call value
Leads FollowingOrZero insn after call e =
    ((s : State) × (e ≡ GoesOn 0 s) × DescribesState after call s) ⊎ (e ≡ Ends 0)

-- the values that are told of a number of which this is known: the call's number, in a range, stands for any value
abbrev pub StandsFor : Known → ℕ → Type 0
StandsFor (Is k) value = value ≡ k
StandsFor known value = Unit {0}

-- the values that are told of an end, where an instruction was found to lead to one
abbrev pub TellsEnd : Next → ℕ → Type 0
TellsEnd (End known) value = StandsFor known value
TellsEnd FollowingOrZero value = value ≡ 0
TellsEnd next value = ⊥

-- one number of the range passes the test, and one does not
pub record IsParted (comparison : Comparison) (k first last : ℕ) : Type 0 where
  pub passing : ℕ
  pub failing : ℕ
  pub passing_is_in : (first ≤ passing) × (passing ≤ last)
  pub failing_is_in : (first ≤ failing) × (failing ≤ last)
  pub passes : holds comparison passing k ≡ true
  pub fails : holds comparison failing k ≡ false

-- what is known of a number is which one it is
abbrev pub IsExact : Known → Type 0
IsExact (Is k) = Unit {0}
IsExact known = ⊥

abbrev pub IsExactWord : Option Known → Type 0
IsExactWord (Some known) = IsExact known
IsExactWord None = Unit {0}

-- so it is of both registers and of all scratch words
pub record IsWhole (knowledge : Knowledge) : Type 0 where
  pub a : IsExact knowledge.a
  pub x : IsExact knowledge.x
  pub words : (k : ℕ) → IsExactWord (slice_get knowledge.words k)

-- an instruction was found to lead to one place, with all known there, or to an end with one value
abbrev pub LeadsOneWay : Next → Knowledge → Type 0
LeadsOneWay (Skip skip) after = IsWhole after
LeadsOneWay (End known) after = IsExact known
LeadsOneWay next after = ⊥

-- where control goes on from a place
abbrev pub led : ℕ → Next → Insn → Onward
led place (Skip skip) insn = To (place + 1 + skip)
led place (Either a) insn = Both (place + 1 + insn.jt) (place + 1 + insn.jf)
led place (End known) insn = Nowhere
led place FollowingOrZero insn = To (place + 1)

-- what is known at a place is so
abbrev pub DescribedBy : Option (Option Knowledge) → Record → State → Type 0
DescribedBy (Some (Some knowledge)) call s = DescribesState knowledge call s
DescribedBy slot call s = ⊥

abbrev pub DescribedAt : List (Option Knowledge) → ℕ → Record → State → Type 0
DescribedAt slots place call s = DescribedBy (slice_get slots place) call s

-- nothing is known at a place, as no path has come to it
abbrev pub IsUnknown : List (Option Knowledge) → ℕ → Type 0
IsUnknown slots place = (knowledge : Knowledge) → slice_get slots place ≡ Some (Some knowledge) → ⊥

-- one more path comes to a place: what it knows is known there, as far as each path before it knew the same
abbrev pub JoinsAt : Option (Option Knowledge) → Knowledge → Option (Option Knowledge) → Type 0
JoinsAt (Some (Some before)) knowledge (Some (Some after)) = KeepsCommon before knowledge after
JoinsAt (Some None) knowledge (Some (Some after)) = after ≡ knowledge
JoinsAt before knowledge after = ⊥

-- where an effect goes on, the state that it leaves is known there
abbrev pub Spreads : ℕ → List (Option Knowledge) → Record → Effect → Type 0
Spreads place slots call (GoesOn skip s) = DescribedAt slots (place + (1 + skip)) call s
Spreads place slots call e = Unit {0}

-- which comes first of a value of this side and one of the other
abbrev pub first_beside : Side → ℕ → ℕ → Option ℕ
first_beside Newer value other = preceding (Some value) other
first_beside Older value other = preceding (Some other) value

-- the value is the first of one of these, of a newer filter, and one of those, of an older filter
abbrev pub IsFirstOfBoth : List ℕ → List ℕ → ℕ → Type 0
IsFirstOfBoth newer older value = (u : ℕ) × (s : ℕ) × IsOneOf u newer × IsOneOf s older × (preceding (Some u) s ≡ Some value)

-- where values are told of both, no value is told but such a one
abbrev pub OnlyFirsts : Option (List ℕ) → Option (List ℕ) → Option (List ℕ) → Type 0
OnlyFirsts (Some newer) (Some older) (Some values) = (value : ℕ) → IsOneOf value values → IsFirstOfBoth newer older value
OnlyFirsts (Some newer) (Some older) None = ⊥
OnlyFirsts newer older values = Unit {0}
