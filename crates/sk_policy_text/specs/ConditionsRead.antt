-- What is read of a condition, and why words are refused that are none.
use Rattle.std.specs.Prelude.{ℕ, ◌≡◌, ◌≤◌, ◌<◌, ◌+◌, ◌*◌, List, [], ◌∷◌, ◌++◌, length}
use Rattle.sk_insn.specs.declared.record.Record.{Record}
use Rattle.sk_terms.specs.declared.choices.Choice.{Choice}
use Rattle.sk_terms.specs.Lines.{meets_choices}
use Rattle.sk_policy.specs.Policies.{IsWhole, AllThere}
use Rattle.sk_policy.specs.Sizes.{line_most}
use Rattle.sk_policy_text.specs.declared.condition.ConditionFault.{ConditionFault}
use Rattle.sk_policy_text.specs.declared.condition.ConditionFault.TheVariants as fault
use Rattle.sk_policy_text.specs.declared.token.Token.{Token}
use Rattle.sk_policy_text.specs.declared.token.Token.TheVariants as token
use Rattle.sk_policy_text.specs.Conditions.{Condition, condition_words, holds_condition}

-- the choices hold where each condition with these words does, and there is one; they take no more than 6 instructions for each word
pub record ReadsCondition (tokens : List Token) (choices : List Choice) : Type 0 where
  pub there : AllThere choices
  pub size : line_most choices ≤ 6 * length tokens
  pub written : Condition
  pub words : tokens ≡ condition_words written
  pub means : (other : Condition) → tokens ≡ condition_words other
      → (call : Record) → IsWhole call → meets_choices choices call ≡ holds_condition other call

abbrev pub NoCondition : List Token → Type 0
NoCondition tokens = (written : Condition) → tokens ≡ condition_words written → ⊥

-- what is not understood is no condition
abbrev pub IsRefused : ConditionFault → List Token → Type 0
IsRefused (fault.NotUnderstood at) tokens = NoCondition tokens
IsRefused it tokens = Unit {0}

-- what is wrong is one of so many words, or their end
abbrev pub IsWithin : ConditionFault → ℕ → Type 0
IsWithin (fault.NotUnderstood at) words = at ≤ words
IsWithin (fault.TooDeep at) words = at < words
IsWithin fault.Memory words = Unit {0}

abbrev pub opening : Token → ℕ
opening token.Open = 1
opening it = 0

abbrev pub closing : Token → ℕ
closing token.Close = 1
closing it = 0

-- how many brackets of some words open, and how many close
abbrev pub opens : List Token → ℕ
opens [] = 0
opens (first ∷ rest) = opening first + opens rest

abbrev pub closes : List Token → ℕ
closes [] = 0
closes (first ∷ rest) = closing first + closes rest

-- before a bracket that opens 64 are open already
pub record OpensTooMany (tokens : List Token) (at : ℕ) : Type 0 where
  pub before : List Token
  pub behind : List Token
  pub words : tokens ≡ before ++ token.Open ∷ behind
  pub stands : at ≡ length before
  pub many : closes before + 64 ≤ opens before

abbrev pub IsTooDeep : ConditionFault → List Token → Type 0
IsTooDeep (fault.TooDeep at) tokens = OpensTooMany tokens at
IsTooDeep it tokens = Unit {0}
