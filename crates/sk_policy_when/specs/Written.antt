-- Conditions that `ask when` writes, read again.
use Rattle.std.specs.Prelude.{ℕ, ◌≡◌, ◌<◌, ◌^◌, true, List, [], ◌∷◌, map, flat_map, length, All, Option}
use Rattle.sk_text.specs.Lines.{lines_of}
use Rattle.sk_engines.specs.Output.{line}
use Rattle.sk_insn.specs.declared.record.Record.{Record}
use Rattle.sk_terms.specs.declared.choices.Choice.{Choice}
use Rattle.sk_terms.specs.declared.lines.Line.{Line}
use Rattle.sk_terms.specs.declared.term.Term.{Term}
use Rattle.sk_terms.specs.Lines.{meets_choices}
use Rattle.sk_terms.specs.Text.{condition_text}
use Rattle.sk_when.specs.Filling.{filled_behind}
use Rattle.sk_policy.specs.Policies.{IsThere, IsWhole}
use Rattle.sk_policy_text.specs.declared.token.Token.{Token}
use Rattle.sk_policy_text.specs.Words.{begins_joined, words_of_line}
use Rattle.sk_policy_text.specs.ConditionsTokens.{token_of}
use Rattle.sk_policy_text.specs.Conditions.{Condition, condition_words, holds_condition}

-- what the words of a line stand for in a condition
abbrev pub read : List ℕ → List Token
read line = map token_of (words_of_line line)

-- a line is a condition, which holds where the choices do
pub record IsConditionOf (line : List ℕ) (choices : List Choice) : Type 0 where
  pub written : Condition
  pub words : read line ≡ condition_words written
  pub means : (call : Record) → IsWhole call → holds_condition written call ≡ meets_choices choices call

-- the words of lines
abbrev pub words_in : List (List ℕ) → List (List ℕ)
words_in lines = flat_map words_of_line lines

-- each line but the first begins with `&&` or `||`, so that its words belong to what stands above it
abbrev pub GoOn : List (List ℕ) → Type 0
GoOn [] = Unit {0}
GoOn (first ∷ others) = All (λ line. begins_joined (words_of_line line) ≡ true) others

-- a text of one line or more is a condition, which holds where the choices do
pub record IsConditionIn (text : List ℕ) (choices : List Choice) : Type 0 where
  pub written : Condition
  pub words : map token_of (words_in (lines_of text)) ≡ condition_words written
  pub means : (call : Record) → IsWhole call → holds_condition written call ≡ meets_choices choices call
  pub go_on : GoOn (lines_of text)

-- a term of a register that a call has, with numbers of 64 bits
pub record IsSayable (term : Term) : Type 0 where
  pub there : IsThere term.register
  pub mask : term.mask < 2 ^ 64
  pub first : term.first < 2 ^ 64
  pub last : term.last < 2 ^ 64

-- so is each term of a choice, and there is one
pub record HasSayable (choice : Choice) : Type 0 where
  pub some : 0 < length choice.terms.items
  pub terms : All IsSayable choice.terms.items

-- what `ask when` writes for a line's condition, with the constants of a call or none, is that condition
abbrev pub ConditionsComeBack : Type 0
ConditionsComeBack = (call : Option ℕ) (line : Line) → All HasSayable line.choices.items → IsConditionOf (condition_text call line) line.choices.items

-- so it is where the condition stands in several lines, behind so many columns of the first
abbrev pub FilledConditionsComeBack : Type 0
FilledConditionsComeBack =
    (call : Option ℕ) (it : Line) (column : ℕ) → All HasSayable it.choices.items
    → IsConditionIn (line (filled_behind column (condition_text call it))) it.choices.items
