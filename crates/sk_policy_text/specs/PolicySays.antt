-- What a policy's text says of a call.
use Rattle.std.specs.Prelude.{ℕ, ◌≡◌, ◌⊎◌, true, false, if◌then◌else◌, List, [], ◌∷◌, Option, Some, None, Contains}
use Rattle.sk_insn.specs.declared.record.Record.{Record}
use Rattle.sk_policy_text.specs.declared.sentence.Sentence.{Sentence}
use Rattle.sk_policy_text.specs.declared.sentence.Sentence.TheVariants as sentence
use Rattle.sk_policy_text.specs.declared.stated.Stated.{Stated}
use Rattle.sk_policy_text.specs.PolicyRows.{Part, sentences_of, parts_of, has_number, times, is_of_x32, architecture_of, default_of, others_of}
use Rattle.sk_policy_text.specs.ConditionsTokens.{tokens_of}
use Rattle.sk_policy_text.specs.Conditions.{Condition, condition_words, holds_condition}

-- what cases say: the verdict of the first whose condition the call meets, and else that of `else`
abbrev pub SaysCases : List Sentence → Record → ℕ → Type 0
SaysCases [] call value = ⊥
SaysCases (sentence.Case verdict words ∷ behind) call value =
    (written : Condition) × (tokens_of words.now ≡ condition_words written)
    × (holds_condition written call ≡ true → value ≡ verdict) × (holds_condition written call ≡ false → SaysCases behind call value)
SaysCases (sentence.Else verdict ∷ behind) call value = value ≡ verdict
SaysCases (other ∷ behind) call value = ⊥

-- what a row says of its calls: its verdict, or what the cases behind it say
abbrev pub SaysRow : Option ℕ → List Sentence → Record → ℕ → Type 0
SaysRow (Some verdict) behind call value = value ≡ verdict
SaysRow None behind call value = SaysCases behind call value

-- a row has the call's number, and says this of it
pub record RowSays (parts : List Part) (call : Record) (value : ℕ) : Type 0 where
  pub part : Part
  pub there : Contains parts part
  pub has : has_number call.nr part ≡ true
  pub says : SaysRow part.verdict (sentences_of part.behind) call value

-- the verdict of a number that no row has
abbrev pub unnamed : List Stated → ℕ → Option ℕ
unnamed text nr =
    if is_of_x32 (architecture_of (sentences_of text)) nr then Some (others_of (sentences_of text)) else default_of (sentences_of text)

pub record NoRowSays (text : List Stated) (call : Record) (value : ℕ) : Type 0 where
  pub none : times (parts_of text) call.nr ≡ 0
  pub says : unnamed text call.nr ≡ Some value

-- what the text says of a call
abbrev pub Says : List Stated → Record → ℕ → Type 0
Says text call value = RowSays (parts_of text) call value ⊎ NoRowSays text call value
