-- What a text of expectations is made into: the language of policies with two more verdicts, and nothing is expected where nothing is said.
use Rattle.std.specs.Prelude.{ℕ, ◌≡◌, ◌⊎◌, ◌++◌, true, false, if◌then◌else◌, List, [], ◌∷◌, Option, Some, None, is_some, unwrap_or, Contains}
use Rattle.sk_insn.specs.declared.record.Record.{Record}
use Rattle.sk_policy.specs.Policies.{IsWhole}
use Rattle.sk_conditions.specs.declared.expectation.Expectation.TheVariants.{Anything}
use Rattle.sk_conditions.specs.Comparing.{value_of}
use Rattle.sk_policy_text.specs.declared.expectation.Expectations.{Expectations}
use Rattle.sk_policy_text.specs.declared.refusal.Refusal.{Refusal}
use Rattle.sk_policy_text.specs.declared.refusal.Refusal.TheVariants as refusal
use Rattle.sk_policy_text.specs.declared.sentence.Sentence.{Sentence}
use Rattle.sk_policy_text.specs.declared.sentence.Sentence.TheVariants as sentence
use Rattle.sk_policy_text.specs.declared.stated.Stated.{Stated}
use Rattle.sk_policy_text.specs.Words.{words_of_text}
use Rattle.sk_policy_text.specs.Conditions.{Condition, condition_words, holds_condition}
use Rattle.sk_policy_text.specs.ConditionsTokens.{tokens_of}
use Rattle.sk_policy_text.specs.PolicyRows.{Part, sentences_of, parts_of, has_number, times, is_of_x32, architecture_of, default_of, stated_others}
use Rattle.sk_policy_text.specs.PolicySays.{Says}
use Rattle.sk_policy_text.specs.PolicyMade.{EndsUnread, IsFilterOf, IsRefused, IsText, reads_on}

abbrev pub anything : ℕ
anything = value_of Anything

-- ---- a text with what it leaves out, which expects anything there

-- `anything else`, where a row wants it, which is named by its line
abbrev pub else_of : Option ℕ → List Stated
else_of None = []
else_of (Some line) = record { line = line; sentence = sentence.Else anything } ∷ []

-- before a sentence that is no case of the row above
abbrev pub else_before : Option ℕ → Sentence → List Stated
else_before wanting (sentence.Case verdict words) = []
else_before wanting (sentence.Else verdict) = []
else_before wanting other = else_of wanting

-- the row that wants it behind a sentence: it has no verdict, and no `else` up to there
abbrev pub wanting_behind : Option ℕ → ℕ → Sentence → Option ℕ
wanting_behind wanting line (sentence.Row ranges None) = Some line
wanting_behind wanting line (sentence.Case verdict words) = wanting
wanting_behind wanting line other = None

-- each row has a verdict or `else`
abbrev pub closed : Option ℕ → List Stated → List Stated
closed wanting [] = else_of wanting
closed wanting (first ∷ behind) =
    else_before wanting first.sentence ++ (first ∷ closed (wanting_behind wanting first.line first.sentence) behind)

-- a sentence that is in no line
abbrev pub added : Sentence → List Stated
added it = record { line = 0; sentence = it } ∷ []

abbrev pub added_default : Option ℕ → List Stated
added_default stated = if is_some stated then [] else added (sentence.Default anything)

abbrev pub added_others : Option ℕ → List Stated
added_others stated = if is_some stated then [] else added (sentence.Others anything)

abbrev pub completed : List Stated → List Stated
completed text = closed None text ++ (added_default (default_of (sentences_of text)) ++ added_others (stated_others (sentences_of text)))

-- ---- what it is made into

-- the image of the filter that answers to each call the value of what is expected of its verdict; of whose calls the text tells, and
-- whether it tells of calls of other architectures
abbrev pub IsExpected : List ℕ → Expectations → Type 0
IsExpected bytes it =
    (text : List Stated) × IsText bytes text × IsFilterOf (completed text) it.image.items
    × (it.architecture ≡ reads_on text) × (it.says_others ≡ is_some (stated_others (sentences_of text)))

-- the first sentence that is none, or else what is wrong with all of them
abbrev pub IsNotExpected : List ℕ → Refusal → Type 0
IsNotExpected bytes (refusal.Sentence by line why) = EndsUnread (words_of_text bytes) by line why
IsNotExpected bytes (refusal.Expectation line value) = ⊥
IsNotExpected bytes refusal.Memory = Unit {0}
IsNotExpected bytes other = (text : List Stated) × IsText bytes text × IsRefused (completed text) other

-- ---- what the text as it is written expects of a call

-- what cases expect: as the first one whose condition the call meets, and else as `else`, if it is there
abbrev pub ExpectsCases : List Sentence → Record → ℕ → Type 0
ExpectsCases [] call value = value ≡ anything
ExpectsCases (sentence.Case verdict words ∷ behind) call value =
    (written : Condition) × (tokens_of words.now ≡ condition_words written)
    × (holds_condition written call ≡ true → value ≡ verdict) × (holds_condition written call ≡ false → ExpectsCases behind call value)
ExpectsCases (sentence.Else verdict ∷ behind) call value = value ≡ verdict
ExpectsCases (other ∷ behind) call value = value ≡ anything

abbrev pub ExpectsRow : Option ℕ → List Sentence → Record → ℕ → Type 0
ExpectsRow (Some verdict) behind call value = value ≡ verdict
ExpectsRow None behind call value = ExpectsCases behind call value

-- a row has the call's number, and expects this of it
pub record RowExpects (parts : List Part) (call : Record) (value : ℕ) : Type 0 where
  pub part : Part
  pub there : Contains parts part
  pub has : has_number call.nr part ≡ true
  pub expects : ExpectsRow part.verdict (sentences_of part.behind) call value

-- what is expected of a number that no row has
abbrev pub unnamed : List Sentence → ℕ → ℕ
unnamed text nr = if is_of_x32 (architecture_of text) nr then unwrap_or (stated_others text) anything else unwrap_or (default_of text) anything

pub record NoRowExpects (text : List Stated) (call : Record) (value : ℕ) : Type 0 where
  pub none : times (parts_of text) call.nr ≡ 0
  pub expects : value ≡ unnamed (sentences_of text) call.nr

abbrev pub Expects : List Stated → Record → ℕ → Type 0
Expects text call value = RowExpects (parts_of text) call value ⊎ NoRowExpects text call value

-- the completed text says that, and no more
abbrev pub CompletedExpects : Type 0
CompletedExpects = (text : List Stated) (call : Record) (value : ℕ) → IsWhole call → Says (completed text) call value → Expects text call value
