-- Texts of `ask when`, read again as sentences of a policy.
use Rattle.std.specs.Prelude.{ℕ, ◌≡◌, ◌≢◌, ◌≤◌, ◌<◌, ◌^◌, ◌++◌, Bool, List, [], ◌∷◌, map, All, Option, Some, None, Ok}
use Rattle.sk_insn.specs.declared.action.Action.TheVariants.{Errno, Unknown}
use Rattle.sk_insn.specs.declared.insn.Insn.{Insn}
use Rattle.sk_insn.specs.declared.record.Record.{Record}
use Rattle.sk_insn.specs.Actions.{action_of, data_part}
use Rattle.sk_insn.specs.Instructions.{image_of}
use Rattle.sk_insn.specs.Record.{IsNative}
use Rattle.sk_filter.specs.Meaning.{meaning_of}
use Rattle.sk_filter.specs.Valid.{IsValid}
use Rattle.sk_filter.specs.Verdict.{verdict_of}
use Rattle.sk_profile.specs.Means.{Gives}
use Rattle.sk_arguments.specs.declared.naming.Naming.{Naming}
use Rattle.sk_names.specs.declared.architecture.Architecture.{Architecture}
use Rattle.sk_names.specs.declared.architecture.Architecture.TheVariants as architecture
use Rattle.sk_terms.specs.declared.choices.Choice.{Choice}
use Rattle.sk_terms.specs.declared.lines.Line.{Line}
use Rattle.sk_terms.specs.Lines.{meets_choices}
use Rattle.sk_when.specs.declared.names.Names.{Names}
use Rattle.sk_when.specs.declared.row.ConditionalRow.{ConditionalRow}
use Rattle.sk_when.specs.Naming.{names_of}
use Rattle.sk_when.specs.Telling.{AreTold}
use Rattle.sk_when.specs.WhenText.{when_text}
use Rattle.sk_policy.specs.Policies.{IsWhole}
use Rattle.sk_policy_text.specs.declared.sentence.Range.{Range}
use Rattle.sk_policy_text.specs.Words.{Word, words_of_text}
use Rattle.sk_policy_text.specs.ConditionsTokens.{token_of}
use Rattle.sk_policy_text.specs.Conditions.{Condition, condition_words, holds_condition}
use Rattle.sk_policy_text.specs.Sentences.{Said, Row, Case, Else, sentence_in}
use Rattle.sk_policy_text.specs.PolicyMade.{IsMade, IsText, first_words, words_behind}
use Rattle.sk_policy_text.specs.PolicyRows.{parts_of, times}
use Rattle.sk_policy_text.specs.PolicySays.{Says}
use Rattle.sk_policy_text.specs.declared.stated.Stated.{Stated}
use Rattle.sk_policy_when.specs.Again.{as_native}
use Rattle.sk_policy_when.specs.Written.{HasSayable}

-- ---- rows that a policy can say

-- one value, of a named action; Linux knows no error above 4095
abbrev pub IsSayableValue : Option ℕ → Type 0
IsSayableValue None = ⊥
IsSayableValue (Some value) = (action_of value ≢ Unknown) × (action_of value ≡ Errno → data_part value ≤ 4095)

pub record IsSayableLine (line : Line) : Type 0 where
  pub value : IsSayableValue line.value
  pub choices : All HasSayable line.choices.items

pub record IsSayableRow (told : ConditionalRow) : Type 0 where
  pub rising : told.row.first ≤ told.row.last
  pub fits : told.row.last < 2 ^ 32
  pub lines : All IsSayableLine told.lines.items
  pub otherwise : IsSayableValue told.otherwise

-- ---- sentences

-- lists, one after the other
abbrev pub together : {X : Type 0} → List (List X) → List X
together [] = []
together (one ∷ others) = one ++ together others

-- words are a condition, which holds where the choices do
pub record AreCondition (words : List Word) (choices : List Choice) : Type 0 where
  pub written : Condition
  pub are : map (λ word. token_of word.text) words ≡ condition_words written
  pub means : (call : Record) → IsWhole call → holds_condition written call ≡ meets_choices choices call

-- a sentence is a line of a row
abbrev pub IsLine : Line → Said → Type 0
IsLine line (Case value words) = (line.value ≡ Some value) × AreCondition words line.choices.items
IsLine line other = ⊥

-- sentences are lines, and behind them the line `else`
abbrev pub AreLines : List Line → Option ℕ → List Said → Type 0
AreLines [] otherwise (Else value ∷ []) = otherwise ≡ Some value
AreLines (line ∷ lines) otherwise (it ∷ said) = IsLine line it × AreLines lines otherwise said
AreLines lines otherwise said = ⊥

abbrev pub range_of : ConditionalRow → Range
range_of told = record { first = told.row.first; last = told.row.last }

-- the first of sentences is a row of these numbers, with its verdict, or those behind it are its lines
abbrev pub AreEnds : Range → List Line → Option ℕ → List Said → Type 0
AreEnds range [] otherwise (Row ranges verdict ∷ []) = (ranges ≡ range ∷ []) × (verdict ≡ otherwise)
AreEnds range (line ∷ lines) otherwise (Row ranges verdict ∷ said) = (ranges ≡ range ∷ []) × (verdict ≡ None) × AreLines (line ∷ lines) otherwise said
AreEnds range lines otherwise said = ⊥

abbrev pub AreRow : ConditionalRow → List Said → Type 0
AreRow told said = AreEnds (range_of told) told.lines.items told.otherwise said

abbrev pub AreRows : List ConditionalRow → List (List Said) → Type 0
AreRows [] [] = Unit {0}
AreRows (told ∷ rows) (said ∷ others) = AreRow told said × AreRows rows others
AreRows rows said = ⊥

-- words are sentences, one after the other
abbrev pub AreSentences : Architecture → List Word → List Said → Type 0
AreSentences by words [] = words ≡ []
AreSentences by words (it ∷ said) = (sentence_in by (first_words words) ≡ Ok it) × AreSentences by (words_behind words) said

-- the sentences of a text are those of its rows
pub record SaysRows (names : Names) (rows : List ConditionalRow) : Type 0 where
  pub said : List (List Said)
  pub are : AreSentences names.architecture (words_of_text (when_text names rows)) (together said)
  pub rows_are : AreRows rows said

abbrev pub TextsComeBack : Type 0
TextsComeBack = (names : Names) (rows : List ConditionalRow) → All IsSayableRow rows → SaysRows names rows

-- what the text of rows that are told of filters says of a call, whoever reads it, is the filters' verdict on it as one of x86-64
abbrev pub TextsSayVerdicts : Type 0
TextsSayVerdicts =
    (naming : Naming) (programs : List (List Insn)) (is_spent : Bool) (rows : List ConditionalRow) (text : List Stated)
    → AreTold architecture.X86_64 None programs is_spent rows → All IsSayableRow rows
    → IsText (when_text (names_of naming architecture.X86_64) rows) text
    → (call : Record) → IsWhole call → Says text call (verdict_of programs (as_native call))

-- an image is that of a valid program, from which each call of x86-64 gets the filters' verdict
pub record ImageAnswersAs (programs : List (List Insn)) (image : List ℕ) : Type 0 where
  pub insns : List Insn
  pub written : image ≡ image_of insns
  pub valid : IsValid insns
  pub answers : (call : Record) → IsWhole call → IsNative call → Gives (verdict_of programs call) (meaning_of insns call)

-- so does the filter that is made of the text
abbrev pub TextsMakeFilters : Type 0
TextsMakeFilters =
    (naming : Naming) (programs : List (List Insn)) (is_spent : Bool) (rows : List ConditionalRow) (image : List ℕ)
    → AreTold architecture.X86_64 None programs is_spent rows → All IsSayableRow rows
    → IsMade (when_text (names_of naming architecture.X86_64) rows) image → ImageAnswersAs programs image

-- each number stands in just one row of it
abbrev pub TextsNameEachNumber : Type 0
TextsNameEachNumber =
    (naming : Naming) (programs : List (List Insn)) (is_spent : Bool) (rows : List ConditionalRow) (text : List Stated)
    → AreTold architecture.X86_64 None programs is_spent rows → All IsSayableRow rows
    → IsText (when_text (names_of naming architecture.X86_64) rows) text
    → (nr : ℕ) → nr < 2 ^ 32 → times (parts_of text) nr ≡ 1
