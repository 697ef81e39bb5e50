-- What `ask when` writes is read back.
use Rattle.std.specs.Prelude.{ℕ, ◌≡◌, ◌≢◌, ◌≤◌, ◌<◌, ◌^◌, ◌++◌, List, [], ◌∷◌, codes, Some, None, Ok}
use Rattle.sk_insn.specs.declared.action.Action.TheVariants.{Errno, Unknown}
use Rattle.sk_insn.specs.Actions.{action_of, data_part}
use Rattle.sk_filter.specs.VerdictText.{verdict_text}
use Rattle.sk_names.specs.declared.architecture.Architecture.{Architecture}
use Rattle.sk_show.specs.Text.{name_text, numbers_text}
use Rattle.sk_policy_text.specs.declared.word.Place.{Place}
use Rattle.sk_policy_text.specs.declared.word.Place.TheVariants.{Behind, Row as Beginning, Case as Blank}
use Rattle.sk_policy_text.specs.Words.{Word, placed, words_of_line}
use Rattle.sk_policy_text.specs.Sentences.{Row, Case, Else, item, only_verdict, sentence_in}

-- the text of a value with a named action is a verdict, and that value; Linux knows no error above 4095
abbrev pub VerdictsComeBack : Type 0
VerdictsComeBack =
    (value number : ℕ) (place : Place) → action_of value ≢ Unknown → (action_of value ≡ Errno → data_part value ≤ 4095)
    → only_verdict (placed number place (words_of_line (verdict_text value))) ≡ Ok value

-- the text of numbers, with the name of a single one, is an item, and those numbers
abbrev pub NumbersComeBack : Type 0
NumbersComeBack =
    (by : Architecture) (first last number : ℕ) (place : Place) → first ≤ last → last < 2 ^ 32
    → item by (placed number place (words_of_line (numbers_text first last ++ (codes " " ++ name_text by first last))))
    ≡ Ok (record { first = first; last = last })

-- the words of a line with a number, which begins in the first column
abbrev pub line_words : ℕ → List ℕ → List Word
line_words number text = placed number Beginning (words_of_line text)

-- the line of a row, with the verdict of all its calls
abbrev pub RowsComeBack : Type 0
RowsComeBack =
    (by : Architecture) (first last value number : ℕ) → first ≤ last → last < 2 ^ 32
    → action_of value ≢ Unknown → (action_of value ≡ Errno → data_part value ≤ 4095)
    → sentence_in by (line_words number (numbers_text first last ++ (codes " " ++ (name_text by first last ++ (codes " " ++ verdict_text value)))))
    ≡ Ok (Row (record { first = first; last = last } ∷ []) (Some value))

-- that of a row whose cases follow
abbrev pub HeadsComeBack : Type 0
HeadsComeBack =
    (by : Architecture) (first last number : ℕ) → first ≤ last → last < 2 ^ 32
    → sentence_in by (line_words number (numbers_text first last ++ (codes " " ++ name_text by first last)))
    ≡ Ok (Row (record { first = first; last = last } ∷ []) None)

-- the words of a line with a number, which begins with a blank
abbrev pub case_words : ℕ → List ℕ → List Word
case_words number text = placed number Blank (words_of_line text)

-- the line of the last case
abbrev pub ElsesComeBack : Type 0
ElsesComeBack =
    (by : Architecture) (value number : ℕ) → action_of value ≢ Unknown → (action_of value ≡ Errno → data_part value ≤ 4095)
    → sentence_in by (case_words number (codes "  " ++ (verdict_text value ++ codes " else"))) ≡ Ok (Else value)

-- that of another one with a condition, which may go on in further lines
abbrev pub CasesComeBack : Type 0
CasesComeBack =
    (by : Architecture) (value number : ℕ) (condition : List ℕ) (more : List Word)
    → action_of value ≢ Unknown → (action_of value ≡ Errno → data_part value ≤ 4095) → words_of_line condition ≢ []
    → sentence_in by (case_words number (codes "  " ++ (verdict_text value ++ (codes " where " ++ condition))) ++ more)
    ≡ Ok (Case value (placed number Behind (words_of_line condition) ++ more))
