-- What one sentence of a policy's text says.
use Rattle.std.specs.Prelude.{ℕ, ◌+◌, ◌-◌, ◌==◌, ◌&&◌, ◌||◌, not, nat_le, Bool, true, false, if◌then◌else◌, List, [], ◌∷◌, length, drop, codes, Option, Some, None, Result, Ok, Err}
use Rattle.std.specs.List.{list_any, before_first, after_first, position_or_len}
use Rattle.std.specs.Str.{bytes_eq}
use Rattle.sk_replay.specs.WordCalls.{plain_number}
use Rattle.sk_text.specs.Words.{is_letter}
use Rattle.sk_insn.specs.Actions.{has_value}
use Rattle.sk_filter.specs.Errors.{error_number}
use Rattle.sk_names.specs.declared.architecture.Architecture.{Architecture}
use Rattle.sk_names.specs.declared.architecture.Architecture.TheVariants as architecture
use Rattle.sk_names.specs.Architectures.{architecture_named}
use Rattle.sk_names.specs.Names.{name_on, number_on}
use Rattle.sk_policy_text.specs.declared.sentence.Expected.{Expected as Wanted}
use Rattle.sk_policy_text.specs.declared.sentence.Expected.TheVariants as expected
use Rattle.sk_policy_text.specs.declared.sentence.Range.{Range}
use Rattle.sk_policy_text.specs.declared.sentence.SentenceFault.{SentenceFault}
use Rattle.sk_policy_text.specs.declared.stop.Stop.{Stop}
use Rattle.sk_policy_text.specs.declared.word.Place.{Place}
use Rattle.sk_policy_text.specs.declared.word.Place.TheVariants as place
use Rattle.sk_policy_text.specs.Words.{Word}
use Rattle.sk_policy_text.specs.Verdicts.{error_in, names_verdict, verdict_of_word}

-- what a sentence says: of whose calls; the verdict of numbers that no row has; that of other architectures; a row of numbers, with a
-- verdict of all or none; a case of the row above, with the words of its condition; the verdict of all other calls of that row
pub data Said : Type 0 where
  Arch : Architecture → Said
  Default : ℕ → Said
  Others : ℕ → Said
  Row : List Range → Option ℕ → Said
  Case : ℕ → List Word → Said
  Else : ℕ → Said

-- ---- where sentences end

-- a word that belongs to no sentence before it
abbrev pub begins : Place → Bool
begins place.Row = true
begins place.Case = true
begins place.Behind = false

-- how many words the first sentence has
abbrev pub sentence_length : List Word → ℕ
sentence_length [] = 0
sentence_length (first ∷ rest) = 1 + position_or_len (λ word. begins word.place) rest

-- ---- steps

-- a step, and then another one, if the first did not stop
infixl 10 ◌>>=◌
abbrev pub ◌>>=◌ : {X Y E : Type 0} → Result X E → (X → Result Y E) → Result Y E
(Err stop) >>= next = Err stop
(Ok value) >>= next = next value

-- to stop at the first of the words that are left, where this was expected
abbrev pub stop : {X : Type 0} → List Word → Wanted → Result X Stop
stop words wanted = Err (record { left = length words; expected = wanted })

abbrev pub or_stop : {X : Type 0} → Option X → List Word → Wanted → Result X Stop
or_stop None words wanted = stop words wanted
or_stop (Some value) words wanted = Ok value

-- that nothing is left
abbrev pub ended : List Word → Result (Unit {0}) Stop
ended [] = Ok tt
ended (word ∷ rest) = stop (word ∷ rest) expected.End

abbrev pub is_the : List ℕ → Word → Bool
is_the text word = bytes_eq word.text text

-- ---- verdicts

-- an error's name begins with `E` (69)
abbrev pub begins_error : List ℕ → Bool
begins_error [] = false
begins_error (byte ∷ rest) = byte == 69

-- what is left behind the name of the error with a number, which may stand behind it
unfoldable pub behind_error : Option ℕ → List Word → Result (List Word) Stop
behind_error None words = Ok words
behind_error (Some number) [] = Ok []
behind_error (Some number) (word ∷ rest) =
    if begins_error word.text then (if has_value number (error_number word.text) then Ok rest else stop (word ∷ rest) expected.NameOfError)
    else Ok (word ∷ rest)

-- a verdict, and what is left behind it
unfoldable pub verdict : List Word → Result (ℕ × List Word) Stop
verdict [] = stop [] expected.Verdict
verdict (word ∷ rest) = do
  value ← or_stop (verdict_of_word word.text) (word ∷ rest) expected.Verdict
  left ← behind_error (error_in word.text) rest
  Ok (value, left)

-- a verdict, and nothing behind it
unfoldable pub only_verdict : List Word → Result ℕ Stop
only_verdict words = do
  read ← verdict words
  none ← ended read.1
  Ok read.0

-- ---- items

abbrev pub u32_of : List ℕ → Option ℕ
u32_of text = plain_number 4294967295 text

abbrev pub single : ℕ → Range
single number = record { first = number; last = number }

-- the range between two numbers, of which the first is not above the last
abbrev pub range_between : Option ℕ → Option ℕ → Option Range
range_between (Some first) (Some last) = if nat_le first last then Some (record { first = first; last = last }) else None
range_between first last = None

abbrev pub has_dash : List ℕ → Bool
has_dash text = list_any (λ byte. byte == 45) text

-- `FIRST-LAST`, on the two sides of a `-` (45)
unfoldable pub range_in : List ℕ → Option Range
range_in text = range_between (u32_of (before_first (λ byte. byte == 45) text)) (u32_of (after_first (λ byte. byte == 45) text))

abbrev pub begins_verdict : Word → Bool
begins_verdict word = names_verdict word.text

-- the items of a row end before a colon or its verdict
unfoldable pub ends_items : Word → Bool
ends_items word = is_the (codes ":") word || begins_verdict word

-- one of them ends before a comma too
unfoldable pub ends_item : Word → Bool
ends_item word = is_the (codes ",") word || ends_items word

-- nothing, or what ends it, stands behind an item
unfoldable pub item_ends : List Word → Result (Unit {0}) Stop
item_ends [] = Ok tt
item_ends (word ∷ rest) = if ends_item word then Ok tt else stop (word ∷ rest) expected.CommaOrVerdict

-- a call's name begins with a letter or `_` (95)
abbrev pub begins_name : List ℕ → Bool
begins_name [] = false
begins_name (byte ∷ rest) = is_letter byte || byte == 95

abbrev pub is_name_of : List ℕ → Option (List ℕ) → Bool
is_name_of text None = false
is_name_of text (Some name) = bytes_eq name text

-- what is left behind a `-`, which may stand where a name would
unfoldable pub behind_dash : List Word → List Word
behind_dash [] = []
behind_dash (word ∷ rest) = if is_the (codes "-") word then rest else word ∷ rest

-- what is left behind a number's name, which may stand behind it
unfoldable pub behind_name : Architecture → ℕ → List Word → Result (List Word) Stop
behind_name by number [] = Ok []
behind_name by number (word ∷ rest) =
    if begins_name word.text && not (begins_verdict word)
    then (if is_name_of word.text (name_on by number) then Ok rest else stop (word ∷ rest) expected.NameOfCall)
    else Ok (behind_dash (word ∷ rest))

-- an item that is a range
unfoldable pub range_item : Word → List Word → Result Range Stop
range_item word rest = do
  range ← or_stop (range_in word.text) (word ∷ rest) expected.Call
  ends ← item_ends (behind_dash rest)
  Ok range

-- one that is a number, with or without its name
unfoldable pub number_item : Architecture → ℕ → List Word → Result Range Stop
number_item by number rest = do
  left ← behind_name by number rest
  ends ← item_ends left
  Ok (single number)

-- one that is a name
unfoldable pub name_item : Architecture → Word → List Word → Result Range Stop
name_item by word rest = do
  number ← or_stop (number_on by word.text) (word ∷ rest) expected.Call
  ends ← item_ends rest
  Ok (single number)

abbrev pub number_or_name : Architecture → Option ℕ → Word → List Word → Result Range Stop
number_or_name by (Some number) word rest = number_item by number rest
number_or_name by None word rest = name_item by word rest

-- the numbers of the item with which the words begin
unfoldable pub item : Architecture → List Word → Result Range Stop
item by [] = stop [] expected.Call
item by (word ∷ rest) = if has_dash word.text then range_item word rest else number_or_name by (u32_of word.text) word rest

-- ---- rows

-- what stands behind each comma between the items
abbrev pub behind_commas : List Word → List (List Word)
behind_commas [] = []
behind_commas (word ∷ rest) =
    if ends_items word then [] else if is_the (codes ",") word then rest ∷ behind_commas rest else behind_commas rest

-- what stands behind the items
abbrev pub behind_items : List Word → List Word
behind_items words = drop (position_or_len ends_items words) words

-- the numbers of items, with which these words begin
abbrev pub ranges_of : Architecture → List (List Word) → Result (List Range) Stop
ranges_of by [] = Ok []
ranges_of by (words ∷ others) = item by words >>= λ range. ranges_of by others >>= λ ranges. Ok (range ∷ ranges)

-- what is left behind a colon, which may stand there
unfoldable pub behind_colon : List Word → List Word
behind_colon [] = []
behind_colon (word ∷ rest) = if is_the (codes ":") word then rest else word ∷ rest

-- nothing, or a verdict
unfoldable pub verdict_or_none : List Word → Result (Option ℕ) Stop
verdict_or_none [] = Ok None
verdict_or_none (word ∷ rest) = only_verdict (word ∷ rest) >>= λ value. Ok (Some value)

-- a row: items with commas between them, and a verdict or none
unfoldable pub row : Architecture → List Word → Result Said Stop
row by words = do
  ranges ← ranges_of by (words ∷ behind_commas words)
  value ← verdict_or_none (behind_colon (behind_items words))
  Ok (Row ranges value)

-- ---- other sentences

-- the architecture with a name, but for x32, whose numbers are among those of x86-64
abbrev pub but_x32 : Option Architecture → Option Architecture
but_x32 (Some architecture.X32) = None
but_x32 other = other

-- `NAME` behind `arch`
unfoldable pub arch : List Word → Result Said Stop
arch [] = stop [] expected.Architecture
arch (word ∷ rest) = do
  by ← or_stop (but_x32 (architecture_named word.text)) (word ∷ rest) expected.Architecture
  none ← ended rest
  Ok (Arch by)

-- the verdicts behind `default` and `others`
abbrev pub default_verdict : List Word → Result Said Stop
default_verdict words = only_verdict words >>= λ value. Ok (Default value)

abbrev pub others_verdict : List Word → Result Said Stop
others_verdict words = only_verdict words >>= λ value. Ok (Others value)

-- a sentence that begins a line
unfoldable pub line : Architecture → List Word → Result Said Stop
line by [] = row by []
line by (word ∷ rest) =
    if is_the (codes "arch") word then arch (behind_colon rest)
    else if is_the (codes "default") word then default_verdict (behind_colon rest)
    else if is_the (codes "others") word then others_verdict (behind_colon rest)
    else row by (word ∷ rest)

-- a case with a condition, whose words are kept as they are
abbrev pub condition : ℕ → List Word → Result Said Stop
condition value [] = stop [] expected.Condition
condition value (word ∷ rest) = Ok (Case value (word ∷ rest))

-- what stands behind the verdict of a case: `else`, or `where` and a condition
unfoldable pub where_or_else : ℕ → List Word → Result Said Stop
where_or_else value [] = stop [] expected.WhereOrElse
where_or_else value (word ∷ rest) =
    if is_the (codes "else") word then (ended rest >>= λ none. Ok (Else value))
    else if is_the (codes "where") word then condition value rest
    else stop (word ∷ rest) expected.WhereOrElse

-- a case of the row above
unfoldable pub case : List Word → Result Said Stop
case words = do
  read ← verdict words
  where_or_else read.0 read.1

-- ---- the sentence

abbrev pub is_case : Place → Bool
is_case place.Case = true
is_case other = false

abbrev pub begins_case : List Word → Bool
begins_case [] = false
begins_case (word ∷ rest) = is_case word.place

unfoldable pub said_by : Architecture → List Word → Result Said Stop
said_by by words = if begins_case words then case words else line by words

-- where it stopped, counted from the first of the words
abbrev pub stopped_at : {X : Type 0} → List Word → Result X Stop → Result X SentenceFault
stopped_at words (Ok value) = Ok value
stopped_at words (Err stop) = Err (record { at = length words - stop.left; expected = stop.expected })

-- what the words of a sentence say of calls of an architecture; or the first word at which they are none, and what was expected there
abbrev pub sentence_in : Architecture → List Word → Result Said SentenceFault
sentence_in by words = stopped_at words (said_by by words)
