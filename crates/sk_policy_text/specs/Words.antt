-- The words of a policy's text, and which of them begin what it says.
use Rattle.std.specs.Prelude.{ℕ, ◌+◌, ◌-◌, ◌==◌, ◌&&◌, ◌||◌, nat_le, Bool, false, if◌then◌else◌, List, [], ◌∷◌, ◌++◌, length, codes, slice_get, Option, Some, None}
use Rattle.std.specs.List.{before_first}
use Rattle.std.specs.Str.{bytes_eq}
use Rattle.sk_text.specs.Lines.{lines_of}
use Rattle.sk_policy_text.specs.declared.word.Place.{Place}
use Rattle.sk_policy_text.specs.declared.word.Place.TheVariants.{Row, Case, Behind}
use Rattle.sk_policy_text.specs.declared.word.Word.{Word as CodeWord}

-- a word, its line, and what it begins
pub record Word : Type 0 where
  pub text : List ℕ
  pub line : ℕ
  pub place : Place

-- the same, as the code has it
abbrev pub seen : CodeWord → Word
seen word = record { text = word.text.now; line = word.line; place = word.place }

-- ---- bytes

-- a space (32), a tab (9) or a carriage return (13)
unfoldable pub is_blank : ℕ → Bool
is_blank byte = byte == 32 || byte == 9 || byte == 13

-- a to z, A to Z, 0 to 9
unfoldable pub is_letter_or_digit : ℕ → Bool
is_letter_or_digit byte = (nat_le 97 byte && nat_le byte 122) || (nat_le 65 byte && nat_le byte 90) || (nat_le 48 byte && nat_le byte 57)

-- one of these, or `_` (95), `/` (47), `[` (91), `]` (93), `-` (45) or `.` (46)
unfoldable pub is_word_byte : ℕ → Bool
is_word_byte byte = is_letter_or_digit byte || byte == 95 || byte == 47 || byte == 91 || byte == 93 || byte == 45 || byte == 46

-- `&&` (38), `||` (124), `==` (61), `!=` (33), `<=` (60) or `>=` (62)
unfoldable pub is_pair : ℕ → ℕ → Bool
is_pair first second =
    (first == second && (first == 38 || first == 124 || first == 61)) || (second == 61 && (first == 33 || first == 60 || first == 62))

-- ---- the words of a line

-- a word goes on with a byte: one more of a run, or the second one of a pair
unfoldable pub goes_on : List ℕ → ℕ → Bool
goes_on [] byte = false
goes_on (first ∷ rest) byte = (is_word_byte first && is_word_byte byte) || (length rest == 0 && is_pair first byte)

-- a word that has ended; it may be that there is none
abbrev pub ended : List ℕ → List (List ℕ)
ended [] = []
ended (byte ∷ rest) = (byte ∷ rest) ∷ []

-- what a byte begins: a word, where it is no blank
unfoldable pub begun : ℕ → List ℕ
begun byte = if is_blank byte then [] else byte ∷ []

-- a word, which may go on, and those behind it
abbrev pub words_behind : List ℕ → List ℕ → List (List ℕ)
words_behind word [] = ended word
words_behind word (byte ∷ rest) =
    if goes_on word byte then words_behind (word ++ byte ∷ []) rest else ended word ++ words_behind (begun byte) rest

-- those of a line, before the remark, which begins with `#` (35)
abbrev pub words_of_line : List ℕ → List (List ℕ)
words_of_line line = words_behind [] (before_first (λ byte. byte == 35) line)

-- ---- what they begin

abbrev pub begins_blank : List ℕ → Bool
begins_blank [] = false
begins_blank (byte ∷ rest) = is_blank byte

-- `&&` or `||` comes first
abbrev pub begins_joined : List (List ℕ) → Bool
begins_joined [] = false
begins_joined (word ∷ words) = bytes_eq word (codes "&&") || bytes_eq word (codes "||")

abbrev pub is_comma : Option Word → Bool
is_comma None = false
is_comma (Some word) = bytes_eq word.text (codes ",")

-- what the first word of a line begins: nothing behind a comma, and none that joins; a case behind a blank; else a row
unfoldable pub place_of : List Word → List ℕ → Place
place_of before line =
    if is_comma (slice_get before (length before - 1)) || begins_joined (words_of_line line) then Behind
    else if begins_blank line then Case
    else Row

-- the words of a line with a number, of which the first begins this
abbrev pub placed : ℕ → Place → List (List ℕ) → List Word
placed number place [] = []
placed number place (text ∷ texts) = record { text = text; line = number; place = place } ∷ placed number Behind texts

-- ---- the words of a text

-- those that stand before, and those of lines, which count from a number on
abbrev pub words_with : List Word → ℕ → List (List ℕ) → List Word
words_with before number [] = before
words_with before number (line ∷ lines) =
    words_with (before ++ placed number (place_of before line) (words_of_line line)) (number + 1) lines

abbrev pub words_of_text : List ℕ → List Word
words_of_text text = words_with [] 1 (lines_of text)
