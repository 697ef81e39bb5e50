-- The words of a text: names and numbers of C, and every other byte but blanks by itself.
use Rattle.std.specs.Prelude.{ℕ, ◌==◌, ◌&&◌, ◌||◌, nat_le, Bool, false, if◌then◌else◌, List, [], ◌∷◌, ◌++◌}

-- a space (32), a tab (9) or a carriage return (13)
unfoldable pub is_blank : ℕ → Bool
is_blank byte = byte == 32 || byte == 9 || byte == 13

-- a to z, A to Z, 0 to 9 or `_` (95)
unfoldable pub is_word_byte : ℕ → Bool
is_word_byte byte = (nat_le 97 byte && nat_le byte 122) || (nat_le 65 byte && nat_le byte 90) || (nat_le 48 byte && nat_le byte 57) || byte == 95

-- a word goes on with a byte where both are of names and numbers
unfoldable pub goes_on : List ℕ → ℕ → Bool
goes_on [] byte = false
goes_on (first ∷ rest) byte = is_word_byte first && is_word_byte byte

-- a word that has ended; it may be that there is none
abbrev pub ended : List ℕ → List (List ℕ)
ended [] = []
ended (byte ∷ rest) = (byte ∷ rest) ∷ []

-- what a byte begins: a word, where it is no blank
unfoldable pub begun : ℕ → List ℕ
begun byte = if is_blank byte then [] else byte ∷ []

-- a word, which may go on, and those behind it
abbrev pub words_behind : List ℕ → List ℕ → List (List ℕ)
words_behind word [] = ended word
words_behind word (byte ∷ rest) =
    if goes_on word byte then words_behind (word ++ byte ∷ []) rest else ended word ++ words_behind (begun byte) rest

abbrev pub words_of_text : List ℕ → List (List ℕ)
words_of_text text = words_behind [] text

abbrev pub begins_blank : List ℕ → Bool
begins_blank [] = false
begins_blank (byte ∷ rest) = is_blank byte
