-- The lines of a block of assembler lines, which the line `end` ends.
use Rattle.std.specs.Prelude.{◌&&◌, nat_le, Bool, false, if◌then◌else◌, ℕ, List, [], ◌∷◌, length, codes}
use Rattle.std.specs.Str.{bytes_eq}
use Rattle.sk_text.specs.Lines.{lines_of, words_of}

abbrev pub are_end : List (List ℕ) → Bool
are_end (word ∷ []) = bytes_eq word (codes "end")
are_end words = false

-- the only word is `end`, and the line is not too long
unfoldable pub is_end : List ℕ → Bool
is_end line = nat_le (length line) 255 && are_end (words_of line)

-- the lines in front of the first `end`, or all where there is none
abbrev pub until_end : List (List ℕ) → List (List ℕ)
until_end [] = []
until_end (line ∷ lines) = if is_end line then [] else line ∷ until_end lines

-- the lines of a block, which `end` ends, or of a whole text
abbrev pub lines_in : Bool → List ℕ → List (List ℕ)
lines_in is_block text = if is_block then until_end (lines_of text) else lines_of text
