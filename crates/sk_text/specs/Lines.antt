-- A text is cut into lines, and a line into words.
use Rattle.std.specs.Prelude.{ℕ, ◌==◌, ◌&&◌, nat_le, Bool, true, false, if◌then◌else◌, List, [], ◌∷◌, filter, slice_index}
use Rattle.std.specs.List.{slice_split, onto_first}

-- each line is ended by a line feed (10); the last may lack it, and an empty rest is no line
abbrev pub lines_of : List ℕ → List (List ℕ)
lines_of [] = []
lines_of (byte ∷ rest) = if byte == 10 then [] ∷ lines_of rest else onto_first byte (lines_of rest)

-- a list with an element
abbrev pub has_bytes : List ℕ → Bool
has_bytes [] = false
has_bytes (byte ∷ rest) = true

-- what stands between the spaces (32) of a line, and is not empty
abbrev pub words_of : List ℕ → List (List ℕ)
words_of line = filter has_bytes (slice_split (λ byte. byte == 32) line)

-- a space or a visible character of ASCII: 0x20 to 0x7e
unfoldable pub is_printable_byte : ℕ → Bool
is_printable_byte byte = nat_le 0x20 byte && nat_le byte 0x7e

-- a line that says nothing has no word, or its first word begins with a semicolon (59)
abbrev pub begins_comment : List (List ℕ) → Bool
begins_comment [] = true
begins_comment (word ∷ words) = slice_index word 0 == 59
