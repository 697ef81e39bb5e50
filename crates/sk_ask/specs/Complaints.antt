-- Lines that say what is wrong, for standard error.
use Rattle.std.specs.Prelude.{ℕ, ◌==◌, ◌||◌, ◌++◌, nat_lt, if◌then◌else◌, List, map, codes}

-- a byte that would end a line, or change how it is shown, is a question mark (63)
unfoldable pub shown_byte : ℕ → ℕ
shown_byte byte = if nat_lt byte 32 || byte == 127 then 63 else byte

abbrev pub shown : List ℕ → List ℕ
shown word = map shown_byte word

-- what is wrong with a file, by its name
abbrev pub about : List ℕ → List ℕ → List ℕ
about name what = codes "ask: " ++ shown name ++ codes ": " ++ what ++ codes "\n"

-- what is wrong, and the word that is meant
abbrev pub of_word : List ℕ → List ℕ → List ℕ
of_word what word = codes "ask: " ++ what ++ shown word ++ codes "\n"
