-- Dumps: lines of bytes in hexadecimal digits, each behind the place of its first byte. So xxd(1) and `hexdump -C` of hexdump(1) write them.
use Rattle.std.specs.Prelude.{ℕ, ◌==◌, ◌%◌, ◌&&◌, ◌||◌, nat_le, nat_lt, Bool, if◌then◌else◌, List, [], ◌∷◌, ◌++◌, length, take, drop, Option, Some, None}
use Rattle.std.specs.List.{before_first, list_all}
use Rattle.std.specs.Str.{bytes_eq}
use Rattle.sk_text.specs.Lines.{lines_of, words_of}
use Rattle.sk_text.specs.Hexadecimal.{hex_bytes, hex_word}
use Rattle.sk_text.specs.Numbers.{is_digit_in}
use Rattle.sk_forms.specs.Grammar.{◌>>=◌}

-- ---- images

-- at least one instruction of 8 bytes, and whole ones
unfoldable pub whole_image : List ℕ → Option (List ℕ)
whole_image bytes = if nat_lt 0 (length bytes) && length bytes % 8 == 0 then Some bytes else None

-- ---- lines

-- what stands behind the place of a line, which is of 32 bits and in eight digits
unfoldable pub behind_offset : ℕ → List ℕ → Option (List ℕ)
behind_offset place line =
    if nat_le place 4294967295 && nat_le 8 (length line) then (if bytes_eq (take 8 line) (hex_word place) then Some (drop 8 line) else None)
    else None

-- the columns that bytes stand in: those of xxd, 40 behind a colon (58), or those of hexdump, before a bar (124); a line may end with 13
unfoldable pub columns : List ℕ → List ℕ
columns [] = []
columns (first ∷ rest) =
    if first == 58 then take 40 rest
    else before_first (λ byte. byte == 13) (before_first (λ byte. byte == 124) (first ∷ rest))

-- the bytes of the line that begins at a place
unfoldable pub line_bytes : ℕ → List ℕ → Option (List ℕ)
line_bytes place line = do
  behind ← behind_offset place line
  hex_bytes (words_of (columns behind))

-- some bytes, and those of lines behind them
abbrev pub bytes_behind : List ℕ → List (List ℕ) → Option (List ℕ)
bytes_behind bytes [] = Some bytes
bytes_behind bytes (line ∷ lines) = line_bytes (length bytes) line >>= λ more. bytes_behind (bytes ++ more) lines

-- hexadecimal digits, spaces (32) and ends of lines (10, 13)
abbrev pub is_plain : ℕ → Bool
is_plain byte = is_digit_in 16 byte || byte == 32 || byte == 10 || byte == 13

-- a text that has nothing else is one of digits, and no dump
unfoldable pub dump : List ℕ → Option (List ℕ)
dump text = if list_all is_plain text then None else (bytes_behind [] (lines_of text) >>= λ bytes. whole_image bytes)
