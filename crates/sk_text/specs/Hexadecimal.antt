-- Hexadecimal digits, in input and in output.
use Rattle.std.specs.Prelude.{◌≡◌, ℕ, ◌+◌, ◌==◌, ◌||◌, nat_lt, if◌then◌else◌, Bool, not, List, filter, Option, Some, None, Result, Ok, Err}
use Rattle.std.specs.List.{concat}
use Rattle.std.specs.Result.{result_ok}
use Rattle.std.specs.Int.{to_be_bytes, w16, w32}
use Rattle.hex.specs.Hex.{decode_of, encode_lower}
use Rattle.sk_text.specs.declared.hexadecimal.HexFault.{HexFault}
use Rattle.sk_text.specs.declared.hexadecimal.HexFault.TheVariants.{NotHexadecimal, Memory}

-- the bytes that digits of either case write, two for each byte; none where a digit is left over, or is something else
unfoldable pub bytes_in : List ℕ → Option (List ℕ)
bytes_in digits = result_ok (decode_of digits)

-- the digits may stand in any number of words
abbrev pub hex_bytes : List (List ℕ) → Option (List ℕ)
hex_bytes words = bytes_in (concat words)

-- a space (32) or a line end (10)
abbrev pub is_blank : ℕ → Bool
is_blank byte = byte == 32 || byte == 10

-- the digits of a text that spaces and line ends may part anywhere
abbrev pub hex_text_bytes : List ℕ → Option (List ℕ)
hex_text_bytes text = bytes_in (filter (λ byte. not (is_blank byte)) text)

-- the answer is these bytes, or that there are none; only memory may be refused besides
abbrev pub Decodes : {T : Type 0} → (T → List ℕ) → Result T HexFault → Option (List ℕ) → Type 0
Decodes view (Ok value) bytes = bytes ≡ Some (view value)
Decodes view (Err NotHexadecimal) bytes = bytes ≡ None
Decodes view (Err Memory) bytes = Unit {0}

-- a number of 32 bits in 8 lower case digits
unfoldable pub hex_word : ℕ → List ℕ
hex_word value = encode_lower (to_be_bytes w32 value)

-- a number of 16 bits in 4 lower case digits
unfoldable pub hex_half : ℕ → List ℕ
hex_half value = encode_lower (to_be_bytes w16 value)

-- a hexadecimal digit, in lower case
abbrev pub digit_of : ℕ → ℕ
digit_of n = if nat_lt n 10 then 48 + n else 87 + n
