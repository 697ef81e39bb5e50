-- Arrays of bytes in C: `unsigned char filter[] = { 0x20, 0x00, .. };`, as `xxd -i` (xxd(1)) and `seccomp-tools asm -f c_array` write them.
use Rattle.std.specs.Prelude.{ℕ, zero, suc, ◌==◌, ◌&&◌, ◌||◌, Bool, false, if◌then◌else◌, List, [], ◌∷◌, ◌++◌, length, Option, Some, None}
use Rattle.std.specs.List.{list_all, before_first, after_first}
use Rattle.std.specs.Option.{option_or}
use Rattle.sk_forms.specs.declared.token.Token.{Token}
use Rattle.sk_forms.specs.Tokens.{is_sign}
use Rattle.sk_forms.specs.Grammar.{◌>>=◌, behind, decimal_at, number_at, past}
use Rattle.sk_forms.specs.Arrays.{declares}

-- some bytes, and so many at most behind them, with commas (44) between; a comma may stand behind the last
abbrev pub bytes_from : ℕ → List ℕ → List Token → List ℕ × List Token
bytes_from zero bytes tokens = (bytes, tokens)
bytes_from (suc n) bytes tokens = elim (number_at 255 tokens) [
  | None ↦ (bytes, tokens)
  | Some byte ↦ elim (behind 44 byte.1) [
    | None ↦ (bytes ++ byte.0 ∷ [], byte.1)
    | Some next ↦ bytes_from n (bytes ++ byte.0 ∷ []) next
  ]
]

-- the bytes that tokens begin with, and what stands behind them
unfoldable pub bytes_at : List Token → List ℕ × List Token
bytes_at tokens = bytes_from (length tokens) [] tokens

-- bytes by themselves
unfoldable pub bare_bytes : List Token → Option (List ℕ)
bare_bytes tokens = let given = bytes_at tokens in if length given.1 == 0 then Some given.0 else None

-- the declaration of a number behind `=` (61), with or without a semicolon (59); it is how many bytes there are
unfoldable pub tells_length : ℕ → List Token → Bool
tells_length count tokens = elim (decimal_at 4294967295 (after_first (is_sign 61) tokens)) [
  | None ↦ false
  | Some number ↦ list_all declares (before_first (is_sign 61) tokens) && number.0 == count && length (past 59 number.1) == 0
]

-- the brace that closes (125), with or without a semicolon; then nothing, or how many bytes there are
unfoldable pub ends_bytes : ℕ → List Token → Bool
ends_bytes count tokens = elim (behind 125 tokens) [
  | None ↦ false
  | Some rest ↦ length (past 59 rest) == 0 || tells_length count (past 59 rest)
]

-- bytes in braces (123)
unfoldable pub bytes_in_braces : List Token → Option (List ℕ)
bytes_in_braces tokens = do
  inside ← behind 123 tokens
  if ends_bytes (length (bytes_at inside).0) (bytes_at inside).1 then Some (bytes_at inside).0 else None

-- behind a declaration
unfoldable pub declared_bytes : List Token → Option (List ℕ)
declared_bytes tokens =
    if list_all declares (before_first (is_sign 61) tokens) then bytes_in_braces (after_first (is_sign 61) tokens) else None

unfoldable pub byte_array : List Token → Option (List ℕ)
byte_array tokens = option_or (bare_bytes tokens) (option_or (bytes_in_braces tokens) (declared_bytes tokens))
