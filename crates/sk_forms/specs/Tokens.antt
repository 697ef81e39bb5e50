-- What the words of a text stand for: numbers as C writes them (6.4.4.1 of the standard), names, and signs.
use Rattle.std.specs.Prelude.{ℕ, ◌==◌, ◌-◌, ◌&&◌, ◌||◌, nat_le, nat_lt, nat_eq, Bool, false, if◌then◌else◌, List, [], ◌∷◌, length, take, map, codes, slice_index, Option, Some, None}
use Rattle.std.specs.List.{starts_with}
use Rattle.sk_text.specs.Numbers.{number_of, up_to}
use Rattle.sk_forms.specs.declared.token.Token.{Token}
use Rattle.sk_forms.specs.declared.token.Token.TheVariants.{Decimal, Hexadecimal, Padded, Name, Sign, Other}
use Rattle.sk_forms.specs.declared.names.Name.TheVariants as name
use Rattle.sk_forms.specs.declared.names.Word.{Word}
use Rattle.sk_forms.specs.Names.{name_of, same_word}
use Rattle.sk_forms.specs.Comments.{uncommented}
use Rattle.sk_forms.specs.Words.{words_of_text}

-- ---- numbers

-- u, U, l or L
unfoldable pub is_letter_behind : ℕ → Bool
is_letter_behind byte = byte == 117 || byte == 85 || byte == 108 || byte == 76

-- a word without such a letter at its end
unfoldable pub without_letter : List ℕ → List ℕ
without_letter word = if is_letter_behind (slice_index word (length word - 1)) then take (length word - 1) word else word

-- a number of 32 bits, and nothing where there is none
abbrev pub token_or_other : (ℕ → Token) → Option ℕ → Token
token_or_other make None = Other
token_or_other make (Some n) = make n

unfoldable pub hexadecimal : List ℕ → Token
hexadecimal digits = token_or_other (λ n. Hexadecimal n) (up_to 4294967295 (number_of digits))

unfoldable pub padded : List ℕ → Token
padded digits = token_or_other (λ n. Padded n) (up_to 4294967295 (number_of digits))

unfoldable pub decimal : List ℕ → Token
decimal digits = token_or_other (λ n. Decimal n) (up_to 4294967295 (number_of digits))

-- the digits before up to three letters of a suffix; a 0 (48) before more digits makes a number octal in C
unfoldable pub number_token : List ℕ → Token
number_token word =
    let digits = without_letter (without_letter (without_letter word)) in
    if starts_with nat_eq digits (codes "0x") then hexadecimal digits
    else if nat_lt 1 (length digits) && slice_index digits 0 == 48 then padded digits
    else decimal digits

-- ---- words

-- a digit begins a number, a letter or `_` (95) a name
unfoldable pub token_of : List ℕ → Token
token_of [] = Other
token_of (first ∷ rest) =
    if nat_le 48 first && nat_le first 57 then number_token (first ∷ rest)
    else if (nat_le 97 first && nat_le first 122) || (nat_le 65 first && nat_le first 90) || first == 95 then Name (name_of (first ∷ rest))
    else Sign first

abbrev pub tokens_of : List ℕ → List Token
tokens_of text = map token_of (words_of_text text)

abbrev pub tokens_in : List ℕ → List Token
tokens_in text = tokens_of (uncommented text)

-- ---- kinds

abbrev pub is_sign : ℕ → Token → Bool
is_sign byte (Sign sign) = sign == byte
is_sign byte token = false

-- the number in C; of those that it takes for octal 0 alone, which bpf_asm writes in ten digits
abbrev pub number_in : Token → Option ℕ
number_in (Decimal n) = Some n
number_in (Hexadecimal n) = Some n
number_in (Padded n) = if n == 0 then Some 0 else None
number_in (Name (name.Constant n)) = Some n
number_in token = None

abbrev pub decimal_in : Token → Option ℕ
decimal_in (Decimal n) = Some n
decimal_in token = None

-- a word that has a place of its own
abbrev pub is_word : Word → Token → Bool
is_word wanted (Name (name.Word word)) = same_word word wanted
is_word wanted token = false

-- a field of `struct seccomp_data`
abbrev pub field_in : Token → Option ℕ
field_in (Name (name.Field place)) = Some place
field_in token = None

-- the number of a row, in decimal digits that zeros may lead
abbrev pub place_in : Token → Option ℕ
place_in (Decimal n) = Some n
place_in (Padded n) = Some n
place_in token = None
