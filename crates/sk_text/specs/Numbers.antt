-- The numbers that words are.
use Rattle.std.specs.Prelude.{ℕ, ◌&&◌, nat_eq, nat_le, Bool, if◌then◌else◌, List, drop, codes, Option, Some, None}
use Rattle.std.specs.Char.{is_digit}
use Rattle.std.specs.List.{list_all, starts_with}
use Rattle.std.specs.Str.Parse.{digits_value}
use Rattle.sk_text.specs.Lines.{has_bytes}

-- a digit of the radix: 0 to 9, then a to z in either case
abbrev pub is_digit_in : ℕ → ℕ → Bool
is_digit_in radix byte = is_digit byte radix

-- the number that digits of a radix write, where there is one digit or more, and nothing else
abbrev pub number_in : ℕ → List ℕ → Option ℕ
number_in radix digits =
    if has_bytes digits && list_all (is_digit_in radix) digits then Some (digits_value radix digits) else None

-- a number is hexadecimal after `0x` and else decimal; zeros may lead it
unfoldable pub number_of : List ℕ → Option ℕ
number_of word =
    if starts_with nat_eq word (codes "0x") then number_in 16 (drop 2 word) else number_in 10 word

-- the number, if it is at most so large
abbrev pub up_to : ℕ → Option ℕ → Option ℕ
up_to most None = None
up_to most (Some n) = if nat_le n most then Some n else None
