-- What an argument that strace(1) writes tells of its register.
use Rattle.std.specs.Prelude.{ℕ, ◌==◌, ◌&&◌, ◌||◌, ◌-◌, ◌^◌, nat_eq, nat_le, Bool, false, if◌then◌else◌, List, [], ◌∷◌, drop, codes, Option, Some, None, Result, Ok, Err}
use Rattle.std.specs.List.{starts_with, ends_with, before_first}
use Rattle.std.specs.Str.{bytes_eq}
use Rattle.sk_text.specs.Lines.{words_of}
use Rattle.sk_text.specs.Numbers.{number_of, up_to}
use Rattle.sk_text.specs.Words.{one_of}
use Rattle.sk_asm.specs.Grammar.{◌>>=◌}
use Rattle.sk_names.specs.declared.architecture.Architecture.{Architecture}
use Rattle.sk_names.specs.declared.architecture.Architecture.TheVariants.{Arm, I386}
use Rattle.sk_replay.specs.declared.value.Value.{Value}
use Rattle.sk_replay.specs.declared.value.Value.TheVariants.{Told, Unknown}
use Rattle.sk_replay.specs.declared.written.Written.{Written}
use Rattle.sk_replay.specs.declared.written.Written.TheVariants.{ByRegister, Otherwise}
use Rattle.sk_replay.specs.CallWords.{argument_of}

-- ---- which argument is which register

-- strace joins numbers of 64 bits that lie in two registers of 32 bits; and it leaves out a register of preadv2 and pwritev2
unfoldable pub written : Architecture → List ℕ → Written
written I386 name = Otherwise
written Arm name = Otherwise
written by name = if bytes_eq name (codes "preadv2") || bytes_eq name (codes "pwritev2") then Otherwise else ByRegister

-- ---- one argument

-- without what `-y` tells behind a descriptor, from its `<` (60) on
unfoldable pub bare : List ℕ → List ℕ
bare text =
    if ends_with nat_eq text (codes ">") || ends_with nat_eq text (codes ">(deleted)")
    then before_first (λ byte. byte == 60) text
    else text

-- the only word, or the one before a comment
abbrev pub word_before : Bool → List (List ℕ) → Option (List ℕ)
word_before is_commented [] = None
word_before is_commented (word ∷ []) = Some word
word_before is_commented (word ∷ second ∷ words) = if bytes_eq second (codes "/*") && is_commented then Some word else None

abbrev pub only_word : List ℕ → Option (List ℕ)
only_word text = word_before (ends_with nat_eq text (codes "*/")) (words_of (bare text))

-- without the name that stands before the stack and the flags of clone(2)
unfoldable pub unnamed : List ℕ → List ℕ
unnamed word =
    if starts_with nat_eq word (codes "child_stack=") then drop 12 word
    else if starts_with nat_eq word (codes "flags=") then drop 6 word
    else word

abbrev pub told_or_unknown : Result ℕ (List ℕ) → Value
told_or_unknown (Ok number) = Told number
told_or_unknown (Err part) = Unknown

-- a digit or a letter
unfoldable pub is_plain_byte : ℕ → Bool
is_plain_byte byte = (nat_le 48 byte && nat_le byte 57) || (nat_le 65 byte && nat_le byte 90) || (nat_le 97 byte && nat_le byte 122)

-- so begins a number or a name. Of a number below 0 it is not known whether it is an int: then C leaves the upper half of its
-- register 0
abbrev pub is_plain : List ℕ → Bool
is_plain [] = false
is_plain (first ∷ rest) = is_plain_byte first

-- the number that a word is, or the bits of its parts
abbrev pub decoded : Option (List ℕ) → Value
decoded None = Unknown
decoded (Some word) = if is_plain word then told_or_unknown (argument_of (unnamed word)) else Unknown

-- as `-e raw=all` writes each register: `0`, or `0x` and hexadecimal digits
unfoldable pub raw_number : List ℕ → Option ℕ
raw_number word =
    if bytes_eq word (codes "0") || starts_with nat_eq word (codes "0x") then up_to (2 ^ 64 - 1) (number_of word) else None

abbrev pub only_raw : List ℕ → Option ℕ
only_raw text = one_of (words_of text) >>= λ word. raw_number word

abbrev pub raw : Option ℕ → Value
raw None = Unknown
raw (Some number) = Told number

-- the number of an argument, where it shows one of which the register is known
unfoldable pub value_of : Written → List ℕ → Value
value_of ByRegister text = decoded (only_word text)
value_of Otherwise text = raw (only_raw text)
