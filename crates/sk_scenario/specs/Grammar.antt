-- What one line of a scenario says: at the top level, in a filter's block of bytes, and in a program's block.
use Rattle.std.specs.Prelude.{ℕ, suc, zero, ◌-◌, ◌%◌, ◌^◌, nat_eq, if◌then◌else◌, Bool, true, false, List, [], ◌∷◌, drop, codes, replicate, Option, Some, None}
use Rattle.std.specs.Option.{option_map}
use Rattle.std.specs.List.{starts_with}
use Rattle.std.specs.Str.{bytes_eq}
use Rattle.sk_text.specs.Hexadecimal.{hex_bytes}
use Rattle.sk_text.specs.Lines.{words_of, begins_comment}
use Rattle.sk_text.specs.Numbers.{number_of, up_to}
use Rattle.sk_text.specs.Words.{is_name, none_of, one_of}
use Rattle.sk_names.specs.declared.syscall.Syscall.TheVariants as syscall
use Rattle.sk_names.specs.Syscalls.{number_of as number_of_call, name_of, syscall_named}
use Rattle.sk_asm.specs.Grammar.{◌>>=◌}

-- ---- words

-- a word that is a name
abbrev pub only_if_name : List ℕ → Option (List ℕ)
only_if_name word = if is_name word then Some word else None

-- the only word, if it is a name
abbrev pub only_name : List (List ℕ) → Option (List ℕ)
only_name words = one_of words >>= λ word. only_if_name word

-- ---- the top level

-- a line that stands alone
pub data Remark : Type 0 where
  Silent : Remark
  Turns : ℕ → Remark
  Subreapers : Remark

-- a line that opens a block: of a filter with its name, or of a program with its name, its owner and
-- whether it sets the user id
pub data Opening : Type 0 where
  Filter : List ℕ → Opening
  Program : List ℕ → ℕ → Bool → Opening

pub data Heading : Type 0 where
  Alone : Remark → Heading
  Opens : Opening → Heading

-- `setuid`, and no word behind it
abbrev pub setuid_with : List ℕ → List (List ℕ) → Option Bool
setuid_with word words = if bytes_eq word (codes "setuid") then (none_of words >>= λ none. Some true) else None

-- no word, or `setuid`
abbrev pub setuid_of : List (List ℕ) → Option Bool
setuid_of [] = Some false
setuid_of (word ∷ words) = setuid_with word words

-- an owner is below 4294967295
abbrev pub owned : List ℕ → List (List ℕ) → Option Heading
owned name [] = None
owned name (word ∷ words) = up_to (2 ^ 32 - 2) (number_of word) >>= λ owner. setuid_of words >>= λ setuid. Some (Opens (Program name owner setuid))

abbrev pub program_by : List ℕ → List (List ℕ) → Option Heading
program_by name [] = Some (Opens (Program name 0 false))
program_by name (word ∷ words) =
    if bytes_eq word (codes "owner") then owned name words
    else (setuid_with word words >>= λ setuid. Some (Opens (Program name 0 setuid)))

abbrev pub program_of : List (List ℕ) → Option Heading
program_of [] = None
program_of (word ∷ words) = only_if_name word >>= λ name. program_by name words

abbrev pub turns_of : List (List ℕ) → Option Heading
turns_of words = one_of words >>= λ word. number_of word >>= λ n. Some (Alone (Turns n))

unfoldable pub headed : List ℕ → List (List ℕ) → Option Heading
headed first words =
    if bytes_eq first (codes "turns") then turns_of words
    else if bytes_eq first (codes "subreapers") then (none_of words >>= λ none. Some (Alone Subreapers))
    else if bytes_eq first (codes "filter") then (only_name words >>= λ name. Some (Opens (Filter name)))
    else if bytes_eq first (codes "program") then program_of words
    else None

abbrev pub heading_in : List (List ℕ) → Option Heading
heading_in [] = None
heading_in (first ∷ words) = headed first words

-- what a line at the top level says, if it is understood
unfoldable pub heading_of : List ℕ → Option Heading
heading_of line = if begins_comment (words_of line) then Some (Alone Silent) else heading_in (words_of line)

-- ---- a filter's block of bytes

-- `bytes` is the first word
abbrev pub begins_bytes : List (List ℕ) → Bool
begins_bytes [] = false
begins_bytes (first ∷ words) = bytes_eq first (codes "bytes")

abbrev pub bytes_in : List (List ℕ) → Option (List ℕ)
bytes_in [] = None
bytes_in (first ∷ words) = if bytes_eq first (codes "bytes") then hex_bytes words else None

-- the bytes that a line of such a block adds, if it is understood
unfoldable pub bytes_of : List ℕ → Option (List ℕ)
bytes_of line = if begins_comment (words_of line) then Some [] else bytes_in (words_of line)

-- ---- a program's block

-- an argument: a number, the number of a filter or program, or the number of a program and 2, as a handler
pub data Argument : Type 0 where
  Plain : ℕ → Argument
  NumberOf : List ℕ → Argument
  HandlerOf : List ℕ → Argument

-- a call that a line asks for: its number, its six arguments, and the program that a child goes on with
pub record Asked : Type 0 where
  pub nr : ℕ
  pub arguments : List Argument
  pub child : Option (List ℕ)

-- a decimal number
unfoldable pub decimal_of : List ℕ → Option ℕ
decimal_of word = if starts_with nat_eq word (codes "0x") then None else number_of word

-- `@name`, `&name`, `-N` in two's complement, or a number below 2^64
unfoldable pub argument_of : List ℕ → Option Argument
argument_of word =
    if starts_with nat_eq word (codes "@") then (only_if_name (drop 1 word) >>= λ name. Some (NumberOf name))
    else if starts_with nat_eq word (codes "&") then (only_if_name (drop 1 word) >>= λ name. Some (HandlerOf name))
    else if starts_with nat_eq word (codes "-") then (up_to (2 ^ 63) (decimal_of (drop 1 word)) >>= λ n. Some (Plain ((2 ^ 64 - n) % 2 ^ 64)))
    else (up_to (2 ^ 64 - 1) (number_of word) >>= λ n. Some (Plain n))

-- the first argument, which is 0 where it is absent
abbrev pub next_argument : List (List ℕ) → Option Argument
next_argument [] = Some (Plain 0)
next_argument (word ∷ words) = argument_of word

-- so many arguments, and no word behind them
abbrev pub arguments_of : ℕ → List (List ℕ) → Option (List Argument)
arguments_of zero words = none_of words >>= λ none. Some []
arguments_of (suc more) words = next_argument words >>= λ argument. arguments_of more (drop 1 words) >>= λ others. Some (argument ∷ others)

abbrev pub asked_with : ℕ → List (List ℕ) → Option Asked
asked_with nr words = arguments_of 6 words >>= λ arguments. Some (record { nr = nr; arguments = arguments; child = None })

-- `fork` alone, or with the program that the child goes on with; its registers are 0
abbrev pub forked : List (List ℕ) → Option Asked
forked [] = Some (record { nr = number_of_call syscall.Fork; arguments = replicate 6 (Plain 0); child = None })
forked (word ∷ words) = none_of words >>= λ none. only_if_name word >>= λ name. Some (record { nr = number_of_call syscall.Fork; arguments = replicate 6 (Plain 0); child = Some name })

-- `call NR`, and arguments
abbrev pub numbered : List (List ℕ) → Option Asked
numbered [] = None
numbered (word ∷ words) = up_to (2 ^ 32 - 1) (number_of word) >>= λ nr. asked_with nr words

unfoldable pub asked : List ℕ → List (List ℕ) → Option Asked
asked first words =
    if bytes_eq first (codes "call") then numbered words
    else if bytes_eq first (name_of syscall.Fork) then forked words
    else (syscall_named first >>= λ call. asked_with (number_of_call call) words)

abbrev pub asked_in : List (List ℕ) → Option (Option Asked)
asked_in [] = None
asked_in (first ∷ words) = option_map Some (asked first words)

-- the call that a line of a program's block asks for, or none, if it is understood
unfoldable pub asked_of : List ℕ → Option (Option Asked)
asked_of line = if begins_comment (words_of line) then Some None else asked_in (words_of line)
