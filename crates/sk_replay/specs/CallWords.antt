-- The call that a word of a command line stands for: `CALL`, or `CALL(ARG, ..)` with at most six arguments, as strace(1)
-- writes a call, with the constants of Linux's headers. Spaces may stand around each of its parts.
use Rattle.std.specs.Prelude.{ℕ, ◌+◌, ◌-◌, ◌%◌, ◌^◌, ◌==◌, ◌++◌, nat_eq, nat_lt, if◌then◌else◌, List, [], ◌∷◌, length, take, drop, replicate, codes, bit_or, position, Option, Some, None, Result, Ok, Err}
use Rattle.std.specs.Option.{ok_or, option_map, option_or}
use Rattle.std.specs.List.{before_first, slice_split, starts_with}
use Rattle.sk_text.specs.Lines.{words_of}
use Rattle.std.specs.Str.{bytes_eq}
use Rattle.sk_text.specs.Numbers.{number_in, up_to}
use Rattle.sk_text.specs.Words.{none_of, one_of}
use Rattle.sk_insn.specs.declared.record.Record.{Record}
use Rattle.sk_names.specs.declared.architecture.Architecture.{Architecture}
use Rattle.sk_names.specs.Architectures.{audit_of}
use Rattle.sk_arguments.specs.Constants.{number_of_constant}
use Rattle.sk_replay.specs.Faults.{Fault, no_call, unclosed, unquoted, wrong, too_many}
use Rattle.sk_replay.specs.WordCalls.{nr_of, plain_number}

-- a step, and then another one, if the first gave a value
infixl 10 ◌>>=◌
abbrev pub ◌>>=◌ : {X Y : Type 0} → Option X → (X → Option Y) → Option Y
None >>= next = None
(Some value) >>= next = next value

-- the same, where a fault is told for the first that gave none
infixl 10 ◌&>◌
abbrev pub ◌&>◌ : {X Y E : Type 0} → Result X E → (X → Result Y E) → Result Y E
(Err fault) &> next = Err fault
(Ok value) &> next = next value

abbrev pub or_fault : {X : Type 0} → Fault → Option X → Result X Fault
or_fault fault None = Err fault
or_fault fault (Some value) = Ok value

-- ---- texts in double quotes

-- where such a text lies: always at this address of the stack, of which neither half is 0
abbrev pub address_text : List ℕ
address_text = codes " 0x7fffffffe000 "

-- what stands between double quotes is by turns outside of a text and inside; each text is its address, if the last is closed
abbrev pub with_addresses : List (List ℕ) → Option (List ℕ)
with_addresses [] = None
with_addresses (outside ∷ []) = Some outside
with_addresses (outside ∷ inside ∷ rest) = with_addresses rest >>= λ more. Some (outside ++ (address_text ++ more))

-- a word with an address for each text in double quotes (34)
unfoldable pub plain_of : List ℕ → Option (List ℕ)
plain_of word = with_addresses (slice_split (λ b. b == 34) word)

-- ---- parts

-- what stands before the first such byte and what behind it, where there is one
abbrev pub cut_at : ℕ → List ℕ → Option (List ℕ × List ℕ)
cut_at byte text = option_map (λ at. (take at text, drop (at + 1) text)) (position (λ b. b == byte) text)

-- what stands before the first `(` (40); the whole word where there is none
abbrev pub name_part : List ℕ → List ℕ
name_part word = before_first (λ b. b == 40) word

-- what stands before the first `)` (41), behind which nothing may stand
abbrev pub closed : List ℕ → Option (List ℕ)
closed text = do
  parts ← cut_at 41 text
  none ← none_of (words_of parts.1)
  Some parts.0

abbrev pub closed_or_none : Option (List ℕ × List ℕ) → Option (List ℕ)
closed_or_none None = Some []
closed_or_none (Some parts) = closed parts.1

-- what stands between the parentheses; nothing where there are none
unfoldable pub inside_of : List ℕ → Option (List ℕ)
inside_of word = closed_or_none (cut_at 40 word)

-- what stands between such bytes
abbrev pub cut_all : ℕ → List ℕ → List (List ℕ)
cut_all byte text = slice_split (λ b. b == byte) text

-- that of what is left behind one; nothing where there was none
abbrev pub left_of : ℕ → Option (List ℕ) → List (List ℕ)
left_of byte None = []
left_of byte (Some text) = cut_all byte text

-- the arguments between parentheses, with commas (44) between them; none where nothing stands there
abbrev pub commas_apart : List (List ℕ) → List ℕ → List (List ℕ)
commas_apart [] text = []
commas_apart (word ∷ words) text = cut_all 44 text

unfoldable pub given_in : List ℕ → List (List ℕ)
given_in text = commas_apart (words_of text) text

-- ---- arguments

-- a number below 0 as its 64 bits
abbrev pub below_zero : ℕ → ℕ
below_zero number = (2 ^ 64 - number) % 2 ^ 64

-- `-` before a number of at most 2^63
unfoldable pub negative_number : List ℕ → Option ℕ
negative_number word =
    if starts_with nat_eq word (codes "-") then (plain_number (2 ^ 63) (drop 1 word) >>= λ number. Some (below_zero number)) else None

-- that of the only word
unfoldable pub negative_of : List ℕ → Option ℕ
negative_of text = one_of (words_of text) >>= λ word. negative_number word

-- a number of 64 bits, or the constant with this name
unfoldable pub number_or_constant : List ℕ → Option ℕ
number_or_constant word = option_or (plain_number (2 ^ 64 - 1) word) (number_of_constant word)

-- digits behind a 0 are octal, as in C
unfoldable pub octal_number : List ℕ → Option ℕ
octal_number word = if starts_with nat_eq word (codes "0") then up_to (2 ^ 64 - 1) (number_in 8 (drop 1 word)) else None

-- and `NULL` is 0
unfoldable pub number_in_c : List ℕ → Option ℕ
number_in_c word = if bytes_eq word (codes "NULL") then Some 0 else option_or (number_or_constant word) (octal_number word)

-- that of the only word; or what stands there in its place
abbrev pub only_number : List ℕ → Option (List ℕ) → Result ℕ (List ℕ)
only_number text None = Err text
only_number text (Some word) = ok_or (number_in_c word) word

unfoldable pub part_of : List ℕ → Result ℕ (List ℕ)
part_of text = only_number text (one_of (words_of text))

-- these bits and those of each part, or the first part that has none
abbrev pub with_bits : ℕ → List (List ℕ) → Result ℕ (List ℕ)
with_bits bits [] = Ok bits
with_bits bits (part ∷ parts) = part_of part &> λ more. with_bits (bit_or bits more) parts

-- a number below 0, or parts with `|` (124) between them
abbrev pub negative_or : Option ℕ → List ℕ → Result ℕ (List ℕ)
negative_or (Some number) text = Ok number
negative_or None text = with_bits 0 (cut_all 124 text)

unfoldable pub argument_of : List ℕ → Result ℕ (List ℕ)
argument_of text = negative_or (negative_of text) text

-- the fault of the argument with this number
abbrev pub in_place : ℕ → Result ℕ (List ℕ) → Result ℕ Fault
in_place place (Err part) = Err (wrong place part)
in_place place (Ok number) = Ok number

-- the numbers of arguments, which are counted from this place on, or the first fault
abbrev pub numbers_from : ℕ → List (List ℕ) → Result (List ℕ) Fault
numbers_from place [] = Ok []
numbers_from place (text ∷ texts) =
    in_place place (argument_of text) &> λ number. numbers_from (place + 1) texts &> λ numbers. Ok (number ∷ numbers)

-- the six: those that are given, and 0 for the others
abbrev pub six_of : List ℕ → List ℕ
six_of numbers = take 6 (numbers ++ replicate 6 0)

abbrev pub six_or_fault : List (List ℕ) → Result (List ℕ) Fault
six_or_fault given = numbers_from 1 given &> λ numbers. Ok (six_of numbers)

unfoldable pub arguments_of : List (List ℕ) → Result (List ℕ) Fault
arguments_of given = if nat_lt 6 (length given) then Err too_many else six_or_fault given

-- ---- the whole word

-- the number of the call that is named
unfoldable pub named_by : Architecture → List ℕ → Option ℕ
named_by by word = one_of (words_of (name_part word)) >>= λ name. nr_of by name

-- the call of an architecture, with the instruction pointer 0; or the first of its faults: the name, the parentheses, too
-- many arguments, a wrong one
unfoldable pub call_of : Architecture → List ℕ → Result Record Fault
call_of by word =
    or_fault no_call (named_by by word)
    &> λ nr. or_fault unclosed (inside_of word)
    &> λ inside. arguments_of (given_in inside)
    &> λ args. Ok (record { nr = nr; arch = audit_of by; ip = 0; args = args })

-- that of a word that may have texts in double quotes; what is wrong with these is the first of its faults
abbrev pub call_meant : Architecture → List ℕ → Result Record Fault
call_meant by word = or_fault unquoted (plain_of word) &> λ plain. call_of by plain
