-- The text that lists instructions, one line for each: in the form of its operation, after McCanne and
-- Jacobson (1993), where the code is permitted by seccomp(2) and the form has a word for each field that
-- is not 0, and else by the four fields of `struct sock_filter`.
use Rattle.std.specs.Prelude.{ℕ, ◌==◌, ◌&&◌, Bool, true, if◌then◌else◌, List, [], ◌∷◌, ◌++◌, flat_map, codes, Option, Some, None}
use Rattle.std.specs.Fmt.{decimal}
use Rattle.std.specs.List.{join_with_byte}
use Rattle.sk_text.specs.Hexadecimal.{hex_word, hex_half}
use Rattle.sk_insn.specs.Operations.{operation_of, name_of}
use Rattle.sk_insn.specs.declared.insn.Insn.{Insn}
use Rattle.sk_insn.specs.declared.operation.Operation.{Operation}
use Rattle.sk_asm.specs.Grammar.{shape_of}
use Rattle.sk_asm.specs.declared.shape.Shape.{Shape}
use Rattle.sk_asm.specs.declared.shape.Shape.TheVariants.{Bare, Number, Action, Target, Compare, CompareIndex}

-- ---- words

-- `+N`, a distance
abbrev pub distance_word : ℕ → List ℕ
distance_word count = codes "+" ++ decimal count

-- `0x` and the 8 digits of a number of 32 bits, or the 4 of one of 16 bits
abbrev pub word_digits : ℕ → List ℕ
word_digits value = codes "0x" ++ hex_word value

abbrev pub half_digits : ℕ → List ℕ
half_digits value = codes "0x" ++ hex_half value

-- ---- one instruction

-- the fields that a shape has no words for are 0
abbrev pub unused_are_zero : Shape → Insn → Bool
unused_are_zero Bare insn = insn.jt == 0 && insn.jf == 0 && insn.k == 0
unused_are_zero Number insn = insn.jt == 0 && insn.jf == 0
unused_are_zero Action insn = insn.jt == 0 && insn.jf == 0
unused_are_zero Target insn = insn.jt == 0 && insn.jf == 0
unused_are_zero Compare insn = true
unused_are_zero CompareIndex insn = insn.k == 0

-- the words that follow an operation's name
abbrev pub operands_of : Shape → Insn → List (List ℕ)
operands_of Bare insn = []
operands_of Number insn = decimal insn.k ∷ []
operands_of Action insn = word_digits insn.k ∷ []
operands_of Target insn = distance_word insn.k ∷ []
operands_of Compare insn = decimal insn.k ∷ distance_word insn.jt ∷ distance_word insn.jf ∷ []
operands_of CompareIndex insn = distance_word insn.jt ∷ distance_word insn.jf ∷ []

-- an instruction by its fields: `.insn C JT JF K`
abbrev pub field_words : Insn → List (List ℕ)
field_words insn =
    codes ".insn" ∷ half_digits insn.code ∷ decimal insn.jt ∷ decimal insn.jf ∷ word_digits insn.k ∷ []

-- in the form of its operation, if it has one and the form shows all
abbrev pub words_as : Option Operation → Insn → List (List ℕ)
words_as None insn = field_words insn
words_as (Some operation) insn =
    if unused_are_zero (shape_of operation) insn then name_of operation ∷ operands_of (shape_of operation) insn
    else field_words insn

-- the operation is that of the code
unfoldable pub words_for : Insn → List (List ℕ)
words_for insn = words_as (operation_of insn.code) insn

-- its line: the words with a space (32) between each two, and a line end (10)
abbrev pub line_for : Insn → List ℕ
line_for insn = join_with_byte 32 (words_for insn) ++ codes "\n"

-- ---- the listing

abbrev pub listing_of : List Insn → List ℕ
listing_of insns = flat_map line_for insns
