-- The text of `ask show`: for each instruction a label where jumps go, a comment with its place and what is said of it, and
-- the instruction, whose jumps name labels, in the forms of McCanne and Jacobson (1993) that the assembler takes.
use Rattle.std.specs.Prelude.{ℕ, ◌+◌, ◌==◌, ◌&&◌, ◌++◌, nat_lt, if◌then◌else◌, List, [], ◌∷◌, flat_map, length, codes, Option, Some, None}
use Rattle.std.specs.Fmt.{decimal}
use Rattle.std.specs.List.{join_with_byte}
use Rattle.sk_insn.specs.declared.insn.Insn.{Insn}
use Rattle.sk_insn.specs.declared.operation.Operand.TheVariants.{Constant, IndexRegister}
use Rattle.sk_insn.specs.declared.operation.Operation.{Operation}
use Rattle.sk_insn.specs.declared.operation.Operation.TheVariants.{Jump, Branch}
use Rattle.sk_insn.specs.Operations.{name_of, operation_of}
use Rattle.sk_asm.specs.Listing.{distance_word, words_for}
use Rattle.sk_names.specs.declared.architecture.Architecture.{Architecture}
use Rattle.sk_show.specs.declared.held.Held.{Held}
use Rattle.sk_show.specs.Coming.{named_at}
use Rattle.sk_show.specs.Holding.{Way, ways_to}
use Rattle.sk_show.specs.Notes.{note_text}

-- ---- instructions

-- the label of a place, `at12`
abbrev pub label_name : ℕ → List ℕ
label_name place = codes "at" ++ decimal place

-- a side of a jump, from a place among so many: the label of where it lands, or the distance where it goes on at the next
-- place, or out of the program
unfoldable pub side_word : ℕ → ℕ → ℕ → List ℕ
side_word count at distance =
    if nat_lt 0 distance && nat_lt (at + 1 + distance) count then label_name (at + 1 + distance) else distance_word distance

-- a jump has labels for distances, if its form shows all its fields; any other instruction is as it is listed
abbrev pub shown_as : ℕ → ℕ → Option Operation → Insn → List (List ℕ)
shown_as count at (Some Jump) insn =
    if insn.jt == 0 && insn.jf == 0 then name_of Jump ∷ side_word count at insn.k ∷ [] else words_for insn
shown_as count at (Some (Branch comparison Constant)) insn =
    name_of (Branch comparison Constant) ∷ decimal insn.k ∷ side_word count at insn.jt ∷ side_word count at insn.jf ∷ []
shown_as count at (Some (Branch comparison IndexRegister)) insn =
    if insn.k == 0
    then name_of (Branch comparison IndexRegister) ∷ side_word count at insn.jt ∷ side_word count at insn.jf ∷ []
    else words_for insn
shown_as count at operation insn = words_for insn

unfoldable pub shown_words : ℕ → ℕ → Insn → List (List ℕ)
shown_words count at insn = shown_as count at (operation_of insn.code) insn

-- ---- lines

abbrev pub label_lines : ℕ → Option Held → List (List ℕ)
label_lines place None = []
label_lines place (Some held) = (label_name place ++ codes ":") ∷ []

unfoldable pub comment_line : Option Architecture → ℕ → Held → Insn → List ℕ
comment_line by at held insn = codes "; " ++ (decimal at ++ note_text by held (operation_of insn.code) insn)

unfoldable pub insn_line : ℕ → ℕ → Insn → List ℕ
insn_line count at insn = codes "    " ++ join_with_byte 32 (shown_words count at insn)

-- those of the instruction at a place among so many, to which control comes so
abbrev pub lines_of_insn : Option Architecture → ℕ → ℕ → Way → Insn → List (List ℕ)
lines_of_insn by count at way insn = label_lines at way.jump ++ (comment_line by at way.held insn ∷ insn_line count at insn ∷ [])

-- those of all from a place on, where calls have the names of an architecture by the place
unfoldable pub lines_from : (ℕ → Option Architecture) → ℕ → ℕ → List Way → List Insn → List (List ℕ)
lines_from named count at ways [] = []
lines_from named count at [] (insn ∷ insns) = []
lines_from named count at (way ∷ ways) (insn ∷ insns) = lines_of_insn (named at) count at way insn ++ lines_from named count (at + 1) ways insns

-- each line has its end
abbrev pub text_of : List (List ℕ) → List ℕ
text_of lines = flat_map (λ line. line ++ codes "\n") lines

-- with the names of calls that the architecture has which is asked about, where no test tells of which they are
abbrev pub show_text : Architecture → List Insn → List ℕ
show_text asked insns = text_of (lines_from (named_at asked insns) (length insns) 0 (ways_to insns) insns)
