-- The faults of an assembler text, in the order in which they count: in a first pass the least line
-- that is too long, is not understood, gives a label again or holds an instruction too many; in a second one the
-- least line whose jump has no label, goes backwards or goes too far.
use Rattle.std.specs.Prelude.{ℕ, ◌+◌, ◌-◌, ◌^◌, nat_le, nat_lt, if◌then◌else◌, List, [], ◌∷◌, ◌++◌, length, Option, Some, None, is_some, Result, Ok, Err}
use Rattle.std.specs.Option.{option_len}
use Rattle.std.specs.List.{list_all}
use Rattle.sk_text.specs.Lines.{lines_of, is_printable_byte}
use Rattle.sk_insn.specs.declared.insn.Insn.{Insn}
use Rattle.sk_asm.specs.declared.fault.AsmFault.{AsmFault}
use Rattle.sk_asm.specs.declared.fault.AsmFault.TheVariants.{Line, Label, Twice, Far, Back, TooLong}
use Rattle.sk_asm.specs.Faults.{◌>>=◌}
use Rattle.sk_asm.specs.Grammar.{Destination, Further, Labelled, Statement, Silent, Marks, Plain, Jumps, Branches, insn, statement_of}
use Rattle.sk_asm.specs.Labels.{Labels, label_place}

-- ---- a line by itself

abbrev pub understood : ℕ → Option Statement → Result Statement AsmFault
understood n None = Err (Line n)
understood n (Some statement) = Ok statement

-- what line n says, or its fault: at most 255 bytes, all printable, and a statement
unfoldable pub checked : ℕ → List ℕ → Result Statement AsmFault
checked n line =
    if nat_lt 255 (length line) then Err (TooLong n)
    else if list_all is_printable_byte line then understood n (statement_of line)
    else Err (Line n)

-- ---- the first pass: labels, and how many instructions there are

-- an instruction more, of 4096 at most
abbrev pub counted : ℕ → Labels → ℕ → Result (Labels × ℕ) AsmFault
counted n labels at = if nat_lt at 4096 then Ok (labels, at + 1) else Err (TooLong n)

-- a label more, that is not given yet
abbrev pub marked : ℕ → Labels → ℕ → List ℕ → Result (Labels × ℕ) AsmFault
marked n labels at name =
    if is_some (label_place labels name) then Err (Twice n) else Ok (labels ++ (name, at) ∷ [], at)

-- the labels and the count after the statement of line n
unfoldable pub noted : ℕ → Labels → ℕ → Statement → Result (Labels × ℕ) AsmFault
noted n labels at Silent = Ok (labels, at)
noted n labels at (Marks name) = marked n labels at name
noted n labels at (Plain given) = counted n labels at
noted n labels at (Jumps code to) = counted n labels at
noted n labels at (Branches code k jt jf) = counted n labels at

-- the labels after all lines, of which n is the first
unfoldable pub labelled : ℕ → Labels → ℕ → List (List ℕ) → Result Labels AsmFault
labelled n labels at [] = Ok labels
labelled n labels at (line ∷ lines) = do
  statement ← checked n line
  next ← noted n labels at statement
  labelled (n + 1) next.0 next.1 lines

-- ---- the second pass: distances

-- the distance from the instruction at a place to a label's place
abbrev pub landed : ℕ → ℕ → ℕ → Option ℕ → Result ℕ AsmFault
landed n at most None = Err (Label n)
landed n at most (Some place) =
    if nat_le place at then Err (Back n)
    else if nat_lt most (place - at - 1) then Err (Far n)
    else Ok (place - at - 1)

unfoldable pub distance : Labels → ℕ → ℕ → ℕ → Destination → Result ℕ AsmFault
distance labels n at most (Further count) = Ok count
distance labels n at most (Labelled name) = landed n at most (label_place labels name)

-- the instruction at a place, if the statement of line n is one
unfoldable pub resolved : Labels → ℕ → ℕ → Statement → Result (Option Insn) AsmFault
resolved labels n at Silent = Ok None
resolved labels n at (Marks name) = Ok None
resolved labels n at (Plain given) = Ok (Some given)
resolved labels n at (Jumps code to) = do
  k ← distance labels n at (2 ^ 32 - 1) to
  Ok (Some (insn code 0 0 k))
resolved labels n at (Branches code k jt jf) = do
  t ← distance labels n at 255 jt
  f ← distance labels n at 255 jf
  Ok (Some (insn code t f k))

abbrev pub in_front : Option Insn → List Insn → List Insn
in_front None insns = insns
in_front (Some given) insns = given ∷ insns

-- the instructions of all lines, of which n is the first
unfoldable pub emitted : Labels → ℕ → ℕ → List (List ℕ) → Result (List Insn) AsmFault
emitted labels n at [] = Ok []
emitted labels n at (line ∷ lines) = do
  statement ← checked n line
  given ← resolved labels n at statement
  insns ← emitted labels (n + 1) (at + option_len given) lines
  Ok (in_front given insns)

-- ---- both

-- the instructions of lines of which n is the first, or the first fault
unfoldable pub assembled_lines : ℕ → List (List ℕ) → Result (List Insn) AsmFault
assembled_lines n lines = do
  labels ← labelled n [] 0 lines
  emitted labels n 0 lines

-- those of a text of at most a mebibyte
unfoldable pub assembled : List ℕ → Result (List Insn) AsmFault
assembled text = if nat_lt 1048576 (length text) then Err (TooLong 0) else assembled_lines 1 (lines_of text)
