-- What it means that assembler text stands for instructions: a relation that knows no pass and no
-- fault. Each label is the place of the next instruction after its line, and a distance is a difference of places.
use Rattle.std.specs.Prelude.{◌≡◌, ◌≤◌, ℕ, ◌+◌, ◌-◌, ◌^◌, IsTrue, List, [], ◌∷◌, length, map, Some, Result, Ok, Err}
use Rattle.std.specs.List.{list_all, IsDistinct}
use Rattle.std.specs.Str.{bytes_eq}
use Rattle.sk_text.specs.Lines.{lines_of, is_printable_byte}
use Rattle.sk_insn.specs.declared.insn.Insn.{Insn}
use Rattle.sk_asm.specs.declared.fault.AsmFault.{AsmFault}
use Rattle.sk_asm.specs.declared.fault.AsmFault.TheVariants.{Memory}
use Rattle.sk_asm.specs.Grammar.{Destination, Further, Labelled, Statement, Silent, Marks, Plain, Jumps, Branches, insn, statement_of}
use Rattle.sk_asm.specs.Labels.{Labels, label_place}

-- a line of at most 255 printable bytes that says this
pub record SaysLine (line : List ℕ) (statement : Statement) : Type 0 where
  pub short : length line ≤ 255
  pub printable : IsTrue (list_all is_printable_byte line)
  pub understood : statement_of line ≡ Some statement

-- each line says its statement
abbrev pub Says : List (List ℕ) → List Statement → Type 0
Says [] [] = Unit {0}
Says [] (statement ∷ statements) = ⊥
Says (line ∷ lines) [] = ⊥
Says (line ∷ lines) (statement ∷ statements) = SaysLine line statement × Says lines statements

-- the labels that statements give, with their places, where the next instruction has this one
abbrev pub labels_from : ℕ → List Statement → Labels
labels_from at [] = []
labels_from at (Silent ∷ statements) = labels_from at statements
labels_from at (Marks name ∷ statements) = (name, at) ∷ labels_from at statements
labels_from at (Plain given ∷ statements) = labels_from (at + 1) statements
labels_from at (Jumps code to ∷ statements) = labels_from (at + 1) statements
labels_from at (Branches code k jt jf ∷ statements) = labels_from (at + 1) statements

-- no label is given twice
abbrev pub AreGivenOnce : Labels → Type 0
AreGivenOnce labels = IsDistinct bytes_eq (map (λ label. label.0) labels)

-- so many instructions stand between the one at a place and the destination, which is not behind it
abbrev pub IsDistance : Labels → ℕ → ℕ → ℕ → Destination → Type 0
IsDistance labels at most count (Further given) = count ≡ given
IsDistance labels at most count (Labelled name) = (label_place labels name ≡ Some (at + 1 + count)) × (count ≤ most)

-- this is the jump of a code at a place
abbrev pub IsJump : Labels → ℕ → ℕ → Destination → Insn → Type 0
IsJump labels at code to given =
    (count : ℕ) × IsDistance labels at (2 ^ 32 - 1) count to × (given ≡ insn code 0 0 count)

-- this is the conditional jump of a code at a place
abbrev pub IsBranch : Labels → ℕ → ℕ → ℕ → Destination → Destination → Insn → Type 0
IsBranch labels at code k jt jf given =
    (t : ℕ) × ((f : ℕ) × IsDistance labels at 255 t jt × IsDistance labels at 255 f jf × (given ≡ insn code t f k))

-- the instructions, of which the first has this place, are those of the statements
abbrev pub StandFor : Labels → ℕ → List Statement → List Insn → Type 0
StandFor labels at [] [] = Unit {0}
StandFor labels at [] (given ∷ insns) = ⊥
StandFor labels at (Silent ∷ statements) insns = StandFor labels at statements insns
StandFor labels at (Marks name ∷ statements) insns = StandFor labels at statements insns
StandFor labels at (Plain said ∷ statements) [] = ⊥
StandFor labels at (Plain said ∷ statements) (given ∷ insns) = (given ≡ said) × StandFor labels (at + 1) statements insns
StandFor labels at (Jumps code to ∷ statements) [] = ⊥
StandFor labels at (Jumps code to ∷ statements) (given ∷ insns) =
    IsJump labels at code to given × StandFor labels (at + 1) statements insns
StandFor labels at (Branches code k jt jf ∷ statements) [] = ⊥
StandFor labels at (Branches code k jt jf ∷ statements) (given ∷ insns) =
    IsBranch labels at code k jt jf given × StandFor labels (at + 1) statements insns

-- lines that say these statements stand for these instructions, of which there are at most 4096
pub record AssemblesBy (lines : List (List ℕ)) (insns : List Insn) (statements : List Statement) : Type 0 where
  pub says : Says lines statements
  pub once : AreGivenOnce (labels_from 0 statements)
  pub few : length insns ≤ 4096
  pub stand : StandFor (labels_from 0 statements) 0 statements insns

-- lines stand for instructions
abbrev pub Assembles : List (List ℕ) → List Insn → Type 0
Assembles lines insns = (statements : List Statement) × AssemblesBy lines insns statements

-- a text of at most a mebibyte does
abbrev pub AssemblesText : List ℕ → List Insn → Type 0
AssemblesText text insns = (length text ≤ 1048576) × Assembles (lines_of text) insns

-- the answer is these instructions, unless memory was refused
abbrev pub Finds : {T : Type 0} → (T → List Insn) → Result T AsmFault → List Insn → Type 0
Finds view (Ok value) insns = view value ≡ insns
Finds view (Err fault) insns = fault ≡ Memory
