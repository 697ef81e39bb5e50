-- Which faults assembler lines have, and which of them is told. It knows no pass: a fault is one of a line, by what
-- the lines before it say and by the labels that all lines give.
use Rattle.std.specs.Prelude.{◌≡◌, ◌≤◌, ◌<◌, ◌⊎◌, ℕ, ◌+◌, ◌-◌, ◌^◌, nat_lt, if◌then◌else◌, IsTrue, List, [], ◌∷◌, ◌++◌, length, Option, Some, None, is_some}
use Rattle.std.specs.List.{list_all}
use Rattle.sk_text.specs.Lines.{lines_of, is_printable_byte}
use Rattle.sk_asm.specs.declared.fault.AsmFault.{AsmFault}
use Rattle.sk_asm.specs.declared.fault.AsmFault.TheVariants.{Line, Label, Twice, Far, Back, TooLong, Memory}
use Rattle.sk_asm.specs.Grammar.{Destination, Labelled, Statement, Marks, Plain, Jumps, Branches, statement_of}
use Rattle.sk_asm.specs.Labels.{Labels, label_place}

-- ---- what lines say

-- what a line of at most 255 printable bytes says
unfoldable pub said : List ℕ → Option Statement
said line =
    if nat_lt 255 (length line) then None
    else if list_all is_printable_byte line then statement_of line
    else None

-- how many instructions it says
abbrev pub size : Option Statement → ℕ
size (Some (Plain given)) = 1
size (Some (Jumps code to)) = 1
size (Some (Branches code k jt jf)) = 1
size other = 0

-- the label that it gives, where the next instruction has this place
abbrev pub given_at : ℕ → Option Statement → Labels
given_at at (Some (Marks name)) = (name, at) ∷ []
given_at at other = []

-- where it jumps, and over how many instructions at most
abbrev pub destinations : Option Statement → List (ℕ × Destination)
destinations (Some (Jumps code to)) = (2 ^ 32 - 1, to) ∷ []
destinations (Some (Branches code k jt jf)) = (255, jt) ∷ (255, jf) ∷ []
destinations other = []

-- the instructions of lines
abbrev pub instructions_said : List (List ℕ) → ℕ
instructions_said [] = 0
instructions_said (line ∷ lines) = size (said line) + instructions_said lines

-- their labels, where the next instruction has this place
abbrev pub labels_said : ℕ → List (List ℕ) → Labels
labels_said at [] = []
labels_said at (line ∷ lines) = given_at at (said line) ++ labels_said (at + size (said line)) lines

-- ---- jumps

-- a jump of line n, from a place over so many instructions at most, has this fault
abbrev pub HasJumpFault : Labels → ℕ → ℕ → ℕ → Destination → AsmFault → Type 0
HasJumpFault labels n at most (Labelled name) (Label m) = (m ≡ n) × (label_place labels name ≡ None)
HasJumpFault labels n at most (Labelled name) (Back m) =
    (m ≡ n) × ((place : ℕ) × (label_place labels name ≡ Some place) × (place ≤ at))
HasJumpFault labels n at most (Labelled name) (Far m) =
    (m ≡ n) × ((place : ℕ) × (label_place labels name ≡ Some place) × (at + 1 + most < place))
HasJumpFault labels n at most to fault = ⊥

-- the first jump of a line that has a fault has this one
abbrev pub FirstJumpFault : Labels → ℕ → ℕ → List (ℕ × Destination) → AsmFault → Type 0
FirstJumpFault labels n at [] fault = ⊥
FirstJumpFault labels n at (to ∷ others) fault =
    HasJumpFault labels n at to.0 to.1 fault
    ⊎ (((other : AsmFault) → HasJumpFault labels n at to.0 to.1 other → ⊥) × FirstJumpFault labels n at others fault)

-- ---- faults

-- this holds of line n, where the first has this number, and of the lines before it
abbrev pub AtLine : ℕ → List (List ℕ) → ℕ → (List (List ℕ) → List ℕ → Type 0) → Type 0
AtLine first lines n P =
    (before : List (List ℕ)) × ((line : List ℕ) × ((after : List (List ℕ))
    × (lines ≡ before ++ line ∷ after) × (n ≡ first + length before) × P before line))

abbrev pub HasJumpFaultAt : ℕ → List (List ℕ) → ℕ → AsmFault → Type 0
HasJumpFaultAt first lines n fault =
    AtLine first lines n (λ before line. FirstJumpFault (labels_said 0 lines) n (instructions_said before) (destinations (said line)) fault)

-- the lines, of which the first has this number, have this fault
abbrev pub HasFault : ℕ → List (List ℕ) → AsmFault → Type 0
HasFault first lines (Line n) = AtLine first lines n (λ before line. (length line ≤ 255) × (said line ≡ None))
HasFault first lines (TooLong n) =
    AtLine first lines n (λ before line. (255 < length line) ⊎ ((size (said line) ≡ 1) × (4096 ≤ instructions_said before)))
HasFault first lines (Twice n) =
    AtLine first lines n (λ before line. (name : List ℕ) × (said line ≡ Some (Marks name)) × IsTrue (is_some (label_place (labels_said 0 before) name)))
HasFault first lines (Label n) = HasJumpFaultAt first lines n (Label n)
HasFault first lines (Back n) = HasJumpFaultAt first lines n (Back n)
HasFault first lines (Far n) = HasJumpFaultAt first lines n (Far n)
HasFault first lines Memory = ⊥

-- the order in which they are told: first those of lines by themselves and of labels, then those of jumps
abbrev pub stage_of : AsmFault → ℕ
stage_of (Line n) = 1
stage_of (TooLong n) = 1
stage_of (Twice n) = 1
stage_of (Label n) = 2
stage_of (Back n) = 2
stage_of (Far n) = 2
stage_of Memory = 0

abbrev pub line_of : AsmFault → ℕ
line_of (Line n) = n
line_of (TooLong n) = n
line_of (Twice n) = n
line_of (Label n) = n
line_of (Back n) = n
line_of (Far n) = n
line_of Memory = 0

-- it is told before the other: at an earlier stage, or at an earlier line of the same stage
abbrev pub GoesBefore : AsmFault → AsmFault → Type 0
GoesBefore fault other =
    (stage_of fault < stage_of other) ⊎ ((stage_of fault ≡ stage_of other) × (line_of fault < line_of other))

-- the fault that is told: the lines have it, and none that goes before it
abbrev pub IsFirstFault : ℕ → List (List ℕ) → AsmFault → Type 0
IsFirstFault first lines fault =
    HasFault first lines fault × ((other : AsmFault) → GoesBefore other fault → HasFault first lines other → ⊥)

-- that of a text, which has at most a mebibyte
abbrev pub IsFirstTextFault : List ℕ → AsmFault → Type 0
IsFirstTextFault text fault =
    ((1048576 < length text) × (fault ≡ TooLong 0)) ⊎ ((length text ≤ 1048576) × IsFirstFault 1 (lines_of text) fault)
