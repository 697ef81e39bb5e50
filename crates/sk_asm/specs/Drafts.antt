-- What the first pass leaves to the second one: all instructions, and beside them the jumps that have a label, whose
-- distances are not known yet.
use Rattle.std.specs.Prelude.{◌≡◌, ◌<◌, ◌++◌, ◌||◌, ℕ, Bool, true, false, if◌then◌else◌, List, [], ◌∷◌, Option, Some, None, Result, Ok, slice_set}
use Rattle.sk_insn.specs.declared.insn.Insn.{Insn}
use Rattle.sk_asm.specs.declared.fault.AsmFault.{AsmFault}
use Rattle.sk_asm.specs.Faults.{◌>>=◌, IsAsmFault}
use Rattle.sk_asm.specs.Grammar.{Destination, Further, Labelled, Statement, Silent, Marks, Plain, Jumps, Branches, insn}
use Rattle.sk_asm.specs.Labels.{Labels}
use Rattle.sk_asm.specs.Passes.{noted, resolved, in_front}

-- ---- one statement

-- a distance that is a count, and 0 in place of one to a label
abbrev pub drafted : Destination → ℕ
drafted (Further count) = count
drafted (Labelled name) = 0

-- the instruction that a statement is, but for the distances to labels
abbrev pub draft_of : Statement → Option Insn
draft_of Silent = None
draft_of (Marks name) = None
draft_of (Plain given) = Some given
draft_of (Jumps code to) = Some (insn code 0 0 (drafted to))
draft_of (Branches code k jt jf) = Some (insn code (drafted jt) (drafted jf) k)

abbrev pub is_label : Destination → Bool
is_label (Further count) = false
is_label (Labelled name) = true

abbrev pub has_label : Statement → Bool
has_label Silent = false
has_label (Marks name) = false
has_label (Plain given) = false
has_label (Jumps code to) = is_label to
has_label (Branches code k jt jf) = is_label jt || is_label jf

-- ---- the jumps that have a label

-- the place of one, the number of its line, and what that says
abbrev pub Pending : Type 0
Pending = ℕ × ℕ × Statement

-- the statement of line n, at a place, if it is one
abbrev pub pending_of : ℕ → ℕ → Statement → List Pending
pending_of at n statement = if has_label statement then (at, n, statement) ∷ [] else []

-- each stands among so many instructions
abbrev pub AreAmong : ℕ → List Pending → Type 0
AreAmong size [] = Unit {0}
AreAmong size (jump ∷ jumps) = (jump.0 < size) × AreAmong size jumps

-- instructions, one of which is replaced
abbrev pub replaced : List Insn → ℕ → Option Insn → List Insn
replaced insns at None = insns
replaced insns at (Some given) = slice_set insns at given

-- the instructions, with the distances of these jumps
abbrev pub completed : Labels → List Insn → List Pending → Result (List Insn) AsmFault
completed labels insns [] = Ok insns
completed labels insns (jump ∷ jumps) =
    resolved labels jump.1 jump.0 jump.2 >>= λ given. completed labels (replaced insns jump.0 given) jumps

-- ---- line by line

-- what was found in the lines before
pub record Seen : Type 0 where
  pub labels : Labels
  pub insns : List Insn
  pub jumps : List Pending

-- line n says this, and does so to what was found, where the next instruction has a place, and then another one
abbrev pub Takes : ℕ → ℕ → Statement → Seen → Seen → ℕ → Type 0
Takes n at statement old new next =
    (noted n old.labels at statement ≡ Ok (new.labels, next))
    × ((new.insns ≡ old.insns ++ in_front (draft_of statement) []) × (new.jumps ≡ old.jumps ++ pending_of at n statement))

-- the fault of a line that is not taken
abbrev pub IsUntaken : ℕ → ℕ → Statement → Seen → AsmFault → Type 0
IsUntaken n at statement old fault = IsAsmFault fault (noted n old.labels at statement)
