-- What the code knows of an instruction without a fault, in the form in which it uses it. The rules themselves
-- stand in Places.
use Rattle.std.specs.Prelude.{ℕ, ◌%◌, ◌≡◌, ◌<◌, IsTrue, List, Option, Some, None}
use Rattle.sk_insn.specs.declared.insn.Insn.{Insn}
use Rattle.sk_insn.specs.declared.operation.Operand.TheVariants.{Constant}
use Rattle.sk_insn.specs.declared.operation.Operation.{Operation}
use Rattle.sk_insn.specs.declared.operation.Operation.TheVariants.{LoadRecord, LoadScratch, StoreScratch, Compute, Jump, Branch}
use Rattle.sk_insn.specs.Operations.{is_constant_for}
use Rattle.sk_filter.specs.declared.fault.CheckFault.{CheckFault}
use Rattle.sk_filter.specs.Paths.{Onward, Nowhere, To, Either, onward}
use Rattle.sk_filter.specs.Valid.{HasFault, stage_of}

-- its operation takes its constant
abbrev pub TakesConstant : Option Operation → Insn → Type 0
TakesConstant None insn = ⊥
TakesConstant (Some LoadRecord) insn = (insn.k % 4 ≡ 0) × (insn.k < 64)
TakesConstant (Some (LoadScratch register)) insn = insn.k < 16
TakesConstant (Some (StoreScratch register)) insn = insn.k < 16
TakesConstant (Some (Compute arithmetic Constant)) insn = IsTrue (is_constant_for arithmetic insn.k)
TakesConstant (Some operation) insn = Unit {0}

-- each place where control can go on is one of so many
abbrev pub AreInside : ℕ → Onward → Type 0
AreInside count Nowhere = Unit {0}
AreInside count (To place) = place < count
AreInside count (Either place other) = (place < count) × (other < count)

-- a jump lands at one of so many places
abbrev pub LandsInside : ℕ → ℕ → Option Operation → Insn → Type 0
LandsInside place count (Some Jump) insn = AreInside count (onward place (Some Jump) insn)
LandsInside place count (Some (Branch comparison operand)) insn =
    AreInside count (onward place (Some (Branch comparison operand)) insn)
LandsInside place count operation insn = Unit {0}

-- it has no fault by itself, at its place among so many
abbrev pub Fits : ℕ → ℕ → Option Operation → Insn → Type 0
Fits place count operation insn = TakesConstant operation insn × LandsInside place count operation insn

-- the program has no fault of an earlier stage
abbrev pub NoFaultBefore : List Insn → ℕ → Type 0
NoFaultBefore insns stage = (fault : CheckFault) → stage_of fault < stage → HasFault insns fault → ⊥
