-- The rules of seccomp(2) on single instructions: for each operation what it asks of its constant and of its
-- distances, and the fault of an instruction that does not have it.
use Rattle.std.specs.Prelude.{ℕ, ◌%◌, ◌==◌, nat_lt, Bool, true, false, ◌&&◌, Option, Some, None}
use Rattle.sk_insn.specs.declared.insn.Insn.{Insn}
use Rattle.sk_insn.specs.declared.operation.Operand.TheVariants.{Constant}
use Rattle.sk_insn.specs.declared.operation.Arithmetic.TheVariants.{Divide, ShiftLeft, ShiftRight}
use Rattle.sk_insn.specs.declared.operation.Operation.{Operation}
use Rattle.sk_insn.specs.declared.operation.Operation.TheVariants.{LoadRecord, LoadScratch, StoreScratch, Compute, Jump, Branch}
use Rattle.sk_insn.specs.Operations.{is_constant_for}
use Rattle.sk_filter.specs.declared.fault.CheckFault.{CheckFault}
use Rattle.sk_filter.specs.declared.fault.CheckFault.TheVariants.{Code, Load, DivZero, Shift, Word, Jump as JumpOut}
use Rattle.sk_filter.specs.Paths.{Onward, Nowhere, To, Either, onward}

-- none where the test holds, else the fault
abbrev pub unless : Bool → CheckFault → Option CheckFault
unless true fault = None
unless false fault = Some fault

-- each place where control can go on is one of so many
abbrev pub are_inside : ℕ → Onward → Bool
are_inside count Nowhere = true
are_inside count (To place) = nat_lt place count
are_inside count (Either place other) = nat_lt place count && nat_lt other count

-- the fault of an instruction by itself, at its place among so many: its code is not permitted; no word of the
-- record begins at its constant; there is no such scratch word; it divides by 0 or shifts by 32 or more; it jumps out
abbrev pub fault_of : ℕ → ℕ → Option Operation → Insn → Option CheckFault
fault_of place count None insn = Some (Code place)
fault_of place count (Some LoadRecord) insn = unless ((insn.k % 4 == 0) && nat_lt insn.k 64) (Load place)
fault_of place count (Some (LoadScratch register)) insn = unless (nat_lt insn.k 16) (Word place)
fault_of place count (Some (StoreScratch register)) insn = unless (nat_lt insn.k 16) (Word place)
fault_of place count (Some (Compute Divide Constant)) insn = unless (is_constant_for Divide insn.k) (DivZero place)
fault_of place count (Some (Compute ShiftLeft Constant)) insn = unless (is_constant_for ShiftLeft insn.k) (Shift place)
fault_of place count (Some (Compute ShiftRight Constant)) insn = unless (is_constant_for ShiftRight insn.k) (Shift place)
fault_of place count (Some Jump) insn = unless (are_inside count (onward place (Some Jump) insn)) (JumpOut place)
fault_of place count (Some (Branch comparison operand)) insn =
    unless (are_inside count (onward place (Some (Branch comparison operand)) insn)) (JumpOut place)
fault_of place count (Some operation) insn = None
