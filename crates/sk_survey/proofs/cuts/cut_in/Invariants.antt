use Rattle.std.proofs.Common.{ℕ, ◌≡◌, ◌<◌, true, slice_get, Some}
use Rattle.sk_insn.specs.declared.insn.Insn.{Insn}
use Rattle.sk_insn.specs.declared.operation.Comparison.{Comparison}
use Rattle.sk_insn.specs.declared.operation.Operand.TheVariants.{Constant}
use Rattle.sk_insn.specs.declared.operation.Operation.TheVariants.{Branch}
use Rattle.sk_insn.specs.Operations.{operation_of}
use Rattle.sk_survey.specs.declared.taint.Taint.{Taint}
use Rattle.sk_survey.specs.Cutting.{AreKept, IsCutAtTurns}
use Rattle.sk_survey.proofs.cuts.cut_in.Given as goal

-- the tests of the places before this one, where A may come from the number
abbrev pub invariant-loop-place : goal.invariant-loop-place
invariant-loop-place l = record {
  kept : AreKept l.initial.cuts.items l.cuts.items;
  turns : (p : ℕ) (insn : Insn) (taint : Taint) (comparison : Comparison) → p < l.place → slice_get l.program p ≡ Some insn
      → slice_get l.places.items p ≡ Some taint → taint.a ≡ true → operation_of insn.code ≡ Some (Branch comparison Constant)
      → IsCutAtTurns l.cuts.items comparison insn.k;
}
