-- No code and no name stands in the table twice: each operation is found by its own.
use native.Mathlib.Omega.{arith}
use Rattle.std.proofs.Common.{◌≡◌, ◌≤◌, ◌<◌, ◌∷◌, [], ℕ, false, nat_eq, nat_le, List, length, filter, Some, refl, ap, cond, inl, inr}
use Rattle.std.proofs.lemmas.Bool.{cases_Bool, leb-false}
use Rattle.std.specs.Str.{bytes_eq}
use Rattle.std.specs.List.{find}
use Rattle.sk_insn.specs.declared.operation.Register.TheVariants.{Accumulator, Index}
use Rattle.sk_insn.specs.declared.operation.Operand.TheVariants.{Constant, IndexRegister}
use Rattle.sk_insn.specs.declared.operation.Arithmetic.TheVariants.{Add, Subtract, Multiply, Divide, Or, And, ShiftLeft, ShiftRight, ExclusiveOr}
use Rattle.sk_insn.specs.declared.operation.Comparison.TheVariants.{Equal, Greater, GreaterOrEqual, CommonBits}
use Rattle.sk_insn.specs.declared.operation.Operation.{Operation}
use Rattle.sk_insn.specs.declared.operation.Operation.TheVariants.{LoadRecord, LoadConstant, LoadScratch, LoadLength, StoreScratch, Compute, Negate, Jump, Branch, ReturnConstant, ReturnAccumulator, CopyToIndex, CopyToAccumulator}
use Rattle.sk_insn.specs.Operations.{code_of, name_of, operation_of, operation_named, operations}

pub operation_of-code_of : (operation : Operation) → operation_of (code_of operation) ≡ Some operation
unfolding operation_of
operation_of-code_of LoadRecord = refl
operation_of-code_of (LoadConstant Accumulator) = refl
operation_of-code_of (LoadConstant Index) = refl
operation_of-code_of (LoadScratch Accumulator) = refl
operation_of-code_of (LoadScratch Index) = refl
operation_of-code_of (LoadLength Accumulator) = refl
operation_of-code_of (LoadLength Index) = refl
operation_of-code_of (StoreScratch Accumulator) = refl
operation_of-code_of (StoreScratch Index) = refl
operation_of-code_of (Compute Add Constant) = refl
operation_of-code_of (Compute Add IndexRegister) = refl
operation_of-code_of (Compute Subtract Constant) = refl
operation_of-code_of (Compute Subtract IndexRegister) = refl
operation_of-code_of (Compute Multiply Constant) = refl
operation_of-code_of (Compute Multiply IndexRegister) = refl
operation_of-code_of (Compute Divide Constant) = refl
operation_of-code_of (Compute Divide IndexRegister) = refl
operation_of-code_of (Compute Or Constant) = refl
operation_of-code_of (Compute Or IndexRegister) = refl
operation_of-code_of (Compute And Constant) = refl
operation_of-code_of (Compute And IndexRegister) = refl
operation_of-code_of (Compute ShiftLeft Constant) = refl
operation_of-code_of (Compute ShiftLeft IndexRegister) = refl
operation_of-code_of (Compute ShiftRight Constant) = refl
operation_of-code_of (Compute ShiftRight IndexRegister) = refl
operation_of-code_of (Compute ExclusiveOr Constant) = refl
operation_of-code_of (Compute ExclusiveOr IndexRegister) = refl
operation_of-code_of Negate = refl
operation_of-code_of Jump = refl
operation_of-code_of (Branch Equal Constant) = refl
operation_of-code_of (Branch Equal IndexRegister) = refl
operation_of-code_of (Branch Greater Constant) = refl
operation_of-code_of (Branch Greater IndexRegister) = refl
operation_of-code_of (Branch GreaterOrEqual Constant) = refl
operation_of-code_of (Branch GreaterOrEqual IndexRegister) = refl
operation_of-code_of (Branch CommonBits Constant) = refl
operation_of-code_of (Branch CommonBits IndexRegister) = refl
operation_of-code_of ReturnConstant = refl
operation_of-code_of ReturnAccumulator = refl
operation_of-code_of CopyToIndex = refl
operation_of-code_of CopyToAccumulator = refl

pub operation_named-name_of : (operation : Operation) → operation_named (name_of operation) ≡ Some operation
operation_named-name_of LoadRecord = refl
operation_named-name_of (LoadConstant Accumulator) = refl
operation_named-name_of (LoadConstant Index) = refl
operation_named-name_of (LoadScratch Accumulator) = refl
operation_named-name_of (LoadScratch Index) = refl
operation_named-name_of (LoadLength Accumulator) = refl
operation_named-name_of (LoadLength Index) = refl
operation_named-name_of (StoreScratch Accumulator) = refl
operation_named-name_of (StoreScratch Index) = refl
operation_named-name_of (Compute Add Constant) = refl
operation_named-name_of (Compute Add IndexRegister) = refl
operation_named-name_of (Compute Subtract Constant) = refl
operation_named-name_of (Compute Subtract IndexRegister) = refl
operation_named-name_of (Compute Multiply Constant) = refl
operation_named-name_of (Compute Multiply IndexRegister) = refl
operation_named-name_of (Compute Divide Constant) = refl
operation_named-name_of (Compute Divide IndexRegister) = refl
operation_named-name_of (Compute Or Constant) = refl
operation_named-name_of (Compute Or IndexRegister) = refl
operation_named-name_of (Compute And Constant) = refl
operation_named-name_of (Compute And IndexRegister) = refl
operation_named-name_of (Compute ShiftLeft Constant) = refl
operation_named-name_of (Compute ShiftLeft IndexRegister) = refl
operation_named-name_of (Compute ShiftRight Constant) = refl
operation_named-name_of (Compute ShiftRight IndexRegister) = refl
operation_named-name_of (Compute ExclusiveOr Constant) = refl
operation_named-name_of (Compute ExclusiveOr IndexRegister) = refl
operation_named-name_of Negate = refl
operation_named-name_of Jump = refl
operation_named-name_of (Branch Equal Constant) = refl
operation_named-name_of (Branch Equal IndexRegister) = refl
operation_named-name_of (Branch Greater Constant) = refl
operation_named-name_of (Branch Greater IndexRegister) = refl
operation_named-name_of (Branch GreaterOrEqual Constant) = refl
operation_named-name_of (Branch GreaterOrEqual IndexRegister) = refl
operation_named-name_of (Branch CommonBits Constant) = refl
operation_named-name_of (Branch CommonBits IndexRegister) = refl
operation_named-name_of ReturnConstant = refl
operation_named-name_of ReturnAccumulator = refl
operation_named-name_of CopyToIndex = refl
operation_named-name_of CopyToAccumulator = refl

-- of two texts, the shorter one is another
shorter_is_other : (xs ys : List ℕ) → length xs < length ys → bytes_eq xs ys ≡ false
shorter_is_other xs [] less = absurd (omega (arith, less))
shorter_is_other [] (y ∷ ys) less = refl
shorter_is_other (x ∷ xs) (y ∷ ys) less = elim (cases_Bool (nat_eq x y)) [
  | inl t ↦ rw t (shorter_is_other xs ys (omega (arith, less)))
  | inr f ↦ rw f refl
]

-- a name is looked for among those that are long enough
found_among_long : (name : List ℕ) (n : ℕ) → n ≤ length name → (rows : List Operation)
    → find (λ row. bytes_eq (name_of row) name) rows ≡ find (λ row. bytes_eq (name_of row) name) (filter (λ row. nat_le n (length (name_of row))) rows)
found_among_long name n long [] = refl
found_among_long name n long (row ∷ rows) = elim (cases_Bool (nat_le n (length (name_of row)))) [
  | inl t ↦ rw t (ap (λ rest. cond (bytes_eq (name_of row) name) (Some row) rest) (found_among_long name n long rows))
  | inr f ↦ rw f (rw (shorter_is_other (name_of row) name (omega (arith, leb-false n (length (name_of row)) f, long))) (found_among_long name n long rows))
]

-- three names have six bytes, and none has more
pub long_named : (name : List ℕ) → 6 ≤ length name
    → operation_named name ≡ find (λ row. bytes_eq (name_of row) name) (LoadConstant Index ∷ LoadScratch Index ∷ LoadLength Index ∷ [])
long_named name long = found_among_long name 6 long operations
