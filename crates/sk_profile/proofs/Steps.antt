-- One instruction of the code, and then what follows.
use Rattle.std.proofs.Common.{◌≡◌, ℕ, suc, ◌+◌, Bool, true, false, if◌then◌else◌, List, [], ◌∷◌, ◌++◌, length, Some, refl, ap, sym, ◌∙◌, subst, arith, bit_and}
use Rattle.sk_insn.specs.declared.insn.Insn.{Insn}
use Rattle.sk_insn.specs.declared.record.Record.{Record}
use Rattle.sk_insn.specs.declared.operation.Operand.TheVariants.{Constant}
use Rattle.sk_insn.specs.declared.operation.Arithmetic.TheVariants.{And}
use Rattle.sk_insn.specs.declared.operation.Comparison.{Comparison}
use Rattle.sk_insn.specs.declared.operation.Operation.TheVariants.{LoadRecord, LoadConstant, Compute, Jump, Branch, ReturnConstant}
use Rattle.sk_insn.specs.declared.operation.Register.TheVariants.{Accumulator}
use Rattle.sk_insn.specs.Operations.{operation_of}
use Rattle.sk_insn.specs.Record.{word_of}
use Rattle.sk_insn.proofs.OperationTable.{operation_of-code_of}
use Rattle.sk_filter.specs.Meaning.{Meaning, Returned, Stuck, State, Effect, GoesOn, Ends, holds, effect, after_step, then_follows, meaning}
use Rattle.sk_profile.specs.Code.{load, constant, with, branch, jump, answer}
use Rattle.sk_profile.specs.Means.{Gives}

-- from here on, the first so many passed over, the instructions come to the value; a record, so that its arguments are found
pub record Comes (insns : List Insn) (skip : ℕ) (call : Record) (s : State) (value : ℕ) : Type 0 where
  pub steps : ℕ
  pub is : meaning insns skip call s ≡ Returned value steps

more : (value : ℕ) (m : Meaning) → Gives value m → Gives value (after_step m)
more value m g = (g.0 + 1, ap after_step g.1)

-- an instruction that goes on
pub on : (insn : Insn) (rest : List Insn) (call : Record) (s : State) (skip : ℕ) (after : State) (value : ℕ)
    → effect (operation_of insn.code) insn call s ≡ GoesOn skip after → Comes rest skip call after value
    → Comes (insn ∷ rest) 0 call s value
on insn rest call s skip after value does g =
    let found = subst (λ e. Gives value (then_follows e (λ skip s. meaning rest skip call s))) (sym does) (more value _ (g.steps, g.is)) in
    record { steps = found.0; is = found.1 }

pub load_on : (k : ℕ) (rest : List Insn) (call : Record) (s : State) (word value : ℕ) → word_of call k ≡ Some word
    → Comes rest 0 call (record s { a = word }) value → Comes (load k ∷ rest) 0 call s value
load_on k rest call s word value is g =
    on (load k) rest call s 0 (record s { a = word }) value
    (ap (λ o. effect o (load k) call s) (operation_of-code_of LoadRecord) ∙ ap (λ w. Rattle.sk_filter.specs.Meaning.loaded Rattle.sk_insn.specs.declared.operation.Register.TheVariants.Accumulator s w) is) g

pub constant_on : (k : ℕ) (rest : List Insn) (call : Record) (s : State) (value : ℕ)
    → Comes rest 0 call (record s { a = k }) value → Comes (constant k ∷ rest) 0 call s value
constant_on k rest call s value g =
    on (constant k) rest call s 0 (record s { a = k }) value
    (ap (λ o. effect o (constant k) call s) (operation_of-code_of (LoadConstant Accumulator))) g

pub branch_on : (comparison : Comparison) (k jt jf : ℕ) (rest : List Insn) (call : Record) (s : State) (value : ℕ)
    → Comes rest (if holds comparison s.a k then jt else jf) call s value
    → Comes (branch comparison k jt jf ∷ rest) 0 call s value
branch_on comparison k jt jf rest call s value g =
    on (branch comparison k jt jf) rest call s (if holds comparison s.a k then jt else jf) s value
    (ap (λ o. effect o (branch comparison k jt jf) call s) (operation_of-code_of (Branch comparison Constant))) g

pub with_on : (k : ℕ) (rest : List Insn) (call : Record) (s : State) (value : ℕ)
    → Comes rest 0 call (record s { a = bit_and s.a k }) value → Comes (with k ∷ rest) 0 call s value
with_on k rest call s value g =
    on (with k) rest call s 0 (record s { a = bit_and s.a k }) value
    (ap (λ o. effect o (with k) call s) (operation_of-code_of (Compute And Constant))) g

pub jump_on : (k : ℕ) (rest : List Insn) (call : Record) (s : State) (value : ℕ)
    → Comes rest k call s value → Comes (jump k ∷ rest) 0 call s value
jump_on k rest call s value g =
    on (jump k) rest call s k s value (ap (λ o. effect o (jump k) call s) (operation_of-code_of Jump)) g

pub answers : (value : ℕ) (rest : List Insn) (call : Record) (s : State) → Comes (answer value ∷ rest) 0 call s value
answers value rest call s =
    record { steps = 1; is = ap (λ o. then_follows (effect o (answer value) call s) (λ skip s. meaning rest skip call s)) (operation_of-code_of ReturnConstant) }

-- instructions that are passed over
pub over : (front rest : List Insn) (n : ℕ) (call : Record) (s : State) → meaning (front ++ rest) (length front + n) call s ≡ meaning rest n call s
over [] rest n call s = let e : 0 + n ≡ n = omega arith in ap (λ k. meaning rest k call s) e
over (insn ∷ front) rest n call s =
    let e : length (insn ∷ front) + n ≡ suc (length front + n) = omega arith in
    ap (λ k. meaning (insn ∷ (front ++ rest)) k call s) e ∙ over front rest n call s

-- both sides of a conditional jump
pub branch_two : (comparison : Comparison) (k jt jf : ℕ) (rest : List Insn) (call : Record) (s : State) (value : ℕ)
    → (holds comparison s.a k ≡ true → Comes rest jt call s value)
    → (holds comparison s.a k ≡ false → Comes rest jf call s value)
    → Comes (branch comparison k jt jf ∷ rest) 0 call s value
branch_two comparison k jt jf rest call s value held failed = branch_on comparison k jt jf rest call s value (by (holds comparison s.a k) refl) where
  by : (b : Bool) → holds comparison s.a k ≡ b → Comes rest (if b then jt else jf) call s value
  by true e = held e
  by false e = failed e

-- instructions in front that are passed over
pub past : (front rest : List Insn) (n : ℕ) (call : Record) (s : State) (value : ℕ) → Comes rest n call s value → Comes (front ++ rest) (length front + n) call s value
past front rest n call s value g = record { steps = g.steps; is = over front rest n call s ∙ g.is }
