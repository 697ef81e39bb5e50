-- A call of another architecture is one of x86-64 to the filter that loads its architecture as a constant.
use Rattle.std.proofs.Common.{◌≡◌, ℕ, zero, suc, ◌+◌, ◌-◌, ◌≤◌, ◌%◌, ◌^◌, ◌==◌, nat_le, Bool, true, false, if◌then◌else◌, List, [], ◌∷◌, drop, slice_get, Option, Some, None, refl, ap, sym, ◌∙◌, subst, arith, inl, inr}
use Rattle.std.proofs.lemmas.Bool.{eqb-true, eqb-false, cases_Bool}
use Rattle.std.proofs.lemmas.List.{drop-drop}
use Rattle.byteorder.specs.Endian.{little_number}
use Rattle.sk_insn.specs.declared.insn.Insn.{Insn}
use Rattle.sk_insn.specs.declared.record.Record.{Record}
use Rattle.sk_insn.specs.declared.operation.Register.TheVariants.{Accumulator}
use Rattle.sk_insn.specs.declared.operation.Operand.TheVariants.{Constant, IndexRegister}
use Rattle.sk_insn.specs.declared.operation.Arithmetic.TheVariants.{Divide}
use Rattle.sk_insn.specs.declared.operation.Operation.{Operation}
use Rattle.sk_insn.specs.declared.operation.Operation.TheVariants.{LoadRecord, LoadConstant, LoadScratch, LoadLength, StoreScratch, Compute, Negate, Jump, Branch, ReturnConstant, ReturnAccumulator, CopyToIndex, CopyToAccumulator}
use Rattle.sk_insn.specs.Operations.{operation_of, code_of}
use Rattle.sk_insn.specs.Record.{word_of, record_bytes}
use Rattle.sk_insn.proofs.OperationTable.{operation_of-code_of}
use Rattle.sk_insn.proofs.RecordWords.{word_of_number, word_of_architecture}
use Rattle.sk_filter.specs.Fits.{TakesConstant}
use Rattle.sk_filter.proofs.ValidPrograms.{valid_fits}
use Rattle.sk_filter.specs.Meaning.{State, Effect, loaded, effect, then_follows, meaning, start}
use Rattle.sk_filter.specs.Architectures.{loads_architecture, with_architecture, for_architecture, as_native, ArchitecturesAreConstants}

-- the words after it are the same for every architecture
after : (call : Record) (k : ℕ) → 8 ≤ k → word_of call k ≡ word_of (as_native call) k
after call k above =
    let e : k ≡ 8 + (k - 8) = omega arith in
    let same : drop (8 + (k - 8)) (record_bytes call) ≡ drop (8 + (k - 8)) (record_bytes (as_native call)) =
    sym (drop-drop (k - 8) 8 (record_bytes call)) ∙ drop-drop (k - 8) 8 (record_bytes (as_native call)) in
    let bytes : drop k (record_bytes call) ≡ drop k (record_bytes (as_native call)) =
    subst (λ k. drop k (record_bytes call) ≡ drop k (record_bytes (as_native call))) (sym e) same in
    ap (λ bytes. if nat_le (k + 4) 64 then Some (little_number 4 bytes) else None) bytes

before : (call : Record) (k : ℕ) → k ≡ 0 → word_of call k ≡ word_of (as_native call) k
before call k e =
    subst (λ k. word_of call k ≡ word_of (as_native call) k) (sym e) (word_of_number call ∙ sym (word_of_number (as_native call)))

other_word : (call : Record) (k : ℕ) → k % 4 ≡ 0 → (k == 4) ≡ false → word_of call k ≡ word_of (as_native call) k
other_word call k aligned apart = elim (cases_Bool (k == 0)) [
  | inl first ↦ before call k (eqb-true k 0 first)
  | inr later ↦ let zero_not = eqb-false k 0 later in let four_not = eqb-false k 4 apart in after call k (omega (arith, aligned, zero_not, four_not))
]

-- what does not load the architecture does the same
same_effect : (o : Option Operation) (insn : Insn) (call : Record) (s : State) → TakesConstant o insn → loads_architecture o insn ≡ false
    → effect o insn call s ≡ effect o insn (as_native call) s
same_effect None insn call s can other = refl
same_effect (Some LoadRecord) insn call s can other = ap (loaded Accumulator s) (other_word call insn.k can.0 other)
same_effect (Some (LoadConstant r)) insn call s can other = refl
same_effect (Some (LoadScratch r)) insn call s can other = refl
same_effect (Some (LoadLength r)) insn call s can other = refl
same_effect (Some (StoreScratch r)) insn call s can other = refl
same_effect (Some (Compute arithmetic Constant)) insn call s can other = refl
same_effect (Some (Compute Divide IndexRegister)) insn call s can other = refl
same_effect (Some (Compute arithmetic IndexRegister)) insn call s can other = refl
same_effect (Some Negate) insn call s can other = refl
same_effect (Some Jump) insn call s can other = refl
same_effect (Some (Branch comparison right)) insn call s can other = refl
same_effect (Some ReturnConstant) insn call s can other = refl
same_effect (Some ReturnAccumulator) insn call s can other = refl
same_effect (Some CopyToIndex) insn call s can other = refl
same_effect (Some CopyToAccumulator) insn call s can other = refl

loads_it : (o : Option Operation) (insn : Insn) (call : Record) (s : State) → loads_architecture o insn ≡ true
    → effect o insn call s ≡ loaded Accumulator s (Some (call.arch % 2 ^ 32))
loads_it (Some LoadRecord) insn call s is =
    ap (λ k. loaded Accumulator s (word_of call k)) (eqb-true insn.k 4 is) ∙ ap (loaded Accumulator s) (word_of_architecture call)
loads_it o insn call s is = cc

step : (insn : Insn) (call : Record) (s : State) → TakesConstant (operation_of insn.code) insn
    → effect (operation_of insn.code) insn call s
    ≡ effect (operation_of (with_architecture (call.arch % 2 ^ 32) insn).code) (with_architecture (call.arch % 2 ^ 32) insn) (as_native call) s
step insn call s can = by_test (loads_architecture (operation_of insn.code) insn) refl where
  changed : Insn
  changed = record insn { code = code_of (LoadConstant Accumulator); k = call.arch % 2 ^ 32 }

  does : Insn → Effect
  does other = effect (operation_of other.code) other (as_native call) s

  by_test : (b : Bool) → loads_architecture (operation_of insn.code) insn ≡ b → effect (operation_of insn.code) insn call s ≡ does (if b then changed else insn)
  by_test true is =
      loads_it (operation_of insn.code) insn call s is
      ∙ sym (ap (λ o. effect o changed (as_native call) s) (operation_of-code_of (LoadConstant Accumulator)))
  by_test false is = same_effect (operation_of insn.code) insn call s can is

same_from : (insns : List Insn) (skip : ℕ) (call : Record) (s : State) → ((place : ℕ) (insn : Insn) → slice_get insns place ≡ Some insn → TakesConstant (operation_of insn.code) insn)
    → meaning insns skip call s ≡ meaning (for_architecture (call.arch % 2 ^ 32) insns) skip (as_native call) s
same_from [] skip call s can = refl
same_from (insn ∷ rest) (suc skip) call s can = same_from rest skip call s (λ place insn here. can (suc place) insn here)
same_from (insn ∷ rest) zero call s can =
    ap (λ e. then_follows e (λ skip s. meaning rest skip call s)) (step insn call s (can zero insn refl))
    ∙ (λ i. then_follows (effect (operation_of (with_architecture (call.arch % 2 ^ 32) insn).code) (with_architecture (call.arch % 2 ^ 32) insn) (as_native call) s)
    (λ skip s. same_from rest skip call s (λ place insn here. can (suc place) insn here) i))

pub architectures_are_constants : ArchitecturesAreConstants
architectures_are_constants insns valid call = same_from insns 0 call start (λ place insn here. (valid_fits insns valid place insn here).0)
