-- What base64 says of a filter that begins with a code of seccomp(2), and ends with a return, is read as its image.
use Rattle.std.proofs.Common.{◌≡◌, ◌⊎◌, ◌<◌, ◌≤◌, ◌+◌, ◌-◌, ◌*◌, ◌/◌, ◌%◌, ◌==◌, ◌∙◌, ap, arith, refl, sym, inl, inr, ℕ, zero, suc, List, [], ◌∷◌, true, false, length, All, Some}
use Rattle.std.proofs.lemmas.Bool.{cases_Bool, eqb-true, false≢true}
use Rattle.std.proofs.lemmas.List.{get_or-append-add}
use Rattle.std.proofs.lemmas.List.Elements.{All-tail}
use Rattle.std.specs.Prelude.{slice_get, slice_index}
use Rattle.std.specs.List.{find}
use Rattle.std.specs.Option.{is_some}
use Rattle.sk_insn.specs.declared.insn.Insn.{Insn}
use Rattle.sk_insn.specs.declared.operation.Register.TheVariants.{Accumulator, Index}
use Rattle.sk_insn.specs.declared.operation.Operand.{Operand}
use Rattle.sk_insn.specs.declared.operation.Operand.TheVariants.{Constant, IndexRegister}
use Rattle.sk_insn.specs.declared.operation.Arithmetic.{Arithmetic}
use Rattle.sk_insn.specs.declared.operation.Arithmetic.TheVariants.{Add, Subtract, Multiply, Divide, Or, And, ShiftLeft, ShiftRight, ExclusiveOr}
use Rattle.sk_insn.specs.declared.operation.Comparison.{Comparison}
use Rattle.sk_insn.specs.declared.operation.Comparison.TheVariants.{Equal, Greater, GreaterOrEqual, CommonBits}
use Rattle.sk_insn.specs.declared.operation.Operation.{Operation}
use Rattle.sk_insn.specs.declared.operation.Operation.TheVariants.{LoadRecord, LoadConstant, LoadScratch, LoadLength, StoreScratch, Compute, Negate, Jump, Branch, ReturnConstant, ReturnAccumulator, CopyToIndex, CopyToAccumulator}
use Rattle.sk_insn.specs.Instructions.{image_of, instruction_bytes}
use Rattle.sk_insn.specs.Operations.{arithmetic_bits, code_of, comparison_bits, operation_of, operations, source_bit}
use Rattle.sk_forms.specs.RoundTrip.{FiltersComeBack, IsInRange, IsReturningImage}
use Rattle.sk_forms.proofs.Base64Back.{base64_comes_back}

-- ---- codes

arithmetic_low : (arithmetic : Arithmetic) → arithmetic_bits arithmetic ≤ 160
arithmetic_low Add = omega arith
arithmetic_low Subtract = omega arith
arithmetic_low Multiply = omega arith
arithmetic_low Divide = omega arith
arithmetic_low Or = omega arith
arithmetic_low And = omega arith
arithmetic_low ShiftLeft = omega arith
arithmetic_low ShiftRight = omega arith
arithmetic_low ExclusiveOr = omega arith

comparison_low : (comparison : Comparison) → comparison_bits comparison ≤ 64
comparison_low Equal = omega arith
comparison_low Greater = omega arith
comparison_low GreaterOrEqual = omega arith
comparison_low CommonBits = omega arith

source_low : (operand : Operand) → source_bit operand ≤ 8
source_low Constant = omega arith
source_low IndexRegister = omega arith

code_low : (operation : Operation) → code_of operation < 208
code_low LoadRecord = omega arith
code_low (LoadConstant Accumulator) = omega arith
code_low (LoadConstant Index) = omega arith
code_low (LoadScratch Accumulator) = omega arith
code_low (LoadScratch Index) = omega arith
code_low (LoadLength Accumulator) = omega arith
code_low (LoadLength Index) = omega arith
code_low (StoreScratch Accumulator) = omega arith
code_low (StoreScratch Index) = omega arith
code_low (Compute arithmetic operand) = let a = arithmetic_low arithmetic in let b = source_low operand in omega (arith, a, b)
code_low Negate = omega arith
code_low Jump = omega arith
code_low (Branch comparison operand) = let a = comparison_low comparison in let b = source_low operand in omega (arith, a, b)
code_low ReturnConstant = omega arith
code_low ReturnAccumulator = omega arith
code_low CopyToIndex = omega arith
code_low CopyToAccumulator = omega arith

found_low : (code : ℕ) (candidates : List Operation) → is_some (find (λ operation. code_of operation == code) candidates) ≡ true → code < 208
found_low code [] some = absurd (false≢true some)
found_low code (operation ∷ others) some = elim (cases_Bool (code_of operation == code)) [
  | inl t ↦
      let same = eqb-true (code_of operation) code t in
      let low = code_low operation in
      omega (arith, same, low)
  | inr f ↦ found_low code others (sym (ap is_some (passed f)) ∙ some)
]
  where
    passed : (code_of operation == code) ≡ false → find (λ it. code_of it == code) (operation ∷ others) ≡ find (λ it. code_of it == code) others
    passed f = rw f refl

permitted_low : (code : ℕ) → is_some (operation_of code) ≡ true → code < 208
unfolding operation_of
permitted_low code some = found_low code operations some

-- ---- bytes

image_bytes : (insns : List Insn) → All IsInRange insns → (i : ℕ) → slice_index (image_of insns) i < 256
image_bytes [] ranges i = omega arith
image_bytes (insn ∷ insns) ranges zero = omega arith
image_bytes (insn ∷ insns) ranges (suc zero) = omega arith
image_bytes (insn ∷ insns) ranges (suc (suc zero)) = let range = ranges 0 insn (omega arith) in omega (arith, range.jt)
image_bytes (insn ∷ insns) ranges (suc (suc (suc zero))) = let range = ranges 0 insn (omega arith) in omega (arith, range.jf)
image_bytes (insn ∷ insns) ranges (suc (suc (suc (suc zero)))) = omega arith
image_bytes (insn ∷ insns) ranges (suc (suc (suc (suc (suc zero))))) = omega arith
image_bytes (insn ∷ insns) ranges (suc (suc (suc (suc (suc (suc zero)))))) = omega arith
image_bytes (insn ∷ insns) ranges (suc (suc (suc (suc (suc (suc (suc zero))))))) = omega arith
image_bytes (insn ∷ insns) ranges (suc (suc (suc (suc (suc (suc (suc (suc i)))))))) = image_bytes insns (All-tail IsInRange insn insns ranges) i

length-image : (insns : List Insn) → length (image_of insns) ≡ 8 * length insns
length-image [] = refl
length-image (insn ∷ insns) = let again = length-image insns in omega (arith, again)

first_byte : (insns : List Insn) (first : Insn) → slice_get insns 0 ≡ Some first → slice_index (image_of insns) 0 ≡ first.code % 256
first_byte [] first is = cc is
first_byte (insn ∷ insns) first is = let same : insn ≡ first = cc is in ap (λ (it : Insn). it.code % 256) same

-- a byte of the last instruction
last_byte : (insns : List Insn) (last : Insn) (i : ℕ) → slice_get insns (length insns - 1) ≡ Some last → i < 8
    → slice_index (image_of insns) (8 * (length insns - 1) + i) ≡ slice_index (instruction_bytes last) i
last_byte [] last i is h = cc is
last_byte (insn ∷ []) last i is h =
    let same : insn ≡ last = cc is in
    let place : 8 * (length (insn ∷ []) - 1) + i ≡ i = omega arith in
    ap (slice_index (image_of (insn ∷ []))) place ∙ ap (λ (it : Insn). slice_index (image_of (it ∷ [])) i) same
last_byte (insn ∷ (next ∷ insns)) last i is h =
    let here : length (insn ∷ (next ∷ insns)) - 1 ≡ suc (length insns) = omega arith in
    let there : length (next ∷ insns) - 1 ≡ length insns = omega arith in
    let ends : slice_get (next ∷ insns) (length (next ∷ insns) - 1) ≡ Some last =
    ap (slice_get (next ∷ insns)) there ∙ sym (ap (slice_get (insn ∷ (next ∷ insns))) here) ∙ is in
    let place : 8 * (length (insn ∷ (next ∷ insns)) - 1) + i ≡ 8 + (8 * (length (next ∷ insns) - 1) + i) = omega arith in
    ap (slice_index (image_of (insn ∷ (next ∷ insns)))) place
    ∙ get_or-append-add (instruction_bytes insn) (image_of (next ∷ insns)) (8 * (length (next ∷ insns) - 1) + i) 0
    ∙ last_byte (next ∷ insns) last i ends h

-- ---- the law

last_code : (code : ℕ) → (code ≡ 6) ⊎ (code ≡ 22) → (code % 256 % 16 ≡ 6) × (code / 256 % 256 ≡ 0)
last_code code (inl six) = (omega (arith, six), omega (arith, six))
last_code code (inr other) = (omega (arith, other), omega (arith, other))

some_instruction : (insns : List Insn) (first : Insn) → slice_get insns 0 ≡ Some first → 1 ≤ length insns
some_instruction [] first is = cc is
some_instruction (insn ∷ insns) first is = omega arith

is_returning : (insns : List Insn) (first last : Insn) → All IsInRange insns → slice_get insns 0 ≡ Some first → slice_get insns (length insns - 1) ≡ Some last
    → is_some (operation_of first.code) ≡ true → (last.code ≡ 6) ⊎ (last.code ≡ 22) → IsReturningImage (image_of insns)
is_returning insns first last ranges begins ends permitted returns =
    let long = length-image insns in
    let some = some_instruction insns first begins in
    let code = last_code last.code returns in
    let low : length (image_of insns) - 8 ≡ 8 * (length insns - 1) + 0 = omega (arith, long, some) in
    let high : length (image_of insns) - 7 ≡ 8 * (length insns - 1) + 1 = omega (arith, long, some) in
    let low_byte : slice_index (image_of insns) (length (image_of insns) - 8) ≡ last.code % 256 = ap (slice_index (image_of insns)) low ∙ last_byte insns last 0 ends (omega arith) in
    let high_byte : slice_index (image_of insns) (length (image_of insns) - 7) ≡ last.code / 256 % 256 = ap (slice_index (image_of insns)) high ∙ last_byte insns last 1 ends (omega arith) in
    let begin = first_byte insns first begins in
    let below = permitted_low first.code permitted in
    record {
      bytes = image_bytes insns ranges;
      some = omega (arith, long, some);
      whole = omega (arith, long);
      first = omega (arith, begin, below);
      last_low = ap (λ (n : ℕ). n % 16) low_byte ∙ code.0;
      last_high = high_byte ∙ code.1;
    }

pub filters_come_back : FiltersComeBack
filters_come_back insns first last ranges begins ends permitted returns =
    base64_comes_back (image_of insns) (is_returning insns first last ranges begins ends permitted returns)
