-- The bytes of instructions are read as these instructions.
use Rattle.std.proofs.Common.{◌≡◌, ℕ, ◌*◌, ◌≤◌, ◌/◌, ◌%◌, ltb, eqb, false, List, [], ◌∷◌, ◌++◌, length, take, Ok, subst, ap, ◌∙◌, refl, arith}
use Rattle.std.specs.List.{All}
use Rattle.std.proofs.lemmas.List.{take_all}
use Rattle.std.proofs.lemmas.List.Elements.{All-tail}
use Rattle.std.proofs.Math.Logic.{⊎_elim}
use Rattle.std.proofs.lemmas.Bool.{le-ltb, cases_lt}
use Rattle.std.proofs.lemmas.Bool.Decides.{eqb_tells}
use Rattle.byteorder.specs.Endian.{little_bytes, little_number}
use Rattle.byteorder.specs.Numbers.{little_number-reads_back}
use Rattle.sk_insn.specs.declared.insn.Insn.{Insn}
use Rattle.sk_filter.specs.Valid.{IsValid}
use Rattle.sk_filter.specs.declared.fault.CheckFault.TheVariants.{Empty, TooLong}
use Rattle.sk_profile_json.specs.Ranges.{IsInRange}
use Rattle.sk_insn.specs.Instructions.{insn_of, instructions_in, image_instructions, instruction_bytes, image_of}

-- an instruction with this code and this constant
abbrev with_words : ℕ → ℕ → Insn → Insn
with_words code k insn = record { code = code; jt = insn.jt; jf = insn.jf; k = k }

insn_of-bytes : (insn : Insn) (rest : List ℕ) → IsInRange insn → insn_of (instruction_bytes insn ++ rest) ≡ insn
insn_of-bytes insn rest h =
    let more : List ℕ = insn.jt ∷ insn.jf ∷ (little_bytes 4 insn.k ++ rest) in
    let code = little_number-reads_back 2 insn.code more h.code in
    let k = little_number-reads_back 4 insn.k rest h.k in
    ap (λ code. with_words code (little_number 4 (little_bytes 4 insn.k ++ rest)) insn) code ∙ ap (λ k. with_words insn.code k insn) k

length-image : (insns : List Insn) → length (image_of insns) ≡ 8 * length insns
length-image [] = refl
length-image (insn ∷ insns) = let again = length-image insns in omega (arith, again)

instructions_in-image : (insns : List Insn) → All IsInRange insns → instructions_in (length insns) (image_of insns) ≡ insns
instructions_in-image [] h = refl
instructions_in-image (insn ∷ insns) h =
    let first = insn_of-bytes insn (image_of insns) (h 0 insn (omega arith)) in
    let rest = instructions_in-image insns (All-tail IsInRange insn insns h) in
    ap (λ first. first ∷ instructions_in (length insns) (image_of insns)) first ∙ ap (λ rest. insn ∷ rest) rest

-- of so many instructions
read-count : (n : ℕ) (image : List ℕ) (insns : List Insn) → length image ≡ 8 * n → 1 ≤ n → n ≤ 4096 → instructions_in n image ≡ insns
    → image_instructions image ≡ Ok insns
read-count n image insns long some few read =
    let whole : ltb 0 (8 * n % 8) ≡ false = le-ltb 0 (8 * n % 8) (omega arith) in
    let full : eqb (8 * n) 0 ≡ false = ⊎_elim (λ same. absurd (omega (arith, same.1))) (λ other. other.0) (eqb_tells (8 * n) 0) in
    let count : 8 * n / 8 ≡ n = omega arith in
    let short : ltb 4096 n ≡ false = le-ltb 4096 n few in
    rw (long, whole, full, count, short, read) refl

pub read_image : (insns : List Insn) → All IsInRange insns → 1 ≤ length insns → length insns ≤ 4096 → image_instructions (image_of insns) ≡ Ok insns
read_image insns h some few =
    read-count (length insns) (image_of insns) insns (length-image insns) some few (instructions_in-image insns h)

-- once all bytes are written
pub image_is_read : (insns : List Insn) (i : ℕ) (image : List ℕ) → length insns ≤ i → image ≡ image_of (take i insns) → All IsInRange (take i insns)
    → IsValid insns → image_instructions image ≡ Ok insns
image_is_read insns i image done written ranges valid =
    let all = take_all i insns done in
    let some : 1 ≤ length insns = ⊎_elim (λ none. absurd (valid Empty (omega (arith, none)))) (λ some. some) (cases_lt (length insns) 1) in
    let few : length insns ≤ 4096 = ⊎_elim (λ more. absurd (valid TooLong more)) (λ few. few) (cases_lt 4096 (length insns)) in
    ap image_instructions (written ∙ ap image_of all) ∙ read_image insns (subst (All IsInRange) all ranges) some few
