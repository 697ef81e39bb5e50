-- An image is the bytes of its instructions, one after another.
use Rattle.std.proofs.Common.{◌≡◌, ℕ, suc, ◌≤◌, List, [], ◌∷◌, ◌++◌, length, take, drop, ap, ◌∙◌, refl, arith, append_assoc, append-nil}
use Rattle.std.proofs.lemmas.List.{take-append-drop}
use Rattle.std.proofs.lemmas.List.Concat.{flat_map-cons}
use Rattle.std.proofs.lemmas.Grind.{flat_map-append}
use Rattle.byteorder.specs.Endian.{little_bytes, little_number}
use Rattle.sk_insn.specs.declared.insn.Insn.{Insn}
use Rattle.sk_insn.specs.Instructions.{insn_of, instructions_in, instruction_bytes, image_of}
use Rattle.sk_insn.proofs.LittleEndian.{IsBytes, little_bytes-little_number}

-- eight bytes are those of the instruction that they stand for
pub instruction_bytes-insn_of : (bytes : List ℕ) → IsBytes bytes → 8 ≤ length bytes → instruction_bytes (insn_of bytes) ≡ take 8 bytes
instruction_bytes-insn_of (a ∷ b ∷ c ∷ d ∷ rest) fits long =
    let code = little_bytes-little_number 2 (a ∷ b ∷ c ∷ d ∷ rest) fits (omega arith) in
    let k = little_bytes-little_number 4 rest (λ i. fits (suc (suc (suc (suc i))))) (omega arith) in
    ap (λ low. low ++ (c ∷ d ∷ little_bytes 4 (little_number 4 rest))) code ∙ ap (λ high. (a ∷ b ∷ []) ++ (c ∷ d ∷ high)) k
instruction_bytes-insn_of bytes fits long = absurd (omega arith)

-- one more instruction
pub instructions_in-next : (n m : ℕ) (bytes : List ℕ) → n ≡ suc m → instructions_in n bytes ≡ insn_of bytes ∷ instructions_in m (drop 8 bytes)
instructions_in-next n m bytes e = rw e refl

-- one more instruction is eight more bytes
pub image_of-push : (insns : List Insn) (rest : List ℕ) → IsBytes rest → 8 ≤ length rest → image_of (insns ++ insn_of rest ∷ []) ++ drop 8 rest ≡ image_of insns ++ rest
image_of-push insns rest fits long =
    ap (λ image. image ++ drop 8 rest) (flat_map-append instruction_bytes insns (insn_of rest ∷ []))
    ∙ append_assoc (image_of insns) (image_of (insn_of rest ∷ [])) (drop 8 rest)
    ∙ ap (λ cell. image_of insns ++ (cell ++ drop 8 rest)) (flat_map-cons instruction_bytes (insn_of rest) [] ∙ append-nil (instruction_bytes (insn_of rest)))
    ∙ ap (λ cell. image_of insns ++ (cell ++ drop 8 rest)) (instruction_bytes-insn_of rest fits long)
    ∙ ap (λ all. image_of insns ++ all) (take-append-drop 8 rest)
