-- Images of architectures whose numbers have their highest byte first: `struct sock_filter` of seccomp(2), big-endian.
use Rattle.std.specs.Prelude.{ℕ, zero, suc, ◌/◌, ◌%◌, nat_lt, Bool, true, false, if◌then◌else◌, List, [], ◌∷◌, codes, drop, length, slice_index, ◌≡◌, Option, Some, None}
use Rattle.byteorder.specs.Endian.{big_number}
use Rattle.sk_insn.specs.declared.insn.Insn.{Insn}
use Rattle.sk_insn.specs.Instructions.{image_of}
use Rattle.sk_filter.specs.declared.fault.CheckFault.{CheckFault}
use Rattle.sk_filter.specs.FirstFault.{first_fault}
use Rattle.sk_ask.specs.Complaints.{about}

-- the instruction that eight bytes stand for
abbrev pub big_insn_of : List ℕ → Insn
big_insn_of bytes = record {
  code = big_number 2 bytes;
  jt = slice_index bytes 2;
  jf = slice_index bytes 3;
  k = big_number 4 (drop 4 bytes);
}

-- so many instructions, eight bytes each
abbrev pub big_instructions_in : ℕ → List ℕ → List Insn
big_instructions_in zero bytes = []
big_instructions_in (suc n) bytes = big_insn_of bytes ∷ big_instructions_in n (drop 8 bytes)

-- the image of the same instructions with the lowest byte first, where they are a valid filter
abbrev pub image_if_valid : List Insn → Option CheckFault → Option (List ℕ)
image_if_valid insns (Some fault) = None
image_if_valid insns None = Some (image_of insns)

abbrev pub turned : List ℕ → Option (List ℕ)
turned bytes =
    if nat_lt 0 (length bytes % 8) then None
    else let insns = big_instructions_in (length bytes / 8) bytes in image_if_valid insns (first_fault insns)

-- bytes are taken so where that order is asked for
abbrev pub taken_turned : Bool → List ℕ → Option (List ℕ)
taken_turned false bytes = None
taken_turned true bytes = turned bytes

-- what the bytes of the file with this name stand for, and what is told of them: for themselves, or for what they are turned to
abbrev pub StandsAs : List ℕ → List ℕ → Option (List ℕ) → List ℕ → List ℕ → Type 0
StandsAs name file None image notes = (image ≡ file) × (notes ≡ [])
StandsAs name file (Some other) image notes = (image ≡ other) × (notes ≡ about name (codes "read with its highest byte first"))
