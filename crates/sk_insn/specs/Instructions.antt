-- Instructions of bytes, and back: `struct sock_filter` of seccomp(2), little-endian.
use Rattle.std.specs.Prelude.{ℕ, zero, suc, ◌≡◌, ◌/◌, ◌%◌, ◌==◌, nat_lt, if◌then◌else◌, List, [], ◌∷◌, ◌++◌, length, drop, slice_index, flat_map, Result, Ok, Err, IsOk}
use Rattle.byteorder.specs.Endian.{little_number, little_bytes}
use Rattle.sk_insn.specs.declared.insn.Insn.{Insn}
use Rattle.sk_insn.specs.declared.image.ImageFault.{ImageFault}
use Rattle.sk_insn.specs.declared.image.ImageFault.TheVariants.{Ragged as RaggedImage, Empty as EmptyImage, TooLong as LongImage, Memory}
use Rattle.sk_insn.specs.declared.image.NoImage.{NoImage}
use Rattle.sk_insn.specs.declared.image.NoImage.TheVariants.{Ragged, Empty, TooLong}

-- the instruction that eight bytes stand for
abbrev pub insn_of : List ℕ → Insn
insn_of bytes = record {
  code = little_number 2 bytes;
  jt = slice_index bytes 2;
  jf = slice_index bytes 3;
  k = little_number 4 (drop 4 bytes);
}

-- so many instructions, eight bytes each
abbrev pub instructions_in : ℕ → List ℕ → List Insn
instructions_in zero bytes = []
instructions_in (suc n) bytes = insn_of bytes ∷ instructions_in n (drop 8 bytes)

-- the instructions of an image: whole ones, at least one and at most 4096; else why the bytes are none
abbrev pub image_instructions : List ℕ → Result (List Insn) NoImage
image_instructions image =
    if nat_lt 0 (length image % 8) then Err Ragged
    else if length image == 0 then Err Empty
    else if nat_lt 4096 (length image / 8) then Err TooLong
    else Ok (instructions_in (length image / 8) image)

-- the same among the faults of reading
abbrev pub reading_fault : NoImage → ImageFault
reading_fault Ragged = RaggedImage
reading_fault Empty = EmptyImage
reading_fault TooLong = LongImage

abbrev pub instructions_of : List ℕ → Result (List Insn) ImageFault
instructions_of image = elim (image_instructions image) [
  | Ok insns ↦ Ok insns
  | Err fault ↦ Err (reading_fault fault)
]

-- the eight bytes of an instruction
abbrev pub instruction_bytes : Insn → List ℕ
instruction_bytes insn = little_bytes 2 insn.code ++ (insn.jt ∷ insn.jf ∷ little_bytes 4 insn.k)

-- the image of a list of instructions
abbrev pub image_of : List Insn → List ℕ
image_of insns = flat_map instruction_bytes insns

-- an answer that is what was read, seen by view, or why there is nothing to read
abbrev pub Reads : {X Y : Type 0} → (X → Y) → Result X NoImage → Result Y NoImage → Type 0
Reads view (Ok value) given = given ≡ Ok (view value)
Reads view (Err fault) given = given ≡ Err fault

-- a fault is the image's own; memory is refused only where there are instructions to hold
abbrev pub IsReadingFault : {X : Type 0} → ImageFault → Result X ImageFault → Type 0
IsReadingFault Memory given = IsOk given
IsReadingFault fault given = given ≡ Err fault
