-- A listing assembles to the instructions that it lists, whatever they are.
use Rattle.std.specs.Prelude.{◌≡◌, ◌<◌, ◌≤◌, ◌^◌, All, List, length, Ok}
use Rattle.sk_insn.specs.declared.insn.Insn.{Insn}
use Rattle.sk_asm.specs.Assembly.{AssemblesText}
use Rattle.sk_asm.specs.Passes.{assembled}
use Rattle.sk_asm.specs.Listing.{listing_of}

-- fields of 16, 8, 8 and 32 bits, as each value of the code's type has
pub record IsInRange (given : Insn) : Type 0 where
  pub code : given.code < 2 ^ 16
  pub jt : given.jt < 2 ^ 8
  pub jf : given.jf < 2 ^ 8
  pub k : given.k < 2 ^ 32

-- the listing stands for the instructions, of which an assembler takes at most 4096
abbrev pub ListingAssembles : Type 0
ListingAssembles =
    (insns : List Insn) → All IsInRange insns → length insns ≤ 4096 → AssemblesText (listing_of insns) insns

-- and the assembler's passes find them in it, without a fault
abbrev pub ListingIsAssembled : Type 0
ListingIsAssembled =
    (insns : List Insn) → All IsInRange insns → length insns ≤ 4096 → assembled (listing_of insns) ≡ Ok insns
