-- Lines that are worked out by hand.
use Rattle.std.specs.Prelude.{◌≡◌, [], ◌∷◌, codes}
use Rattle.sk_asm.specs.Grammar.{insn}
use Rattle.sk_asm.specs.Listing.{line_for, listing_of}

pub record WorkedLines : Type 0 where
  pub no_instruction : listing_of [] ≡ []
  pub filter :
      listing_of (insn 0x20 0 0 0 ∷ insn 0x15 0 1 110 ∷ insn 0x06 0 0 0x00050001 ∷ insn 0x06 0 0 0x7fff0000 ∷ [])
      ≡ codes "ldabs 0\njeq 110 +0 +1\nret 0x00050001\nret 0x7fff0000\n"
  pub no_operand : line_for (insn 0x87 0 0 0) ≡ codes "txa\n"
  pub largest_number : line_for (insn 0x00 0 0 0xffffffff) ≡ codes "ldimm 4294967295\n"
  pub far_jump : line_for (insn 0x05 0 0 0xffffffff) ≡ codes "ja +4294967295\n"
  pub largest_distances : line_for (insn 0x4d 255 254 0) ≡ codes "jsetx +255 +254\n"
  pub lower_case_digits : line_for (insn 0x06 0 0 0xabcdef) ≡ codes "ret 0x00abcdef\n"
  pub load_past_the_record : line_for (insn 0x20 0 0 62) ≡ codes "ldabs 62\n"
  pub code_not_permitted : line_for (insn 0x30 0 0 12) ≡ codes ".insn 0x0030 0 0 0x0000000c\n"
  pub largest_code : line_for (insn 0xffff 255 254 0xffffffff) ≡ codes ".insn 0xffff 255 254 0xffffffff\n"
  pub unused_jt : line_for (insn 0x06 1 0 0x7fff0000) ≡ codes ".insn 0x0006 1 0 0x7fff0000\n"
  pub unused_jf : line_for (insn 0x05 0 1 0) ≡ codes ".insn 0x0005 0 1 0x00000000\n"
  pub unused_k : line_for (insn 0x07 0 0 1) ≡ codes ".insn 0x0007 0 0 0x00000001\n"
  pub unused_k_of_a_jump : line_for (insn 0x1d 0 0 1) ≡ codes ".insn 0x001d 0 0 0x00000001\n"
