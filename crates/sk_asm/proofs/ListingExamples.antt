-- Each worked line is what the definition computes.
use Rattle.std.proofs.Common.{refl}
use Rattle.std.specs.Fmt.{digits}
use Rattle.hex.specs.Hex.{encode_with}
use Rattle.sk_text.specs.Hexadecimal.{hex_half, hex_word}
use Rattle.sk_insn.specs.Operations.{operation_of}
use Rattle.sk_asm.specs.Listing.{words_for}
use Rattle.sk_asm.specs.WorkedLines.{WorkedLines}

pub worked_lines : WorkedLines
unfolding words_for operation_of hex_word hex_half encode_with digits
worked_lines = record {
  no_instruction = refl;
  filter = refl;
  no_operand = refl;
  largest_number = refl;
  far_jump = refl;
  largest_distances = refl;
  lower_case_digits = refl;
  load_past_the_record = refl;
  code_not_permitted = refl;
  largest_code = refl;
  unused_jt = refl;
  unused_jf = refl;
  unused_k = refl;
  unused_k_of_a_jump = refl;
}
