-- Each worked text is what the definition computes.
use Rattle.std.proofs.Common.{refl}
use Rattle.std.specs.Fmt.{digits}
use Rattle.hex.specs.Hex.{encode_with}
use Rattle.sk_text.specs.Hexadecimal.{hex_half, hex_word}
use Rattle.sk_insn.specs.Actions.{action_of}
use Rattle.sk_insn.specs.Operations.{operation_of}
use Rattle.sk_names.specs.X86_64.{name_of}
use Rattle.sk_names.specs.Names.{name_at, name_in, name_on, runs_of}
use Rattle.sk_asm.specs.Listing.{words_for}
use Rattle.sk_filter.specs.Errors.{error_named}
use Rattle.sk_filter.specs.VerdictText.{verdict_text}
use Rattle.sk_show.specs.Notes.{argument_text, field_text, note_text}
use Rattle.sk_show.specs.Coming.{comes_from, comes_to}
use Rattle.sk_show.specs.Holding.{ways_from, ways_to}
use Rattle.sk_show.specs.Showing.{comment_line, insn_line, lines_from, shown_words, side_word}
use Rattle.sk_show.specs.WorkedTexts.{WorkedTexts}

pub worked_texts : WorkedTexts
unfolding words_for operation_of hex_word hex_half encode_with digits name_of name_at name_in name_on runs_of action_of error_named verdict_text argument_text field_text note_text comment_line insn_line lines_from comes_from comes_to ways_from ways_to shown_words side_word
worked_texts = record {
  no_instruction = refl;
  filter = refl;
  ways = refl;
  kept = refl;
  not_named = refl;
  on_aarch64 = refl;
  on_x32 = refl;
  of_two = refl;
  of_others = refl;
  of_one = refl;
  small = refl;
  next = refl;
  last = refl;
  label = refl;
  number_field = refl;
  pointer = refl;
  first_argument = refl;
  last_argument = refl;
  turned_pointer = refl;
  turned_argument = refl;
  turned_last = refl;
  on_s390x = refl;
  no_field = refl;
  no_word = refl;
  big_endian = refl;
  no_architecture = refl;
}
