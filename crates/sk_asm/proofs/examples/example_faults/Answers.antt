use Rattle.std.proofs.Common.{refl}
use Rattle.sk_text.specs.Lines.{is_printable_byte}
use Rattle.sk_text.specs.Numbers.{number_of}
use Rattle.sk_text.specs.Words.{is_letter, is_name_byte, is_name}
use Rattle.sk_asm.specs.Grammar.{label_of, destination_of, action_with, action_value, returned_value, branching, shaped, raw, instruction_said, spoken, statement_of}
use Rattle.sk_asm.specs.Passes.{checked, noted, labelled, distance, resolved, emitted, assembled_lines}
use Rattle.sk_asm.proofs.examples.example_faults.Goals as goal

pub returns : goal.returns
unfolding is_printable_byte number_of is_letter is_name_byte is_name label_of destination_of action_with action_value returned_value branching shaped raw instruction_said spoken statement_of checked noted labelled distance resolved emitted assembled_lines
returns c = record { back = refl; twice = refl; label = refl; line_first = refl; data_too_large = refl; unknown = refl }
