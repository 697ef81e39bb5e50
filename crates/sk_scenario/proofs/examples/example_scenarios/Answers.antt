use Rattle.std.proofs.Common.{refl}
use Rattle.sk_scenario.proofs.Common.{decode_pairs, bytes_in, is_printable_byte, number_of, is_letter, is_name_byte, is_name, is_end, label_of, destination_of, action_with, action_value, returned_value, branching, shaped, raw, instruction_said, spoken, statement_of, noted, labelled, distance, emitted, assembled_lines, headed, heading_of, bytes_of, decimal_of, argument_of, asked, asked_of, call_of, checked, remarked, given, opened, started, coded, decided, resolved, called, inside, within, stepped, reading, scenario_of}
use Rattle.sk_asm.specs.Passes.{checked as asm_checked, resolved as resolved_label}
use Rattle.sk_scenario.specs.laws.WorkedScenarios.{attaching, attaching_setting}
use Rattle.sk_scenario.proofs.Relation.{scenario_of-stands}
use Rattle.sk_scenario.proofs.examples.example_scenarios.Goals as goal

pub returns : goal.returns
unfolding decode_pairs is_printable_byte number_of is_letter is_name_byte is_name bytes_in label_of destination_of action_with action_value returned_value branching shaped raw instruction_said spoken statement_of asm_checked noted labelled distance resolved_label emitted assembled_lines is_end headed heading_of bytes_of decimal_of argument_of asked asked_of call_of checked remarked given opened started coded decided resolved called inside within stepped reading scenario_of
returns c = record { nothing = refl; spaces = refl; filter = refl; attaching = refl; attaching_stands = scenario_of-stands attaching attaching_setting refl; number = refl; arguments = refl; forks = refl; bytes = refl; headings = refl; greatest = refl }
