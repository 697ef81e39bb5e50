-- The words and lemmas that these proofs cite, passed on from one place. Declares nothing.
unfoldable pub use Rattle.hex.specs.Hex.{decode_pairs}
pub use Rattle.sk_asm.proofs.Distinct.{given_once-absent, given_once-none, given_once-push}
pub use Rattle.sk_asm.proofs.Entries.{entries_after, named_in_entries}
pub use Rattle.sk_asm.specs.Block.{until_end}
unfoldable pub use Rattle.sk_asm.specs.Block.{is_end}
pub use Rattle.sk_asm.specs.Faults.{IsAsmFault}
pub use Rattle.sk_asm.specs.Grammar.{Branches, Destination, Further, Jumps, Labelled, Marks, Plain, Statement, insn}
unfoldable pub use Rattle.sk_asm.specs.Grammar.{action_value, action_with, branching, destination_of, instruction_said, label_of, raw, returned_value, shaped, spoken, statement_of}
pub use Rattle.sk_asm.specs.Passes.{counted, in_front, landed}
unfoldable pub use Rattle.sk_asm.specs.Passes.{assembled_lines, distance, emitted, labelled, noted}
pub use Rattle.sk_asm.specs.declared.fault.AsmFault.{AsmFault}
pub use Rattle.sk_insn.specs.Instructions.{image_of}
pub use Rattle.sk_insn.specs.declared.insn.Insn.{Insn}
pub use Rattle.sk_scenario.specs.Answers.{Answers, Finds, IsFaultOf, IsToldOf, Tells}
pub use Rattle.sk_scenario.specs.Faults.{AtTop, Beyond, Excess, GoesFirst, InBytes, InCalls, InCode, InFilter, IsFirstFault, IsFirstFaultOfText, IsNotAfter, IsWrongAt, IsWrongCode, IsWrongIn, IsWrongLine, Malformed, Nameless, Place, Wrong, begins_code, bytes_given, exceeds, gives, is_code, is_filter, is_inside, is_nameless, is_of_name, is_program, is_subreapers, is_too_long, is_turns, is_wrong, is_wrong_at_top, is_wrong_in_bytes, is_wrong_in_calls, names_by, names_given, one_more_if, place_at, place_behind, place_in_filter, rank, repeats, said_behind, told}
pub use Rattle.sk_scenario.specs.Grammar.{Alone, Asked, Filter, Heading, Opening, Opens, Program, Remark, Silent, Subreapers, Turns, begins_bytes}
unfoldable pub use Rattle.sk_scenario.specs.Grammar.{argument_of, asked, asked_of, bytes_of, decimal_of, headed, heading_of}
pub use Rattle.sk_scenario.specs.Reading.{Bytes, Calls, Code, Gained, Nothing, Open, Undecided, closed, fault_of, finished, grown, held, limited, nothing_yet, plain, setting, understood, with_call, with_filter, with_name, with_program, with_subreapers, with_turns, ◌>>=◌}
unfoldable pub use Rattle.sk_scenario.specs.Reading.{called, checked, coded, decided, given, inside, opened, reading, remarked, resolved, scenario, scenario_of, started, stepped, within}
pub use Rattle.sk_scenario.specs.Scenario.{AreBytes, AreCalls, AreCode, AreGivenOnce, AreParts, AreTurns, Block, Each, IsImage, IsMark, IsScenario, IsScenarioText, IsScript, Names, Part, Says, Script, Setting, Single, StandFor, behind_end, filters_in, marks_in, named_by, names_from, programs_in, turns_in}
unfoldable pub use Rattle.sk_scenario.specs.Scenario.{call_of}
pub use Rattle.sk_scenario.specs.declared.call.Named.{Named}
pub use Rattle.sk_scenario.specs.declared.call.ScriptCall.{ScriptCall}
pub use Rattle.sk_scenario.specs.declared.fault.ScenarioFault.{ScenarioFault}
pub use Rattle.sk_scenario.specs.declared.text_fault.TextFault.{TextFault}
pub use Rattle.sk_scenario.specs.declared.text_fault.TextFault.TheVariants.{Limit, Line, Unresolved}
pub use Rattle.sk_scenario.specs.views.ScenarioCode.{block_seen, gained, known_seen}
unfoldable pub use Rattle.sk_text.specs.Hexadecimal.{bytes_in}
pub use Rattle.sk_text.specs.Lines.{begins_comment, lines_of, words_of}
unfoldable pub use Rattle.sk_text.specs.Lines.{is_printable_byte}
unfoldable pub use Rattle.sk_text.specs.Numbers.{number_of}
unfoldable pub use Rattle.sk_text.specs.Words.{is_letter, is_name, is_name_byte}
pub use Rattle.std.proofs.lemmas.Bool.{cases_Bool, cases_lt, false≢true, lt-leb}
pub use Rattle.std.proofs.lemmas.Result.{err_from_is_err_and}
pub use Rattle.std.specs.List.{concat, list_all, list_any}
pub use Rattle.std.specs.Option.{option_len, option_map_or}
pub use Rattle.std.specs.Str.{bytes_eq}
