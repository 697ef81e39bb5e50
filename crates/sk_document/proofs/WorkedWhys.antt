-- The document of a path is what the definitions compute.
use Rattle.std.proofs.Common.{refl}
use Rattle.std.specs.Fmt.{digits}
use Rattle.hex.specs.Hex.{encode_with}
use Rattle.json.proofs.OnLiterals.{json_on_literals}
use Rattle.sk_insn.specs.Actions.{action_of}
use Rattle.sk_insn.specs.Operations.{operation_of}
use Rattle.sk_asm.specs.Listing.{words_for}
use Rattle.sk_text.specs.Hexadecimal.{hex_half, hex_word}
use Rattle.sk_filter.specs.Errors.{error_named}
use Rattle.sk_filter.specs.VerdictText.{verdict_text}
use Rattle.sk_names.specs.X86_64.{name_of}
use Rattle.sk_names.specs.Names.{name_on}
use Rattle.std.specs.Int.Count.{ones_in}
use Rattle.sk_arguments.specs.Constants.{all_names, all_numbers, form_of, holds, name_in}
use Rattle.sk_arguments.specs.Naming.{call_with_constants}
use Rattle.sk_terms.specs.Text.{argument_text}
use Rattle.sk_when.specs.DiffText.{arguments_text, call_text}
use Rattle.sk_document.specs.Documents.{at, number_at, string_at, word_at}
use Rattle.sk_document.specs.Verdicts.{judged}
use Rattle.sk_document.specs.Numbers.{architecture_at, name_at}
use Rattle.sk_document.specs.Calls.{arguments_at, call, hexadecimal_at, record_at, record_digits, registers, text_at}
use Rattle.sk_document.specs.Deciding.{decision, decisions_at, where_at}
use Rattle.sk_document.specs.ReplayDocument.{logged_at}
use Rattle.sk_document.specs.WhyDocument.{asked_at, end_at, filter_path, filters_at, found_in, held_at, insn_at, next_at, outcome_at, path_step, steps_at, why_tokens}
use Rattle.sk_document.specs.WorkedWhys.{WhyDocumentWorks}

pub why_works : WhyDocumentWorks
unfolding digits encode_with json_on_literals argument_text action_of operation_of words_for hex_half hex_word error_named verdict_text name_of name_on call_with_constants all_names all_numbers form_of holds name_in ones_in arguments_text call_text at number_at string_at word_at judged architecture_at name_at arguments_at call hexadecimal_at record_at record_digits registers text_at asked_at end_at filter_path filters_at found_in held_at insn_at next_at path_step steps_at where_at decision decisions_at logged_at outcome_at why_tokens
why_works = refl
