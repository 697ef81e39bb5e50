-- Each of these is what the definitions compute.
use Rattle.std.proofs.Common.{refl}
use Rattle.std.specs.Fmt.{digits}
use Rattle.hex.specs.Hex.{encode_with}
use Rattle.json.proofs.OnLiterals.{json_on_literals}
use Rattle.sk_insn.specs.Actions.{action_of}
use Rattle.sk_filter.specs.Errors.{error_named}
use Rattle.sk_filter.specs.VerdictText.{verdict_text}
use Rattle.sk_names.specs.X86_64.{name_of}
use Rattle.sk_names.specs.Names.{name_at, name_in, name_on, runs_of}
use Rattle.sk_arguments.specs.Naming.{call_with_constants}
use Rattle.sk_terms.specs.Text.{argument_text}
use Rattle.sk_when.specs.DiffText.{arguments_text, call_text}
use Rattle.sk_document.specs.Documents.{at, boolean_at, number_at, string_at}
use Rattle.sk_document.specs.Verdicts.{judged}
use Rattle.sk_document.specs.Numbers.{name_at as name_member, numbers}
use Rattle.sk_document.specs.Calls.{arguments_at, call, hexadecimal_at, record_at, record_digits, registers, text_at}
use Rattle.sk_document.specs.Terms.{argument_at, term}
use Rattle.sk_document.specs.WorkedValues.{CallsWork, NumbersWork, TermsWork, VerdictsWork}

pub verdicts_work : VerdictsWork
unfolding digits json_on_literals action_of error_named verdict_text at number_at string_at judged
verdicts_work = record { refused = refl; allowed = refl; several = refl; any = refl; expected = refl }

pub numbers_work : NumbersWork
unfolding digits json_on_literals name_of name_on at number_at name_member numbers
numbers_work = record { named = refl; unnamed = refl; several = refl }

pub calls_work : CallsWork
unfolding digits encode_with json_on_literals name_of name_on name_at name_in runs_of call_with_constants argument_text arguments_text call_text at number_at string_at name_member arguments_at call hexadecimal_at record_at record_digits registers text_at
calls_work = record { native = refl; elsewhere = refl }

pub terms_work : TermsWork
unfolding digits json_on_literals at boolean_at string_at hexadecimal_at argument_at term
terms_work = record { argument = refl; pointer = refl }
