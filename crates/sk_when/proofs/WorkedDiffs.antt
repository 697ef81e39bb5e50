-- Each worked example is what the definitions compute.
use Rattle.std.proofs.Common.{arith, refl}
use Rattle.std.proofs.lemmas.Bool.{true≢false}
use Rattle.std.specs.Fmt.{digits}
use Rattle.hex.specs.Hex.{encode_with}
use Rattle.sk_insn.specs.Actions.{action_of}
use Rattle.sk_insn.specs.Operations.{operation_of}
use Rattle.sk_names.specs.X86_64.{name_of}
use Rattle.sk_names.specs.Names as names
use Rattle.sk_names.specs.Names.{name_at, name_on, runs_of}
use Rattle.sk_arguments.specs.Constants.{all_names, all_numbers, form_of, holds, name_in}
use Rattle.sk_arguments.specs.Naming.{call_with_constants}
use Rattle.std.specs.Int.Count.{ones_in}
use Rattle.sk_terms.specs.Text.{argument_text}
use Rattle.sk_filter.specs.VerdictText.{verdict_text}
use Rattle.sk_filter.specs.Errors.{error_named}
use Rattle.sk_when.specs.DiffText.{arguments_text, call_text, record_text, verdicts_text, head_text}
use Rattle.sk_when.specs.WorkedDiffs.{CallsWork, DifferencesWork, ExpectationsWork, PartsWork}

pub calls_work : CallsWork
unfolding digits encode_with call_text record_text arguments_text argument_text call_with_constants all_names all_numbers form_of holds name_in ones_in name_of name_at names.name_in name_on runs_of
calls_work = record { named = refl; with_constants = refl; numbered = refl; elsewhere = refl }

pub differences_work : DifferencesWork
unfolding digits action_of operation_of verdict_text error_named verdicts_text head_text name_of name_on
differences_work = record {
  verdicts = refl;
  as_strict = refl;
  unknown = refl;
  stricter = refl;
  logged = refl;
  looser = refl;
  looser_too = refl;
  neither = refl;
  ended = refl;
  left_open = refl;
  told_apart = refl;
  told_apart_too = refl;
  single = refl;
  several = refl;
}

pub expectations_work : ExpectationsWork
unfolding digits action_of operation_of verdict_text error_named verdicts_text
expectations_work = record {
  refused = refl;
  performed = refl;
  anything = refl;
  verdict = refl;
  unknown = refl;
  looser = refl;
  stricter = refl;
  other_verdict = refl;
  left_open = refl;
  everywhere = refl;
}

pub parts_work : PartsWork
unfolding action_of operation_of
parts_work = record {
  unseen = refl;
  seen = refl;
  undecided = refl;
  alike = refl;
  every = refl;
  as_strict = λ old new holds. true≢false holds.0.1;
  elsewhere = λ relation old new holds. let above = holds.0.2.0.1.0 in absurd (omega (arith, above));
}
