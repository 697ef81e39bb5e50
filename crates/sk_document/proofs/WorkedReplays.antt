-- The document of a replay is what the definitions compute.
use Rattle.std.proofs.Common.{refl}
use Rattle.std.specs.Fmt.{digits}
use Rattle.json.proofs.OnLiterals.{json_on_literals}
use Rattle.sk_insn.specs.Actions.{action_of}
use Rattle.sk_filter.specs.Errors.{error_named}
use Rattle.sk_filter.specs.VerdictText.{verdict_text}
use Rattle.sk_names.specs.X86_64.{name_of}
use Rattle.sk_names.specs.Names.{name_on}
use Rattle.sk_replay.specs.Replaying.{call_text, logged_name, number_text}
use Rattle.sk_document.specs.Documents.{at, boolean_at, number_at, string_at, word_at}
use Rattle.sk_document.specs.Verdicts.{judged}
use Rattle.sk_document.specs.Numbers.{architecture_at, name_at}
use Rattle.sk_document.specs.ReplayDocument.{judged_at, lines_at, logged_at, made, replay_row, replay_rows_at, replay_tokens, shown_args_at, strace_at, undecided_at, undecided_said, verdict_at}
use Rattle.sk_document.specs.WorkedReplays.{ReplayDocumentWorks}

pub replay_works : ReplayDocumentWorks
unfolding digits json_on_literals action_of error_named verdict_text name_of name_on call_text logged_name number_text at boolean_at number_at string_at word_at judged architecture_at name_at judged_at lines_at logged_at made replay_row replay_rows_at replay_tokens shown_args_at strace_at undecided_at undecided_said verdict_at
replay_works = refl
