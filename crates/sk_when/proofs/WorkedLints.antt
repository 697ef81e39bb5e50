-- The worked examples of `ask lint`.
use Rattle.std.proofs.Common.{◌≡◌, ◌∷◌, [], refl, arith}
use Rattle.std.specs.Fmt.{digits}
use Rattle.sk_insn.specs.Actions.{action_of}
use Rattle.sk_insn.specs.Operations.{operation_of}
use Rattle.sk_arguments.specs.Reading.{decided_by, kind_by, kind_of, unread_at, unread_places}
use Rattle.sk_filter.specs.Verdict.{verdict_of}
use Rattle.sk_names.specs.X86_64.{name_of}
use Rattle.sk_names.specs.Names as names
use Rattle.sk_names.specs.Names.{name_at, name_on, runs_of}
use Rattle.sk_arguments.specs.Constants.{all_names, all_numbers, form_of, holds, name_in}
use Rattle.sk_arguments.specs.Naming.{call_with_constants}
use Rattle.std.specs.Int.Count.{ones_in}
use Rattle.sk_terms.specs.Text.{argument_text}
use Rattle.sk_when.specs.DiffText.{arguments_text, call_text, head_text}
use Rattle.sk_when.specs.Lint.{IsClean}
use Rattle.sk_when.specs.LintNotes.{argument_name_text, note_text}
use Rattle.sk_when.specs.LintText.{conditions_text, taken_line}
use Rattle.sk_when.specs.WorkedLints.{ConcernsWork, SocketsWork, WordsWork, podman, socket_with}

unclean : IsClean (podman ∷ []) → ⊥
unfolding unread_places unread_at kind_of kind_by operation_of
unclean clean =
    let same : verdict_of (podman ∷ []) (socket_with 0x100000010) ≡ verdict_of (podman ∷ []) (socket_with 0x10) =
    clean (socket_with 0x100000010) (socket_with 0x10) ((refl, refl), (refl, refl)) in
    let wrong : 0x7fff0000 ≡ 0x00050016 = same in
    omega (arith, wrong)

pub sockets_work : SocketsWork
unfolding unread_places unread_at kind_of kind_by operation_of
sockets_work = record {
  refused = refl;
  passed = refl;
  taken = refl;
  unclean = unclean;
  looked_at = refl;
  asked = refl;
  unasked = refl;
}

pub concerns_work : ConcernsWork
unfolding kind_of kind_by action_of
concerns_work = record {
  looser = refl;
  stricter = refl;
  every = refl;
  signed = λ line unmet. rw unmet refl;
  no_int = λ line. refl;
  open_part = refl;
  nothing = refl;
}

pub words_work : WordsWork
unfolding unread_places unread_at kind_of kind_by decided_by taken_line conditions_text call_text arguments_text argument_text call_with_constants all_names all_numbers form_of holds name_in ones_in note_text argument_name_text head_text name_of name_at names.name_in runs_of name_on digits
words_work = record {
  taken = refl;
  taken_named = refl;
  none_left = refl;
  one_left = refl;
  some_left = refl;
  clean = refl;
  pointer = refl;
  absent = refl;
  decided = refl;
  plain = refl;
  of_pointer = refl;
  of_absent = refl;
  of_x32 = refl;
  of_decided = refl;
  null_test = refl;
  other_test = refl;
  elsewhere = refl;
}
