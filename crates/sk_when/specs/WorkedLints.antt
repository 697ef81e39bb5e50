-- Worked examples of `ask lint`: socket(2) as podman's default filter has it, which refuses netlink's audit protocol by numbers of 64
-- bits; a filter that refuses kill(2) of pid -1; and what is written and noted of calls.
use Rattle.std.specs.Prelude.{ℕ, ◌≡◌, true, false, List, [], ◌∷◌, codes, Some, None}
use Rattle.sk_insn.specs.declared.insn.Insn.{Insn}
use Rattle.sk_insn.specs.declared.operation.Comparison.TheVariants.{Equal}
use Rattle.sk_insn.specs.declared.operation.Operand.TheVariants.{Constant}
use Rattle.sk_insn.specs.declared.operation.Operation.TheVariants.{LoadRecord, Branch, ReturnConstant}
use Rattle.sk_insn.specs.declared.record.Record.{Record}
use Rattle.sk_insn.specs.Record.{native}
use Rattle.sk_arguments.specs.declared.naming.Naming.TheVariants as naming
use Rattle.sk_arguments.specs.Reading.{unread_places}
use Rattle.sk_filter.specs.WorkedMeanings.{does, compares}
use Rattle.sk_filter.specs.Verdict.{verdict_of}
use Rattle.sk_survey.specs.Taken.{loaded_places, taken_as}
use Rattle.sk_conditions.specs.declared.differences.Verdicts.{Verdicts}
use Rattle.sk_conditions.specs.declared.test.Test.{Test}
use Rattle.sk_terms.specs.declared.lines.Line.{Line}
use Rattle.sk_terms.specs.Lines.{meets_line}
use Rattle.sk_when.specs.declared.concern.Concern.TheVariants as concern
use Rattle.sk_when.specs.declared.diff_engine.Finding.TheVariants as finding
use Rattle.sk_when.specs.declared.lint_notes.Note.TheVariants as note
use Rattle.sk_when.specs.declared.piece.Calls.TheVariants.{Every, Meeting}
use Rattle.sk_when.specs.declared.piece.Outcome.TheVariants.{Undecided, Apart}
use Rattle.sk_when.specs.Lint.{IsClean, concern_of, is_asked, lint_finding, with_one_above}
use Rattle.sk_when.specs.LintNotes.{calls_for, note_of, note_text}
use Rattle.sk_when.specs.LintText.{count_text, nothing_text, shown_taken_text}

-- socket(AF_NETLINK, .., NETLINK_AUDIT) is answered by EINVAL, error 22, and all other calls are allowed
abbrev pub podman : List Insn
podman =
    does LoadRecord 0 ∷
    compares (Branch Equal Constant) 41 0 9 ∷
    does LoadRecord 20 ∷
    compares (Branch Equal Constant) 0 0 7 ∷
    does LoadRecord 16 ∷
    compares (Branch Equal Constant) 16 0 5 ∷
    does LoadRecord 36 ∷
    compares (Branch Equal Constant) 0 0 3 ∷
    does LoadRecord 32 ∷
    compares (Branch Equal Constant) 9 0 1 ∷
    does ReturnConstant 0x00050016 ∷
    does ReturnConstant 0x7fff0000 ∷
    []

abbrev pub socket_with : ℕ → Record
socket_with domain = native 41 0 (domain ∷ 3 ∷ 9 ∷ 0 ∷ 0 ∷ 0 ∷ [])

-- a bit that Linux does not read lets the call pass; so the filter is not clean, and a filter that compares nothing has no piece
pub record SocketsWork : Type 0 where
  pub refused : verdict_of (podman ∷ []) (socket_with 0x10) ≡ 0x00050016
  pub passed : verdict_of (podman ∷ []) (socket_with 0x100000010) ≡ 0x7fff0000
  pub taken : taken_as (socket_with 0x100000010) ≡ socket_with 0x10
  pub unclean : IsClean (podman ∷ []) → ⊥
  pub looked_at : loaded_places (podman ∷ []) (unread_places 41) ≡ 20 ∷ 36 ∷ []
  pub asked : is_asked (podman ∷ []) 41 ≡ true
  pub unasked : is_asked ((does ReturnConstant 0x7fff0000 ∷ []) ∷ []) 41 ≡ false

abbrev pub passes : Verdicts
passes = record { old = 0x00050016; new = 0x7fff0000 }

abbrev pub refuses : Verdicts
refuses = record { old = 0x7fff0000; new = 0x00050016 }

-- kill(-1, SIGKILL) where the pid is extended by its sign
abbrev pub kill_all : Record
kill_all = native 62 0 (0xffffffffffffffff ∷ 9 ∷ 0 ∷ 0 ∷ 0 ∷ 0 ∷ [])

-- the same address in open(2), which is no int
abbrev pub open_there : Record
open_there = native 2 0 (0xffffffffffffffff ∷ 0 ∷ 0 ∷ 0 ∷ 0 ∷ 0 ∷ [])

-- what is less strict is told; what is stricter is counted alone, but where it is said of calls with the sign of an int only
pub record ConcernsWork : Type 0 where
  pub looser : concern_of (record { calls = Every; outcome = Apart passes (socket_with 0x100000010) }) ≡ concern.Looser
  pub stricter : concern_of (record { calls = Every; outcome = Apart refuses (socket_with 0x100000010) }) ≡ concern.Stricter
  pub every : concern_of (record { calls = Every; outcome = Apart refuses kill_all }) ≡ concern.Stricter
  pub signed : (line : Line) → meets_line line (with_one_above kill_all 0) ≡ false
      → concern_of (record { calls = Meeting line; outcome = Apart refuses kill_all }) ≡ concern.Signed
  pub no_int : (line : Line) → concern_of (record { calls = Meeting line; outcome = Apart refuses open_there }) ≡ concern.Stricter
  pub open_part : concern_of (record { calls = Every; outcome = Undecided }) ≡ concern.Undecided
  pub nothing : lint_finding [] ≡ finding.Holds

abbrev pub is_null : Test
is_null = record { place = 20; mask = 0xffffffff; comparison = Equal; k = 0 }

-- what Linux takes a call for, how many are left out, and notes
pub record WordsWork : Type 0 where
  pub taken : shown_taken_text naming.Numbers (λ call. codes "  remark\n") (Apart passes (socket_with 0x100000010)) ≡
      codes "  which Linux takes for syscall(SYS_socket, 0x10, 0x3, 0x9, 0x0, 0x0, 0x0)\n  remark\n"
  pub taken_named : shown_taken_text naming.Constants (λ call. []) (Apart passes (socket_with 0x100000010)) ≡
      codes "  which Linux takes for syscall(SYS_socket, AF_NETLINK, SOCK_RAW, NETLINK_AUDIT, 0x0, 0x0, 0x0)\n"
  pub none_left : count_text 0 ≡ []
  pub one_left : count_text 1 ≡ codes "as strict or stricter by such bits: 1 condition (--all shows it)\n"
  pub some_left : count_text 12 ≡ codes "as strict or stricter by such bits: 12 conditions (--all shows them)\n"
  pub clean : nothing_text false ≡ codes "no call gets another verdict by bits that Linux does not read\n"
  pub pointer : note_of 82 0 ≡ Some note.Pointer
  pub absent : note_of 39 0 ≡ Some note.Absent
  pub decided : note_of 157 1 ≡ Some (note.Decided 0)
  pub plain : note_of 41 0 ≡ None
  pub of_pointer : note_text 82 0 note.Pointer ≡ codes "82 rename: args[0] is a pointer: what it points to is not looked at\n"
  pub of_absent : note_text 39 0 note.Absent ≡ codes "39 getpid: args[0] is no argument\n"
  pub of_x32 : note_text 1073741906 0 note.Pointer ≡ codes "1073741906 rename: args[0] is a pointer: what it points to is not looked at\n"
  pub of_decided : note_text 157 1 (note.Decided 0) ≡ codes "157 prctl: args[1] is read for some values of args[0] alone\n"
  pub null_test : calls_for note.Pointer 0 is_null ≡ false
  pub other_test : calls_for note.Pointer 0 (record is_null { k = 1 }) ≡ true
  pub elsewhere : calls_for note.Pointer 1 (record is_null { k = 1 }) ≡ false
