-- Worked documents: a small one of each word.
use Rattle.std.specs.Prelude.{ℕ, ◌≡◌, ◌++◌, List, [], ◌∷◌, codes, true, false, Some, None}
use Rattle.sk_insn.specs.declared.record.Record.{Record}
use Rattle.sk_insn.specs.Record.{native}
use Rattle.sk_names.specs.declared.architecture.Architecture.TheVariants as architecture
use Rattle.sk_arguments.specs.declared.naming.Naming.TheVariants as naming
use Rattle.sk_conditions.specs.declared.standing.Relation.TheVariants.{Same}
use Rattle.sk_survey.specs.Answers.{answers_of}
use Rattle.sk_survey.specs.declared.answered.Answered.{Answered}
use Rattle.sk_survey.specs.declared.other.Other.TheVariants.{Verdict}
use Rattle.sk_survey.specs.declared.told.Told.{Told}
use Rattle.sk_show.specs.Examples.{plain_call}
use Rattle.sk_show.specs.declared.survey_line.Line as survey
use Rattle.sk_show.specs.declared.survey_line.Shown.{Shown}
use Rattle.sk_terms.specs.declared.choices.Choice.{Choice}
use Rattle.sk_terms.specs.declared.lines.Line.{Line}
use Rattle.sk_terms.specs.declared.term.Register.TheVariants.{Argument}
use Rattle.sk_terms.specs.declared.term.Term.{Term}
use Rattle.sk_when.specs.declared.diff_engine.Finding.TheVariants as finding
use Rattle.sk_when.specs.declared.names.Names.{Names}
use Rattle.sk_when.specs.declared.piece.Calls.TheVariants.{Every}
use Rattle.sk_when.specs.declared.piece.Outcome.TheVariants.{Undecided, Apart}
use Rattle.sk_when.specs.declared.piece.Part.{Part}
use Rattle.sk_when.specs.declared.piece.Piece.{Piece}
use Rattle.sk_when.specs.declared.row.ConditionalRow.{ConditionalRow}
use Rattle.sk_when.specs.Naming.{names_of}
use Rattle.sk_document.specs.ArchesDocument.{arches_document}
use Rattle.sk_document.specs.CallsDocument.{calls_document}
use Rattle.sk_document.specs.ComparisonDocument.{comparison_document}
use Rattle.sk_document.specs.LintDocument.{lint_document}
use Rattle.sk_document.specs.WhenDocument.{when_document}
use Rattle.sk_document.specs.WorkedValues.{clone}

abbrev pub names : Names
names = names_of naming.Numbers architecture.X86_64

-- an error, and what lets a call through
abbrev pub two_values : List ℕ
two_values = 0x00050001 ∷ 0x7fff0000 ∷ []

-- ---- calls

-- no call was found for the error, and one for the other verdict, at the instruction 3 of the oldest filter
abbrev pub two_shown : List Shown
two_shown =
    record { value = 0x00050001; found = None }
    ∷ record { value = 0x7fff0000; found = Some (record { call = plain_call 39; filter = 0; place = 3 }) } ∷ []

-- getpid(2) with both verdicts
pub record IsGetpid (line : survey.Line) : Type 0 where
  pub first : line.row.first ≡ 39
  pub last : line.row.last ≡ 39
  pub answers : answers_of line.row.answers ≡ Some two_values
  pub shown : line.shown.items ≡ two_shown

-- the document of that row
abbrev pub calls_written : List ℕ
calls_written =
    codes "{\"word\":\"calls\",\"architecture\":\"x86-64\",\"looks_at_architecture\":true,\"rows\":[{\"first\":39,\"last\":39,\"name\":\"getpid\","
    ++ (codes "\"verdicts\":[{\"value\":327681,\"action\":\"errno\",\"data\":1,\"text\":\"errno/1 EPERM\"},{\"value\":2147418112,\"action\":\"allow\","
    ++ (codes "\"data\":0,\"text\":\"allow\"}],\"text\":\"errno/1 EPERM | allow\",\"examples\":[{\"verdict\":{\"value\":327681,\"action\":\"errno\","
    ++ (codes "\"data\":1,\"text\":\"errno/1 EPERM\"},\"found\":null},{\"verdict\":{\"value\":2147418112,\"action\":\"allow\",\"data\":0,"
    ++ (codes "\"text\":\"allow\"},\"found\":{\"filter\":0,\"instruction\":3,\"call\":{\"number\":39,\"name\":\"getpid\",\"args\":[\"0x0\","
    ++ (codes "\"0x0\",\"0x0\",\"0x0\",\"0x0\",\"0x0\"],\"ip\":\"0x0\",\"record\":\"270000003e0000c00000000000000000000000000000000000000000000000000000000000000000000000000000000000000000000000000000000000000000\","
    ++ codes "\"text\":\"syscall(SYS_getpid, 0x0, 0x0, 0x0, 0x0, 0x0, 0x0)\"}}}]}]}\n")))))

abbrev pub CallsDocumentWorks : Type 0
CallsDocumentWorks =
    (line : survey.Line) → IsGetpid line
    → calls_document architecture.X86_64 true (line ∷ [])
    ≡ calls_written

-- ---- when

abbrev pub is_16 : Term
is_16 = record { register = Argument 0; mask = 0xffffffffffffffff; first = 16; last = 16; inside = true }

-- socket(2) is refused where its first argument is 16, and else let through
pub record IsSocket (choice : Choice) (line : Line) (told : ConditionalRow) : Type 0 where
  pub terms : choice.terms.items ≡ is_16 ∷ []
  pub value : line.value ≡ Some 0x00050001
  pub choices : line.choices.items ≡ choice ∷ []
  pub first : told.row.first ≡ 41
  pub last : told.row.last ≡ 41
  pub answers : answers_of told.row.answers ≡ Some two_values
  pub lines : told.lines.items ≡ line ∷ []
  pub otherwise : told.otherwise ≡ Some 0x7fff0000

-- the document of that row
abbrev pub when_written : List ℕ
when_written =
    codes "{\"word\":\"when\",\"architecture\":\"x86-64\",\"rows\":[{\"first\":41,\"last\":41,\"name\":\"socket\",\"verdicts\":[{\"value\":327681,"
    ++ (codes "\"action\":\"errno\",\"data\":1,\"text\":\"errno/1 EPERM\"},{\"value\":2147418112,\"action\":\"allow\",\"data\":0,\"text\":\"allow\"}],"
    ++ (codes "\"lines\":[{\"verdict\":{\"value\":327681,\"action\":\"errno\",\"data\":1,\"text\":\"errno/1 EPERM\"},\"choices\":[[{\"argument\":\"args[0]\","
    ++ (codes "\"mask\":\"0xffffffffffffffff\",\"from\":\"0x10\",\"to\":\"0x10\",\"inside\":true}]],\"condition\":\"args[0] == 0x10\"}],"
    ++ codes "\"otherwise\":{\"value\":2147418112,\"action\":\"allow\",\"data\":0,\"text\":\"allow\"}}]}\n")))

abbrev pub WhenDocumentWorks : Type 0
WhenDocumentWorks =
    (choice : Choice) (line : Line) (told : ConditionalRow) → IsSocket choice line told
    → when_document names (told ∷ [])
    ≡ when_written

-- ---- comparisons

-- the piece of one number with these parts
pub record HasParts (nr : ℕ) (parts : List Part) (piece : Piece) : Type 0 where
  pub first : piece.numbers.first ≡ nr
  pub last : piece.numbers.last ≡ nr
  pub items : piece.parts.items ≡ parts

abbrev pub undecided : Part
undecided = record { calls = Every; outcome = Undecided }

-- the call is let through in place of an error
abbrev pub looser : ℕ → Record → Part
looser old shown = record { calls = Every; outcome = Apart (record { old = old; new = 0x7fff0000 }) shown }

-- the document of two parts of clone(2)
abbrev pub comparison_written : List ℕ
comparison_written =
    codes "{\"word\":\"diff\",\"architecture\":\"x86-64\",\"relation\":\"same\",\"holds\":false,\"differences\":[{\"first\":56,\"last\":56,"
    ++ (codes "\"name\":\"clone\",\"kind\":\"undecided\",\"old\":null,\"new\":null,\"choices\":null,\"condition\":null,\"call\":null},"
    ++ (codes "{\"first\":56,\"last\":56,\"name\":\"clone\",\"kind\":\"looser\",\"old\":{\"value\":327681,\"action\":\"errno\",\"data\":1,"
    ++ (codes "\"text\":\"errno/1 EPERM\"},\"new\":{\"value\":2147418112,\"action\":\"allow\",\"data\":0,\"text\":\"allow\"},\"choices\":null,"
    ++ (codes "\"condition\":null,\"call\":{\"number\":56,\"name\":\"clone\",\"args\":[\"0x10000011\",\"0x0\",\"0x0\",\"0xffffffffffffffff\","
    ++ (codes "\"0x0\",\"0x1\"],\"ip\":\"0x0\",\"record\":\"380000003e0000c00000000000000000110000100000000000000000000000000000000000000000ffffffffffffffff00000000000000000100000000000000\","
    ++ codes "\"text\":\"syscall(SYS_clone, 0x10000011, 0x0, 0x0, 0xffffffffffffffff, 0x0, 0x1)\"}}]}\n")))))

-- the parts stand in their order, whatever their kinds are
abbrev pub ComparisonDocumentWorks : Type 0
ComparisonDocumentWorks =
    (piece : Piece) → HasParts 56 (undecided ∷ looser 0x00050001 clone ∷ []) piece
    → comparison_document (codes "diff") names Same finding.Fails (piece ∷ [])
    ≡ comparison_written

-- ---- lint

-- of socket(2) Linux does not read the upper half of the first argument
abbrev pub socket : Record
socket = native 41 0 (0x100000010 ∷ 3 ∷ 9 ∷ 0 ∷ 0 ∷ 0 ∷ [])

-- the document of two parts of socket(2)
abbrev pub lint_written : List ℕ
lint_written =
    codes "{\"word\":\"lint\",\"holds\":false,\"differences\":[{\"first\":41,\"last\":41,\"name\":\"socket\",\"architecture\":\"x86-64\","
    ++ (codes "\"concern\":\"looser\",\"old\":{\"value\":327702,\"action\":\"errno\",\"data\":22,\"text\":\"errno/22 EINVAL\"},\"new\":{\"value\":2147418112,"
    ++ (codes "\"action\":\"allow\",\"data\":0,\"text\":\"allow\"},\"choices\":null,\"condition\":null,\"call\":{\"number\":41,\"name\":\"socket\","
    ++ (codes "\"args\":[\"0x100000010\",\"0x3\",\"0x9\",\"0x0\",\"0x0\",\"0x0\"],\"ip\":\"0x0\",\"record\":\"290000003e0000c00000000000000000100000000100000003000000000000000900000000000000000000000000000000000000000000000000000000000000\","
    ++ (codes "\"text\":\"syscall(SYS_socket, 0x100000010, 0x3, 0x9, 0x0, 0x0, 0x0)\"},\"taken\":{\"number\":41,\"name\":\"socket\","
    ++ (codes "\"args\":[\"0x10\",\"0x3\",\"0x9\",\"0x0\",\"0x0\",\"0x0\"],\"ip\":\"0x0\",\"record\":\"290000003e0000c00000000000000000100000000000000003000000000000000900000000000000000000000000000000000000000000000000000000000000\","
    ++ (codes "\"text\":\"syscall(SYS_socket, 0x10, 0x3, 0x9, 0x0, 0x0, 0x0)\"},\"remark\":\"  a word\\n\"},{\"first\":41,\"last\":41,"
    ++ (codes "\"name\":\"socket\",\"architecture\":\"x86-64\",\"concern\":\"undecided\",\"old\":null,\"new\":null,\"choices\":null,\"condition\":null,"
    ++ codes "\"call\":null,\"taken\":null,\"remark\":\"\"}]}\n")))))))

abbrev pub LintDocumentWorks : Type 0
LintDocumentWorks =
    (piece : Piece) → HasParts 41 (looser 0x00050016 socket ∷ undecided ∷ []) piece
    → lint_document naming.Numbers (λ call. codes "  a word\n") finding.Fails (piece ∷ [])
    ≡ lint_written

-- ---- arches

-- the calls of x86-64 are judged one by one, those of i386 by the same numbers, and others end the process
pub record IsJudged (it : Answered) (told : Told) : Type 0 where
  pub architecture : it.architecture ≡ architecture.X86_64
  pub answers : answers_of it.row.answers ≡ Some two_values
  pub all : told.all.items ≡ it ∷ []
  pub other : told.other ≡ Verdict 0x80000000
  pub i386 : told.i386 ≡ true
  pub x32 : told.x32 ≡ false

-- the document of what is told
abbrev pub arches_written : List ℕ
arches_written =
    codes "{\"word\":\"arches\",\"architectures\":[{\"name\":\"x86-64\",\"verdict\":null}],\"other\":{\"followed\":true,\"verdict\":{\"value\":2147483648,"
    ++ codes "\"action\":\"kill_process\",\"data\":0,\"text\":\"kill_process\"}},\"warnings\":[{\"architecture\":\"i386\",\"ptrace\":26}]}\n"

abbrev pub ArchesDocumentWorks : Type 0
ArchesDocumentWorks =
    (it : Answered) (told : Told) → IsJudged it told
    → arches_document told
    ≡ arches_written
