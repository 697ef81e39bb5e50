-- Each of these is what the definitions compute.
use Rattle.std.proofs.Common.{ℕ, ◌≡◌, ◌++◌, ◌&&◌, ◌||◌, not, Bool, if◌then◌else◌, List, [], ◌∷◌, refl, ◌∙◌}
use Rattle.std.specs.Prelude.{codes, flat_map, is_some, Option, Some, None, true, false}
use Rattle.std.specs.Fmt.{digits}
use Rattle.std.specs.Option.{option_or}
use Rattle.hex.specs.Hex.{encode_with}
use Rattle.json.proofs.OnLiterals.{json_on_literals}
use Rattle.json.specs.Token.{Token}
use Rattle.sk_insn.specs.Actions.{action_of}
use Rattle.sk_filter.specs.Errors.{error_named}
use Rattle.sk_filter.specs.VerdictText.{verdict_text}
use Rattle.sk_names.specs.declared.architecture.Architecture.{Architecture}
use Rattle.sk_names.specs.declared.architecture.Architecture.TheVariants as architecture
use Rattle.sk_names.specs.Architectures.{text_of}
use Rattle.sk_names.specs.X86_64.{name_of}
use Rattle.sk_names.specs.Names.{name_on, number_at as number_in_run, number_in, number_on, runs_of}
use Rattle.sk_arguments.specs.declared.naming.Naming.TheVariants as naming
use Rattle.std.specs.Int.Count.{ones_in}
use Rattle.sk_arguments.specs.Constants.{all_names, all_numbers, form_of, holds, name_in}
use Rattle.sk_arguments.specs.Naming.{call_with_constants}
use Rattle.sk_arguments.specs.Reading.{decided_by, kind_by, kind_of, unread_at, unread_places}
use Rattle.sk_conditions.specs.declared.numbers.Numbers.{Numbers}
use Rattle.sk_conditions.specs.declared.standing.Relation.TheVariants.{Same}
use Rattle.sk_insn.specs.declared.record.Record.{Record}
use Rattle.sk_survey.specs.Answers.{answers_of}
use Rattle.sk_survey.specs.AnswersByArchitecture.{only_value}
use Rattle.sk_survey.specs.Told.{judges_calls}
use Rattle.sk_survey.specs.declared.answered.Answered.{Answered}
use Rattle.sk_survey.specs.declared.other.Other.{Other}
use Rattle.sk_survey.specs.declared.other.Other.TheVariants.{Verdict}
use Rattle.sk_survey.specs.declared.told.Told.{Told}
use Rattle.sk_show.specs.declared.survey_line.Line as survey
use Rattle.sk_show.specs.declared.survey_line.Shown.{Shown}
use Rattle.sk_terms.specs.declared.choices.Choice.{Choice}
use Rattle.sk_terms.specs.declared.lines.Line.{Line}
use Rattle.sk_terms.specs.declared.term.Term.{Term}
use Rattle.sk_terms.specs.Known.{fixed_in, known_by, of_each}
use Rattle.sk_terms.specs.Text.{argument_text, choices_text, terms_text}
use Rattle.sk_when.specs.declared.diff_engine.Finding.TheVariants as finding
use Rattle.sk_when.specs.declared.piece.Part.{Part}
use Rattle.sk_when.specs.declared.piece.Piece.{Piece}
use Rattle.sk_when.specs.declared.row.ConditionalRow.{ConditionalRow}
use Rattle.sk_when.specs.DiffText.{arguments_text, call_text}
use Rattle.sk_when.specs.Naming.{constants_of, names_of}
use Rattle.sk_document.specs.Documents.{array, at, boolean_at, document, number_at, object, string_at, word_at}
use Rattle.sk_document.specs.Verdicts.{judged, maybe_verdict, verdicts_at}
use Rattle.sk_document.specs.Numbers.{architecture_at, name_at, numbers}
use Rattle.sk_document.specs.Calls.{arguments_at, call, hexadecimal_at, record_at, record_digits, registers, text_at}
use Rattle.sk_document.specs.Terms.{argument_at, choices, condition, condition_at, no_condition, term}
use Rattle.sk_document.specs.Differences.{difference, differences_name, holds_at, no_pair, old_and_new}
use Rattle.sk_document.specs.ArchesDocument.{answered, arches_document, arches_tokens, architectures_at, followed, other_answered, other_at, ptrace_at, warned, warning, warnings_at}
use Rattle.sk_document.specs.CallsDocument.{answers_at, calls_document, calls_row, calls_tokens, example, examples_at, looks_at, rows_at, shown}
use Rattle.sk_document.specs.ComparisonDocument.{comparison_document, comparison_part, comparison_piece, comparison_pieces, comparison_tokens, kind_at, relation_at}
use Rattle.sk_document.specs.LintDocument.{concern_at, lint_document, lint_numbers, lint_part, lint_piece, lint_pieces, lint_tokens, named_part, remark_at, taken_at}
use Rattle.sk_document.specs.WhenDocument.{lines_at, otherwise_at, rows_at as when_rows_at, when_document, when_line, when_row, when_tokens}
use Rattle.sk_document.specs.WorkedValues.{clone}
use Rattle.sk_document.specs.WorkedDocuments.{ArchesDocumentWorks, CallsDocumentWorks, ComparisonDocumentWorks, HasParts, LintDocumentWorks, WhenDocumentWorks, arches_written, comparison_written, is_16, lint_written, looser, names, socket, two_values, undecided, when_written}

-- ---- calls

abbrev of_line : ℕ → ℕ → Option (List ℕ) → List Shown → List ℕ
of_line first last answers its =
    let names = names_of naming.Constants architecture.X86_64 in
    document (object (word_at (codes "calls")
    ++ (architecture_at architecture.X86_64
    ++ (looks_at true
    ++ (at (codes "rows")
    ++ array (object (numbers architecture.X86_64 first last
    ++ (answers_at answers ++ (at (codes "examples") ++ array (flat_map (shown names) its)))) ++ []))))))

line_is : (line : survey.Line) → calls_document architecture.X86_64 true (line ∷ [])
    ≡ of_line line.row.first line.row.last (answers_of line.row.answers) line.shown.items
unfolding calls_tokens rows_at calls_row examples_at
line_is line = refl

pub calls_works : CallsDocumentWorks
unfolding digits encode_with json_on_literals action_of error_named verdict_text name_of name_on call_with_constants all_names all_numbers form_of holds name_in ones_in argument_text arguments_text call_text at boolean_at number_at string_at word_at judged verdicts_at architecture_at name_at numbers arguments_at call hexadecimal_at record_at record_digits registers text_at answers_at example looks_at shown
calls_works line is = line_is line ∙ λ i. of_line (is.first i) (is.last i) (is.answers i) (is.shown i)

-- ---- when

-- the document of one row
abbrev of_row : ℕ → ℕ → Option (List ℕ) → List Line → Option ℕ → List ℕ
of_row first last answers lines otherwise =
    document (object (word_at (codes "when")
    ++ (architecture_at architecture.X86_64
    ++ (at (codes "rows")
    ++ array (object (numbers architecture.X86_64 first last
    ++ (verdicts_at answers ++ (lines_at (constants_of names first last) lines ++ otherwise_at otherwise))) ++ [])))))

row_is : (told : ConditionalRow) → when_document names (told ∷ [])
    ≡ of_row told.row.first told.row.last (answers_of told.row.answers) told.lines.items told.otherwise
unfolding when_tokens when_rows_at when_row
row_is told = refl

-- that of a row of socket(2) with this line
abbrev with_line : List Token → List ℕ
with_line line =
    document (object (word_at (codes "when")
    ++ (architecture_at architecture.X86_64
    ++ (at (codes "rows")
    ++ array (object (numbers architecture.X86_64 41 41
    ++ (verdicts_at (Some two_values) ++ ((at (codes "lines") ++ array (line ++ [])) ++ otherwise_at (Some 0x7fff0000)))) ++ [])))))

-- a line of these choices, and of one choice with these terms
abbrev of_choices : Option ℕ → List Choice → List Token
of_choices value its =
    object (at (codes "verdict") ++ (maybe_verdict value
    ++ (at (codes "choices") ++ (choices its ++ string_at (codes "condition") (choices_text (known_by None its) its)))))

abbrev of_terms : List Term → List Token
of_terms terms =
    object (at (codes "verdict") ++ (maybe_verdict (Some 0x00050001)
    ++ (at (codes "choices") ++ (array (array (flat_map term terms) ++ [])
    ++ string_at (codes "condition") (terms_text (record { call = None; arguments = of_each (λ i. option_or (fixed_in i terms) None) }) terms)))))

line_of_row : (line : Line) → of_row 41 41 (Some two_values) (line ∷ []) (Some 0x7fff0000) ≡ with_line (of_choices line.value line.choices.items)
unfolding call_with_constants lines_at when_line condition condition_at
line_of_row line = refl

choice_of_line : (choice : Choice) → with_line (of_choices (Some 0x00050001) (choice ∷ [])) ≡ with_line (of_terms choice.terms.items)
choice_of_line choice = refl

socket_written : with_line (of_terms (is_16 ∷ []))
    ≡ when_written
unfolding digits json_on_literals action_of error_named verdict_text name_of name_on at boolean_at number_at string_at word_at judged verdicts_at architecture_at name_at numbers hexadecimal_at argument_at term otherwise_at
socket_written = refl

pub when_works : WhenDocumentWorks
when_works choice line told is =
    row_is told
    ∙ (λ i. of_row (is.first i) (is.last i) (is.answers i) (is.lines i) (is.otherwise i))
    ∙ line_of_row line
    ∙ (λ i. with_line (of_choices (is.value i) (is.choices i)))
    ∙ choice_of_line choice
    ∙ (λ i. with_line (of_terms (is.terms i)))
    ∙ socket_written

-- ---- comparisons

abbrev numbers_of : ℕ → Numbers
numbers_of nr = record { first = nr; last = nr }

numbers_are : (nr : ℕ) (parts : List Part) (piece : Piece) → HasParts nr parts piece → piece.numbers ≡ numbers_of nr
numbers_are nr parts piece has = λ i. record { first = has.first i; last = has.last i }

-- the document of one piece
abbrev of_piece : Numbers → List Part → List ℕ
of_piece its parts =
    document (object (word_at (codes "diff")
    ++ (architecture_at architecture.X86_64
    ++ (relation_at Same
    ++ (holds_at finding.Fails ++ (differences_name ++ array (flat_map (comparison_part Same names its) parts ++ [])))))))

piece_is : (piece : Piece) → comparison_document (codes "diff") names Same finding.Fails (piece ∷ []) ≡ of_piece piece.numbers piece.parts.items
unfolding comparison_tokens comparison_pieces comparison_piece
piece_is piece = refl

clone_written : of_piece (numbers_of 56) (undecided ∷ looser 0x00050001 clone ∷ [])
    ≡ comparison_written
unfolding digits encode_with json_on_literals action_of error_named verdict_text name_of name_on call_with_constants argument_text arguments_text call_text at boolean_at number_at string_at word_at judged architecture_at name_at numbers arguments_at call hexadecimal_at record_at record_digits registers text_at no_condition no_pair old_and_new difference differences_name holds_at comparison_part kind_at relation_at
clone_written = refl

pub comparison_works : ComparisonDocumentWorks
comparison_works piece has =
    piece_is piece
    ∙ (λ i. of_piece (numbers_are 56 (undecided ∷ looser 0x00050001 clone ∷ []) piece has i) (has.items i))
    ∙ clone_written

-- ---- lint

abbrev remark : Record → List ℕ
remark call = codes "  a word\n"

abbrev of_linted : Numbers → List Part → List ℕ
of_linted its parts =
    document (object (word_at (codes "lint")
    ++ (holds_at finding.Fails ++ (differences_name ++ array (flat_map (lint_part naming.Numbers remark its) parts ++ [])))))

linted_is : (piece : Piece) → lint_document naming.Numbers remark finding.Fails (piece ∷ []) ≡ of_linted piece.numbers piece.parts.items
unfolding lint_tokens lint_pieces lint_piece
linted_is piece = refl

linted_socket_written : of_linted (numbers_of 41) (looser 0x00050016 socket ∷ undecided ∷ [])
    ≡ lint_written
unfolding digits encode_with json_on_literals action_of error_named verdict_text name_of name_on unread_places unread_at kind_of kind_by decided_by call_with_constants argument_text arguments_text call_text at boolean_at number_at string_at word_at judged architecture_at name_at numbers arguments_at call hexadecimal_at record_at record_digits registers text_at no_condition no_pair old_and_new difference differences_name holds_at concern_at lint_numbers lint_part named_part remark_at taken_at
linted_socket_written = refl

pub lint_works : LintDocumentWorks
lint_works piece has =
    linted_is piece
    ∙ (λ i. of_linted (numbers_are 41 (looser 0x00050016 socket ∷ undecided ∷ []) piece has i) (has.items i))
    ∙ linted_socket_written

-- ---- arches

-- the document of what is told
abbrev of_told : List Answered → Other → Bool → Bool → List ℕ
of_told all other i386 x32 =
    document (object (word_at (codes "arches")
    ++ ((at (codes "architectures") ++ array (flat_map answered all))
    ++ ((at (codes "other") ++ other_answered other)
    ++ (at (codes "warnings")
    ++ array (if judges_calls all && (i386 || x32) then warned i386 architecture.I386 ++ warned x32 architecture.X32 else []))))))

-- the same of one architecture
abbrev of_answered : Architecture → Option (List ℕ) → List ℕ
of_answered by answers =
    document (object (word_at (codes "arches")
    ++ ((at (codes "architectures")
    ++ array (object (string_at (codes "name") (text_of by) ++ (at (codes "verdict") ++ maybe_verdict (only_value answers))) ++ []))
    ++ ((at (codes "other") ++ other_answered (Verdict 0x80000000))
    ++ (at (codes "warnings")
    ++ array (if not (is_some (only_value answers)) && (true || false) then warned true architecture.I386 ++ warned false architecture.X32 else []))))))

told_is : (told : Told) → arches_document told ≡ of_told told.all.items told.other told.i386 told.x32
unfolding arches_tokens architectures_at other_at warnings_at
told_is told = refl

answered_is : (it : Answered) → of_told (it ∷ []) (Verdict 0x80000000) true false ≡ of_answered it.architecture (answers_of it.row.answers)
unfolding answered
answered_is it = refl

judged_written : of_answered architecture.X86_64 (Some two_values)
    ≡ arches_written
unfolding digits json_on_literals action_of error_named verdict_text number_in_run number_in number_on runs_of at boolean_at number_at string_at word_at judged architecture_at followed ptrace_at warning
judged_written = refl

pub arches_works : ArchesDocumentWorks
arches_works it told is =
    told_is told
    ∙ (λ i. of_told (is.all i) (is.other i) (is.i386 i) (is.x32 i))
    ∙ answered_is it
    ∙ (λ i. of_answered (is.architecture i) (is.answers i))
    ∙ judged_written
