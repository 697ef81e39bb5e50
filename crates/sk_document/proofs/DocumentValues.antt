-- Each document is a value, made of smaller ones.
use Rattle.std.proofs.Common.{ℕ, ◌++◌, Bool, true, false, if◌then◌else◌, List, [], ◌∷◌, length, take}
use Rattle.std.specs.Prelude.{Option}
use Rattle.json.specs.Token.{Token}
use Rattle.sk_insn.specs.declared.insn.Insn.{Insn}
use Rattle.sk_insn.specs.declared.record.Record.{Record}
use Rattle.sk_names.specs.declared.architecture.Architecture.{Architecture}
use Rattle.sk_names.specs.declared.architecture.Architecture.TheVariants as architecture
use Rattle.sk_arguments.specs.declared.naming.Naming.{Naming}
use Rattle.sk_conditions.specs.declared.numbers.Numbers.{Numbers}
use Rattle.sk_conditions.specs.declared.standing.Relation.{Relation}
use Rattle.sk_conditions.specs.declared.standing.Relation.TheVariants.{Same, AsStrict, Expected}
use Rattle.sk_survey.specs.declared.answered.Answered.{Answered}
use Rattle.sk_survey.specs.declared.other.Other.{Other}
use Rattle.sk_survey.specs.declared.other.Other.TheVariants.{Verdict, Several, Unknown}
use Rattle.sk_survey.specs.declared.told.Told.{Told}
use Rattle.sk_survey.specs.Told.{warns}
use Rattle.sk_show.specs.declared.example.Example.{Example}
use Rattle.sk_replay.specs.declared.call.Call.{Call}
use Rattle.sk_replay.specs.declared.judged.Judged.{Judged}
use Rattle.sk_replay.specs.declared.judged.Judged.TheVariants as judged_variants
use Rattle.sk_replay.specs.declared.row.Row.{Row}
use Rattle.sk_replay.specs.declared.value.Value.{Value}
use Rattle.sk_replay.specs.declared.value.Value.TheVariants as value_variants
use Rattle.sk_replay.specs.Replaying.{logged_name}
use Rattle.sk_show.specs.declared.tracing.Registers.{Registers}
use Rattle.sk_show.specs.declared.tracing.Step.{Step}
use Rattle.sk_show.specs.declared.survey_line.Line as survey
use Rattle.sk_show.specs.declared.survey_line.Shown.{Shown}
use Rattle.sk_terms.specs.declared.choices.Choice.{Choice}
use Rattle.sk_terms.specs.declared.lines.Line.{Line}
use Rattle.sk_terms.specs.declared.term.Register.{Register}
use Rattle.sk_terms.specs.declared.term.Term.{Term}
use Rattle.sk_when.specs.declared.concern.Concern.{Concern}
use Rattle.sk_when.specs.declared.diff_engine.Finding.{Finding}
use Rattle.sk_when.specs.declared.names.Names.{Names}
use Rattle.sk_when.specs.declared.piece.Calls.{Calls}
use Rattle.sk_when.specs.declared.piece.Calls.TheVariants.{Every, Meeting}
use Rattle.sk_when.specs.declared.piece.Outcome.{Outcome}
use Rattle.sk_when.specs.declared.piece.Outcome.TheVariants.{Undecided, Apart}
use Rattle.sk_when.specs.declared.piece.Part.{Part}
use Rattle.sk_when.specs.declared.piece.Piece.{Piece}
use Rattle.sk_when.specs.declared.row.ConditionalRow.{ConditionalRow}
use Rattle.sk_document.specs.Documents.{array, counted, said}
use Rattle.sk_document.specs.Verdicts.{judged, maybe_verdict, verdict, verdict_list, verdicts_at}
use Rattle.sk_document.specs.Numbers.{architecture_at, name_at, numbers}
use Rattle.sk_document.specs.Calls.{arguments_at, call, hexadecimal_at, hexadecimal_said, record_at, registers, text_at}
use Rattle.sk_document.specs.Terms.{argument_at, choice, choices, condition, condition_at, meeting, no_condition, term}
use Rattle.sk_document.specs.Differences.{difference, differences_name, holds_at, no_pair, old_and_new, old_verdict, pair, shown_call}
use Rattle.sk_document.specs.ArchesDocument.{answered, arches_tokens, architectures_at, followed, other_answered, other_at, ptrace_at, warned, warning, warnings, warnings_at}
use Rattle.sk_document.specs.CallsDocument.{answers_at, calls_row, calls_tokens, example, examples_at, looks_at, rows_at, shown}
use Rattle.sk_document.specs.ComparisonDocument.{comparison_part, comparison_piece, comparison_pieces, comparison_tokens, kind_at, relation_at}
use Rattle.sk_document.specs.LintDocument.{concern_at, lint_numbers, lint_part, lint_piece, lint_pieces, lint_tokens, named_part, remark_at, taken, taken_at}
use Rattle.sk_document.specs.WhenDocument.{lines_at, otherwise_at, rows_at as when_rows_at, when_line, when_row, when_tokens}
use Rattle.sk_document.specs.ReplayDocument.{judged_at, lines_at as counts_at, logged_at, logged_said, made, replay_row, replay_rows_at, replay_tokens, shown_args_at, strace_at, told_verdict, undecided_at, undecided_said, value_said, verdict_at}
use Rattle.sk_document.specs.declared.deciding.Decider.{Decider}
use Rattle.sk_document.specs.Deciding.{decision, decision_of, decisions_at, entry_of, line_of, where_at}
use Rattle.sk_document.specs.WhyDocument.{asked_at, end_at, filter_path, filter_paths, filters_at, found_in, held_at, insn_at, next_at, outcome_at, path_step, steps_at, why_tokens}
use Rattle.sk_document.specs.DocumentLaws.{DocumentsAreValues, IsValue}
use Rattle.sk_document.proofs.Values.{AreMembers, AreValues, array_is, array_of, boolean_member, counted_is, each_is, maybe_is, member_before, more_members, more_values, no_values, none_is, number_member, object_is, one_member, one_value, said_is, string_member, word_member}

-- ---- verdicts, numbers and names

judged_is : (value : ℕ) (text : List ℕ) → IsValue (judged value text)
unfolding judged
judged_is value text =
    object_is _ (more_members _ _ (number_member _ value) (more_members _ _ (string_member _ _) (more_members _ _ (number_member _ _) (string_member _ text))))

verdict_is : (value : ℕ) → IsValue (verdict value)
verdict_is value = judged_is value _

maybe_verdict_is : (value : Option ℕ) → IsValue (maybe_verdict value)
maybe_verdict_is value = maybe_is verdict verdict_is value

verdicts_member : (values : Option (List ℕ)) → AreMembers (verdicts_at values)
unfolding verdicts_at
verdicts_member values = one_member _ _ (maybe_is verdict_list (λ its. array_of verdict verdict_is its) values)

name_member : (name : Option (List ℕ)) → AreMembers (name_at name)
unfolding name_at
name_member name = one_member _ _ (maybe_is said said_is name)

architecture_member : (architecture : Architecture) → AreMembers (architecture_at architecture)
unfolding architecture_at
architecture_member architecture = string_member _ _

numbers_members : (architecture : Architecture) (first last : ℕ) → AreMembers (numbers architecture first last)
unfolding numbers
numbers_members architecture first last =
    more_members _ _ (number_member _ first) (more_members _ _ (number_member _ last) (name_member _))

-- ---- calls and terms

hexadecimal_member : (name : List ℕ) (n : ℕ) → AreMembers (hexadecimal_at name n)
unfolding hexadecimal_at
hexadecimal_member name n = one_member name _ (said_is _)

arguments_member : (it : Record) → AreMembers (arguments_at it)
unfolding arguments_at
arguments_member it = one_member _ _ (array_of hexadecimal_said (λ n. said_is _) it.args)

registers_members : (it : Record) → AreMembers (registers it)
unfolding registers
registers_members it = more_members _ _ (arguments_member it) (hexadecimal_member _ _)

record_member : (architecture : Architecture) (it : Record) → AreMembers (record_at architecture it)
unfolding record_at
record_member architecture it = string_member _ _

text_member : (names : Names) (it : Record) → AreMembers (text_at names it)
unfolding text_at
text_member names it = string_member _ _

call_is : (names : Names) (it : Record) → IsValue (call names it)
unfolding call
call_is names it =
    object_is _ (more_members _ _ (number_member _ _) (more_members _ _ (name_member _)
    (more_members _ _ (registers_members it) (more_members _ _ (record_member _ it) (text_member names it)))))

argument_member : (register : Register) → AreMembers (argument_at register)
unfolding argument_at
argument_member register = string_member _ _

term_is : (it : Term) → IsValue (term it)
unfolding term
term_is it =
    object_is _ (more_members _ _ (argument_member _) (more_members _ _ (hexadecimal_member _ _)
    (more_members _ _ (hexadecimal_member _ _) (more_members _ _ (hexadecimal_member _ _) (boolean_member _ _)))))

choice_is : (it : Choice) → IsValue (choice it)
choice_is it = array_of term term_is it.terms.items

choices_is : (its : List Choice) → IsValue (choices its)
choices_is its = array_of choice choice_is its

condition_members : (constants : Option ℕ) (line : Line) → AreMembers (condition constants line)
unfolding condition condition_at
condition_members constants line = member_before _ _ _ (choices_is line.choices.items) (string_member _ _)

meeting_members : (constants : Option ℕ) (calls : Calls) → AreMembers (meeting constants calls)
unfolding no_condition
meeting_members constants Every = member_before _ _ _ none_is (one_member _ _ none_is)
meeting_members constants (Meeting line) = condition_members constants line

-- ---- parts of comparisons

holds_member : (finding : Finding) → AreMembers (holds_at finding)
unfolding holds_at
holds_member finding = boolean_member _ _

old_is : (relation : Relation) (value : ℕ) → IsValue (old_verdict relation value)
old_is Same value = verdict_is value
old_is AsStrict value = verdict_is value
old_is Expected value = judged_is value _

pair_members : (relation : Relation) (outcome : Outcome) → AreMembers (pair relation outcome)
unfolding no_pair old_and_new
pair_members relation Undecided = member_before _ _ _ none_is (one_member _ _ none_is)
pair_members relation (Apart it call) = member_before _ _ _ (old_is relation it.old) (one_member _ _ (verdict_is it.new))

shown_call_is : (names : Names) (outcome : Outcome) → IsValue (shown_call names outcome)
shown_call_is names Undecided = none_is
shown_call_is names (Apart it call) = call_is names call

difference_members : (relation : Relation) (names : Names) (its : Numbers) (part : Part) → AreMembers (difference relation names its part)
unfolding difference
difference_members relation names its part =
    more_members _ _ (pair_members relation part.outcome)
    (more_members _ _ (meeting_members _ part.calls) (one_member _ _ (shown_call_is names part.outcome)))

differences_member : (tokens : List Token) → AreValues tokens → AreMembers (differences_name ++ array tokens)
unfolding differences_name
differences_member tokens are = one_member _ _ (array_is tokens are)

-- ---- calls

example_is : (names : Names) (it : Example) → IsValue (example names it)
unfolding example
example_is names it =
    object_is _ (more_members _ _ (number_member _ _) (more_members _ _ (number_member _ _) (one_member _ _ (call_is names it.call))))

shown_is : (names : Names) (it : Shown) → IsValue (shown names it)
unfolding shown
shown_is names it =
    object_is _ (member_before _ _ _ (verdict_is it.value) (one_member _ _ (maybe_is (example names) (example_is names) it.found)))

answers_members : (answers : Option (List ℕ)) → AreMembers (answers_at answers)
unfolding answers_at
answers_members answers = more_members _ _ (verdicts_member answers) (string_member _ _)

examples_member : (names : Names) (it : survey.Line) → AreMembers (examples_at names it)
unfolding examples_at
examples_member names it = one_member _ _ (array_of (shown names) (shown_is names) it.shown.items)

calls_row_is : (names : Names) (it : survey.Line) → IsValue (calls_row names it)
unfolding calls_row
calls_row_is names it =
    object_is _ (more_members _ _ (numbers_members _ _ _) (more_members _ _ (answers_members _) (examples_member names it)))

rows_member : (names : Names) (lines : List survey.Line) → AreMembers (rows_at names lines)
unfolding rows_at
rows_member names lines = one_member _ _ (array_of (calls_row names) (calls_row_is names) lines)

looks_member : (looks : Bool) → AreMembers (looks_at looks)
unfolding looks_at
looks_member looks = boolean_member _ looks

calls_are : (architecture : Architecture) (looks : Bool) (lines : List survey.Line) → IsValue (calls_tokens architecture looks lines)
unfolding calls_tokens
calls_are architecture looks lines =
    object_is _ (more_members _ _ (word_member _) (more_members _ _ (architecture_member architecture)
    (more_members _ _ (looks_member looks) (rows_member _ lines))))

-- ---- when

when_line_is : (constants : Option ℕ) (line : Line) → IsValue (when_line constants line)
unfolding when_line
when_line_is constants line = object_is _ (member_before _ _ _ (maybe_verdict_is line.value) (condition_members constants line))

lines_member : (constants : Option ℕ) (lines : List Line) → AreMembers (lines_at constants lines)
unfolding lines_at
lines_member constants lines = one_member _ _ (array_of (when_line constants) (when_line_is constants) lines)

otherwise_member : (value : Option ℕ) → AreMembers (otherwise_at value)
unfolding otherwise_at
otherwise_member value = one_member _ _ (maybe_verdict_is value)

when_row_is : (names : Names) (told : ConditionalRow) → IsValue (when_row names told)
unfolding when_row
when_row_is names told =
    object_is _ (more_members _ _ (numbers_members _ _ _) (more_members _ _ (verdicts_member _)
    (more_members _ _ (lines_member _ told.lines.items) (otherwise_member told.otherwise))))

when_rows_member : (names : Names) (rows : List ConditionalRow) → AreMembers (when_rows_at names rows)
unfolding when_rows_at
when_rows_member names rows = one_member _ _ (array_of (when_row names) (when_row_is names) rows)

when_are : (names : Names) (rows : List ConditionalRow) → IsValue (when_tokens names rows)
unfolding when_tokens
when_are names rows = object_is _ (more_members _ _ (word_member _) (more_members _ _ (architecture_member _) (when_rows_member names rows)))

-- ---- comparisons

relation_member : (relation : Relation) → AreMembers (relation_at relation)
unfolding relation_at
relation_member relation = string_member _ _

comparison_part_is : (relation : Relation) (names : Names) (its : Numbers) (part : Part) → IsValue (comparison_part relation names its part)
unfolding comparison_part kind_at
comparison_part_is relation names its part =
    object_is _ (more_members _ _ (numbers_members _ _ _) (more_members _ _ (string_member _ _) (difference_members relation names its part)))

comparison_piece_are : (relation : Relation) (names : Names) (piece : Piece) → AreValues (comparison_piece relation names piece)
unfolding comparison_piece
comparison_piece_are relation names piece =
    each_is (comparison_part relation names piece.numbers) (λ part. one_value _ (comparison_part_is relation names piece.numbers part)) piece.parts.items

comparison_pieces_member : (relation : Relation) (names : Names) (pieces : List Piece) → AreMembers (comparison_pieces relation names pieces)
unfolding comparison_pieces
comparison_pieces_member relation names pieces =
    differences_member _ (each_is (comparison_piece relation names) (comparison_piece_are relation names) pieces)

comparison_are : (word : List ℕ) (names : Names) (relation : Relation) (finding : Finding) (pieces : List Piece)
    → IsValue (comparison_tokens word names relation finding pieces)
unfolding comparison_tokens
comparison_are word names relation finding pieces =
    object_is _ (more_members _ _ (word_member word) (more_members _ _ (architecture_member _)
    (more_members _ _ (relation_member relation) (more_members _ _ (holds_member finding) (comparison_pieces_member relation names pieces)))))

-- ---- lint

taken_is : (naming : Naming) (outcome : Outcome) → IsValue (taken naming outcome)
taken_is naming Undecided = none_is
taken_is naming (Apart it shown) = call_is _ _

taken_member : (naming : Naming) (outcome : Outcome) → AreMembers (taken_at naming outcome)
unfolding taken_at
taken_member naming outcome = one_member _ _ (taken_is naming outcome)

concern_member : (it : Concern) → AreMembers (concern_at it)
unfolding concern_at
concern_member it = string_member _ _

remark_member : (text : List ℕ) → AreMembers (remark_at text)
unfolding remark_at
remark_member text = string_member _ text

lint_numbers_members : (names : Names) (its : Numbers) → AreMembers (lint_numbers names its)
unfolding lint_numbers
lint_numbers_members names its = more_members _ _ (numbers_members _ _ _) (architecture_member _)

lint_part_is : (naming : Naming) (remark : Record → List ℕ) (its : Numbers) (part : Part) → IsValue (lint_part naming remark its part)
unfolding lint_part named_part
lint_part_is naming remark its part =
    object_is _ (more_members _ _ (lint_numbers_members _ its) (more_members _ _ (concern_member _)
    (more_members _ _ (difference_members Same _ its part) (more_members _ _ (taken_member _ part.outcome) (remark_member _)))))

lint_piece_are : (naming : Naming) (remark : Record → List ℕ) (piece : Piece) → AreValues (lint_piece naming remark piece)
unfolding lint_piece
lint_piece_are naming remark piece =
    each_is (lint_part naming remark piece.numbers) (λ part. one_value _ (lint_part_is naming remark piece.numbers part)) piece.parts.items

lint_pieces_member : (naming : Naming) (remark : Record → List ℕ) (pieces : List Piece) → AreMembers (lint_pieces naming remark pieces)
unfolding lint_pieces
lint_pieces_member naming remark pieces = differences_member _ (each_is (lint_piece naming remark) (lint_piece_are naming remark) pieces)

lint_are : (naming : Naming) (remark : Record → List ℕ) (finding : Finding) (pieces : List Piece) → IsValue (lint_tokens naming remark finding pieces)
unfolding lint_tokens
lint_are naming remark finding pieces =
    object_is _ (more_members _ _ (word_member _) (more_members _ _ (holds_member finding) (lint_pieces_member naming remark pieces)))

-- ---- arches

answered_is : (it : Answered) → IsValue (answered it)
unfolding answered
answered_is it = object_is _ (more_members _ _ (string_member _ _) (one_member _ _ (maybe_verdict_is _)))

followed_is : (is : Bool) (value : Option ℕ) → IsValue (followed is value)
unfolding followed
followed_is is value = object_is _ (more_members _ _ (boolean_member _ is) (one_member _ _ (maybe_verdict_is value)))

other_is : (other : Other) → IsValue (other_answered other)
other_is (Verdict value) = followed_is _ _
other_is Several = followed_is _ _
other_is Unknown = followed_is _ _

warning_is : (by : Architecture) → IsValue (warning by)
unfolding warning ptrace_at
warning_is by = object_is _ (more_members _ _ (architecture_member by) (one_member _ _ (maybe_is counted counted_is _)))

warned_are : (is : Bool) (by : Architecture) → AreValues (warned is by)
warned_are true by = one_value _ (warning_is by)
warned_are false by = no_values

warnings_by : (is i386 x32 : Bool) → AreValues (if is then warned i386 architecture.I386 ++ warned x32 architecture.X32 else [])
warnings_by true i386 x32 = more_values _ _ (warned_are i386 _) (warned_are x32 _)
warnings_by false i386 x32 = no_values

architectures_member : (it : Told) → AreMembers (architectures_at it)
unfolding architectures_at
architectures_member it = one_member _ _ (array_of answered answered_is it.all.items)

other_member : (it : Told) → AreMembers (other_at it)
unfolding other_at
other_member it = one_member _ _ (other_is it.other)

warnings_member : (it : Told) → AreMembers (warnings_at it)
unfolding warnings_at
warnings_member it = one_member _ _ (array_is (warnings it) (warnings_by (warns it) it.i386 it.x32))

arches_are : (it : Told) → IsValue (arches_tokens it)
unfolding arches_tokens
arches_are it =
    object_is _ (more_members _ _ (word_member _) (more_members _ _ (architectures_member it) (more_members _ _ (other_member it) (warnings_member it))))

-- ---- replay

value_said_is : (it : Value) → IsValue (value_said it)
value_said_is (value_variants.Told number) = said_is _
value_said_is value_variants.Unknown = none_is

told_verdict_is : (it : Judged) → IsValue (told_verdict it)
told_verdict_is (judged_variants.Verdict value) = verdict_is value
told_verdict_is (judged_variants.Undecided i) = none_is

undecided_is : (it : Judged) → IsValue (undecided_said it)
unfolding undecided_said
undecided_is (judged_variants.Verdict value) = none_is
undecided_is (judged_variants.Undecided i) = said_is _

shown_args_member : (it : Call) → AreMembers (shown_args_at it)
unfolding shown_args_at
shown_args_member it = one_member _ _ (array_of value_said value_said_is (take it.shown it.args))

made_members : (by : Architecture) (it : Call) → AreMembers (made by it)
unfolding made
made_members by it = more_members _ _ (number_member _ _) (more_members _ _ (name_member _) (shown_args_member it))

told_member : (it : Judged) → AreMembers (verdict_at it)
unfolding verdict_at
told_member it = one_member _ _ (told_verdict_is it)

undecided_member : (it : Judged) → AreMembers (undecided_at it)
unfolding undecided_at
undecided_member it = one_member _ _ (undecided_is it)

judged_members : (it : Row) → AreMembers (judged_at it)
unfolding judged_at
judged_members it = more_members _ _ (boolean_member _ _) (more_members _ _ (told_member it.judged) (undecided_member it.judged))

logged_is : (action : Option ℕ) → IsValue (logged_said action)
logged_is action = maybe_is (λ value. said (logged_name value)) (λ value. said_is _) action

logged_member : (action : Option ℕ) → AreMembers (logged_at action)
unfolding logged_at
logged_member action = one_member _ _ (logged_is action)

strace_member : (by : Architecture) (it : Call) → AreMembers (strace_at by it)
unfolding strace_at
strace_member by it = string_member _ _

replay_row_is : (by : Architecture) (it : Row) → IsValue (replay_row by it)
unfolding replay_row
replay_row_is by it =
    object_is _ (more_members _ _ (number_member _ _) (more_members _ _ (made_members by it.call)
    (more_members _ _ (judged_members it) (more_members _ _ (logged_member it.call.logged) (strace_member by it.call)))))

replay_rows_member : (by : Architecture) (rows : List Row) → AreMembers (replay_rows_at by rows)
unfolding replay_rows_at
replay_rows_member by rows = one_member _ _ (array_of (replay_row by) (replay_row_is by) rows)

counts_members : (events unclear : ℕ) → AreMembers (counts_at events unclear)
unfolding counts_at
counts_members events unclear = more_members _ _ (number_member _ events) (number_member _ unclear)

replay_are : (by : Architecture) (rows : List Row) (events unclear : ℕ) → IsValue (replay_tokens by rows events unclear)
unfolding replay_tokens
replay_are by rows events unclear =
    object_is _ (more_members _ _ (word_member _) (more_members _ _ (architecture_member by)
    (more_members _ _ (boolean_member _ _) (more_members _ _ (replay_rows_member by rows) (counts_members events unclear)))))

-- ---- why

insn_members : (it : Insn) → AreMembers (insn_at it)
unfolding insn_at
insn_members it =
    more_members _ _ (string_member _ _) (more_members _ _ (number_member _ _)
    (more_members _ _ (number_member _ _) (more_members _ _ (number_member _ _) (number_member _ _))))

held_members : (it : Registers) → AreMembers (held_at it)
unfolding held_at
held_members it = more_members _ _ (number_member _ _) (number_member _ _)

next_member : (next : Option ℕ) → AreMembers (next_at next)
unfolding next_at
next_member next = one_member _ _ (maybe_is counted counted_is next)

step_is : (it : Step) → IsValue (path_step it)
unfolding path_step
step_is it =
    object_is _ (more_members _ _ (number_member _ _) (more_members _ _ (insn_members it.insn)
    (more_members _ _ (held_members it.behind) (next_member it.next))))

steps_member : (steps : List Step) → AreMembers (steps_at steps)
unfolding steps_at
steps_member steps = one_member _ _ (array_of path_step step_is steps)

filter_path_is : (number : ℕ) (insns : List Insn) (call : Record) → IsValue (filter_path number insns call)
unfolding filter_path
filter_path_is number insns call =
    object_is _ (more_members _ _ (number_member _ number) (more_members _ _ (steps_member _) (one_member _ _ (verdict_is _))))

filter_paths_are : (programs : List (List Insn)) (call : Record) → AreValues (filter_paths programs call)
filter_paths_are [] call = no_values
filter_paths_are (newest ∷ older) call =
    more_values _ _ (one_value _ (filter_path_is (length older) newest call)) (filter_paths_are older call)

filters_member : (programs : List (List Insn)) (call : Record) → AreMembers (filters_at programs call)
unfolding filters_at
filters_member programs call = one_member _ _ (array_is (filter_paths programs call) (filter_paths_are programs call))

found_is : (it : ℕ × ℕ) → IsValue (found_in it)
unfolding found_in
found_is it = object_is _ (more_members _ _ (number_member _ it.0) (number_member _ it.1))

end_members : (value : ℕ) (source : Option (ℕ × ℕ)) → AreMembers (end_at value source)
unfolding end_at
end_members value source = member_before _ _ _ (verdict_is value) (one_member _ _ (maybe_is found_in found_is source))

asked_member : (by : Architecture) (it : Record) → AreMembers (asked_at by it)
unfolding asked_at
asked_member by it = one_member _ _ (call_is _ it)

where_members : (decider : Decider) → AreMembers (where_at decider)
unfolding where_at
where_members decider =
    member_before _ _ _ (maybe_is counted counted_is (entry_of decider)) (one_member _ _ (maybe_is counted counted_is (line_of decider)))

decision_is : (file : List ℕ) (decider : Decider) → IsValue (decision file decider)
unfolding decision
decision_is file decider =
    object_is _ (more_members _ _ (string_member _ _) (more_members _ _ (string_member _ _) (more_members _ _ (string_member _ _) (where_members decider))))

decisions_member : (decisions : List (List ℕ × Decider)) → AreMembers (decisions_at decisions)
unfolding decisions_at
decisions_member decisions = one_member _ _ (array_of decision_of (λ it. decision_is it.0 it.1) decisions)

outcome_members : (value : ℕ) (source : Option (ℕ × ℕ)) (decisions : List (List ℕ × Decider)) (logged : Option ℕ)
    → AreMembers (outcome_at value source decisions logged)
unfolding outcome_at
outcome_members value source decisions logged =
    more_members _ _ (end_members value source) (more_members _ _ (decisions_member decisions) (logged_member logged))

why_are : (by : Architecture) (programs : List (List Insn)) (call : Record) (source : Option (ℕ × ℕ)) (decisions : List (List ℕ × Decider)) (logged : Option ℕ)
    → IsValue (why_tokens by programs call source decisions logged)
unfolding why_tokens
why_are by programs call source decisions logged =
    object_is _ (more_members _ _ (word_member _) (more_members _ _ (architecture_member by)
    (more_members _ _ (asked_member by call) (more_members _ _ (filters_member programs call) (outcome_members _ source decisions logged)))))

-- ---- all of them

pub documents_are_values : DocumentsAreValues
documents_are_values = record { calls = calls_are; when = when_are; comparison = comparison_are; lint = lint_are; arches = arches_are; replay = replay_are; why = why_are }
