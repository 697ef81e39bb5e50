-- The text of a comparison: each difference with a call that shows it, below the heading of its kind.
use Rattle.std.specs.Prelude.{ℕ, ◌==◌, ◌+◌, ◌++◌, not, Bool, true, false, if◌then◌else◌, List, [], ◌∷◌, length, codes, flat_map, Option}
use Rattle.std.specs.Fmt.{decimal}
use Rattle.std.specs.List.{list_any}
use Rattle.std.specs.Option.{option_map_or, unwrap_or}
use Rattle.hex.specs.Hex.{encode_lower}
use Rattle.sk_arguments.specs.Naming.{call_with_constants}
use Rattle.sk_insn.specs.declared.record.Record.{Record}
use Rattle.sk_insn.specs.Record.{record_bytes}
use Rattle.sk_names.specs.declared.architecture.Architecture.{Architecture}
use Rattle.sk_names.specs.Architectures.{audit_of}
use Rattle.sk_names.specs.Names.{name_on}
use Rattle.sk_show.specs.Text.{numbers_text, name_text}
use Rattle.sk_filter.specs.VerdictText.{verdict_text}
use Rattle.sk_conditions.specs.declared.differences.Verdicts.{Verdicts}
use Rattle.sk_conditions.specs.declared.numbers.Numbers.{Numbers}
use Rattle.sk_conditions.specs.declared.standing.Relation.{Relation}
use Rattle.sk_conditions.specs.declared.standing.Relation.TheVariants.{Same, AsStrict, Expected}
use Rattle.sk_conditions.specs.Comparing.{expectation_name, expectation_of, relates}
use Rattle.sk_terms.specs.Text.{argument_text, condition_text, hexadecimal}
use Rattle.sk_when.specs.Filling.{filled_behind}
use Rattle.sk_when.specs.Naming.{constants_of}
use Rattle.sk_when.specs.declared.names.Names.{Names}
use Rattle.sk_when.specs.declared.diff_engine.Finding.{Finding}
use Rattle.sk_when.specs.declared.diff_engine.Finding.TheVariants as finding
use Rattle.sk_when.specs.declared.piece.Calls.{Calls}
use Rattle.sk_when.specs.declared.piece.Calls.TheVariants.{Every, Meeting}
use Rattle.sk_when.specs.declared.piece.Outcome.{Outcome}
use Rattle.sk_when.specs.declared.piece.Outcome.TheVariants as outcome
use Rattle.sk_when.specs.declared.piece.Part.{Part}
use Rattle.sk_when.specs.declared.piece.Piece.{Piece}
use Rattle.sk_when.specs.declared.diff_text.Kind.{Kind}
use Rattle.sk_when.specs.declared.diff_text.Kind.TheVariants.{Looser, Stricter, Other, Undecided}

-- the number of a call as sys/syscall.h of the architecture names it, where it has a name
abbrev pub call_name_text : Architecture → ℕ → List ℕ
call_name_text architecture nr = option_map_or (λ name. codes "SYS_" ++ name) (name_on architecture nr) (decimal nr)

-- the six arguments
unfoldable pub arguments_text : Option ℕ → List ℕ → List ℕ
arguments_text call args =
    argument_text call args 0 ++ (argument_text call args 1 ++ (argument_text call args 2
    ++ (argument_text call args 3 ++ (argument_text call args 4 ++ argument_text call args 5))))

-- where the call stands, which C does not choose
abbrev pub address_text : ℕ → List ℕ
address_text ip = if ip == 0 then [] else codes " at " ++ hexadecimal ip

-- the call, as syscall(2) makes it
unfoldable pub call_text : Names → Record → List ℕ
call_text names call =
    codes "syscall("
    ++ (call_name_text names.architecture call.nr
    ++ (arguments_text (call_with_constants names.naming names.architecture call.nr) call.args ++ (codes ")" ++ address_text call.ip)))

-- what is expected, by its word, or by the verdict
abbrev pub expected_text : ℕ → List ℕ
expected_text value = codes "expected " ++ unwrap_or (expectation_name (expectation_of value)) (verdict_text value)

-- the verdict of the old chain, or what it expects
abbrev pub old_text : Relation → ℕ → List ℕ
old_text Same value = verdict_text value
old_text AsStrict value = verdict_text value
old_text Expected value = expected_text value

-- that, and the verdict of the new one
unfoldable pub verdicts_text : Relation → Verdicts → List ℕ
verdicts_text relation it = old_text relation it.old ++ (codes " -> " ++ verdict_text it.new)

abbrev pub outcome_text : Relation → Outcome → List ℕ
outcome_text relation outcome.Undecided = codes "undecided"
outcome_text relation (outcome.Apart it call) = verdicts_text relation it

-- under which condition of C, where it is not every call, behind so many columns
abbrev pub calls_text : Option ℕ → ℕ → Calls → List ℕ
calls_text call column Every = []
calls_text call column (Meeting line) = codes " where " ++ filled_behind (column + 7) (condition_text call line)

-- the same call, of an architecture
abbrev pub of_architecture : Architecture → Record → Record
of_architecture architecture call = record call { arch = audit_of architecture }

-- the same call of the architecture by its record, as `eval` takes those of x86-64, and as C
unfoldable pub record_text : Names → Record → List ℕ
record_text names call =
    codes "  record " ++ (encode_lower (record_bytes (of_architecture names.architecture call)) ++ (codes "\n  " ++ (call_text names call ++ codes "\n")))

abbrev pub shown_text : Names → Outcome → List ℕ
shown_text names outcome.Undecided = []
shown_text names (outcome.Apart it call) = record_text names call

-- numbers, with the name that a single one has on the architecture
unfoldable pub head_text : Architecture → Numbers → List ℕ
head_text architecture numbers =
    numbers_text numbers.first numbers.last ++ (codes " " ++ name_text architecture numbers.first numbers.last)

-- the numbers and the verdicts
abbrev pub verdicts_behind : Relation → Architecture → Numbers → Outcome → List ℕ
verdicts_behind relation architecture numbers outcome = head_text architecture numbers ++ (codes ": " ++ outcome_text relation outcome)

-- one difference: the numbers, the verdicts and their condition, and below them a call
unfoldable pub part_text : Relation → Names → Numbers → Part → List ℕ
part_text relation names numbers part =
    verdicts_behind relation names.architecture numbers part.outcome
    ++ (calls_text (constants_of names numbers.first numbers.last) (length (verdicts_behind relation names.architecture numbers part.outcome)) part.calls
    ++ (codes "\n" ++ shown_text names part.outcome))

-- the new verdict is not as strict as the old one; or it is, and the old one is not as strict as it; or each is as strict as the other
abbrev pub change_of : Verdicts → Kind
change_of it =
    if not (relates AsStrict it.old it.new) then Looser
    else if not (relates AsStrict it.new it.old) then Stricter
    else Other

-- the kind of a difference; an expectation is no verdict, and has no strictness
abbrev pub kind_of : Relation → Outcome → Kind
kind_of relation outcome.Undecided = Undecided
kind_of Same (outcome.Apart it call) = change_of it
kind_of AsStrict (outcome.Apart it call) = change_of it
kind_of Expected (outcome.Apart it call) = Other

abbrev pub is_kind : Kind → Kind → Bool
is_kind Looser Looser = true
is_kind Stricter Stricter = true
is_kind Other Other = true
is_kind Undecided Undecided = true
is_kind one it = false

abbrev pub has_kind : Relation → Kind → Part → Bool
has_kind relation kind part = is_kind (kind_of relation part.outcome) kind

unfoldable pub kind_text : Relation → Names → Kind → Numbers → Part → List ℕ
kind_text relation names kind numbers part = if has_kind relation kind part then part_text relation names numbers part else []

unfoldable pub piece_text : Relation → Names → Kind → Piece → List ℕ
piece_text relation names kind piece = flat_map (kind_text relation names kind piece.numbers) piece.parts.items

-- some difference of a piece is of the kind
abbrev pub piece_has : Relation → Kind → Piece → Bool
piece_has relation kind piece = list_any (has_kind relation kind) piece.parts.items

abbrev pub some_has : Relation → Kind → List Piece → Bool
some_has relation kind pieces = list_any (piece_has relation kind) pieces

abbrev pub kind_heading : Kind → List ℕ
kind_heading Looser = codes "looser:\n"
kind_heading Stricter = codes "stricter:\n"
kind_heading Other = codes "other:\n"
kind_heading Undecided = codes "undecided:\n"

-- the line above the differences of a kind; there is none above what is not as expected
abbrev pub heading : Relation → Kind → List ℕ
heading Same kind = kind_heading kind
heading AsStrict kind = kind_heading kind
heading Expected kind = []

-- the differences of a kind below their heading, where there are some
unfoldable pub section_text : Relation → Names → List Piece → Kind → List ℕ
section_text relation names pieces kind =
    if some_has relation kind pieces then heading relation kind ++ flat_map (piece_text relation names kind) pieces else []

-- the kinds, in the order in which they are told
abbrev pub kinds : List Kind
kinds = Looser ∷ Stricter ∷ Other ∷ Undecided ∷ []

abbrev pub differences_text : Relation → Names → List Piece → List ℕ
differences_text relation names pieces = flat_map (section_text relation names pieces) kinds

-- what is said where the relation holds on every call
abbrev pub everywhere_text : Relation → List ℕ
everywhere_text Same = codes "the same on every call\n"
everywhere_text AsStrict = codes "as strict on every call\n"
everywhere_text Expected = codes "as expected on every call\n"

-- what is written of a comparison: that the relation holds everywhere, or the differences
abbrev pub comparison_text : Names → Relation → Finding → List Piece → List ℕ
comparison_text names relation finding.Holds pieces = everywhere_text relation
comparison_text names relation finding.Fails pieces = differences_text relation names pieces
comparison_text names relation finding.Undecided pieces = differences_text relation names pieces
