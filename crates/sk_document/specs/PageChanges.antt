-- What changed between two chains, on a page: what `ask diff` tells, looser verdicts first.
use Rattle.std.specs.Prelude.{ℕ, ◌++◌, if◌then◌else◌, List, [], codes, flat_map, map, count_by, Option}
use Rattle.sk_conditions.specs.declared.numbers.Numbers.{Numbers}
use Rattle.sk_conditions.specs.declared.standing.Relation.TheVariants.{Same}
use Rattle.sk_when.specs.declared.diff_text.Kind.{Kind}
use Rattle.sk_when.specs.declared.diff_text.Kind.TheVariants.{Looser, Stricter, Other, Undecided}
use Rattle.sk_when.specs.declared.names.Names.{Names}
use Rattle.sk_when.specs.declared.piece.Calls.{Calls}
use Rattle.sk_when.specs.declared.piece.Calls.TheVariants.{Every, Meeting}
use Rattle.sk_when.specs.declared.piece.Outcome.{Outcome}
use Rattle.sk_when.specs.declared.piece.Outcome.TheVariants as outcome
use Rattle.sk_when.specs.declared.piece.Part.{Part}
use Rattle.sk_when.specs.declared.piece.Piece.{Piece}
use Rattle.sk_when.specs.DiffText.{has_kind, piece_has}
use Rattle.sk_when.specs.Naming.{constants_of}
use Rattle.sk_document.specs.declared.page_changes.TheConstants.{COLUMNS}
use Rattle.sk_document.specs.ComparisonDocument.{kind_word}
use Rattle.sk_document.specs.Html.{element, element_at}
use Rattle.sk_document.specs.PageParts.{call_shown, condition_shown, counted, place, row_head, section, table, told_of, verdict_shown}

-- ---- one difference

-- the verdict of the old chain
abbrev pub old_shown : Outcome → List ℕ
old_shown outcome.Undecided = codes "undecided"
old_shown (outcome.Apart it call) = verdict_shown it.old

-- the verdict of the new one
abbrev pub new_shown : Outcome → List ℕ
new_shown outcome.Undecided = codes "undecided"
new_shown (outcome.Apart it call) = verdict_shown it.new

-- the condition that calls meet, where it is not every call
abbrev pub calls_shown : Option ℕ → Calls → List ℕ
calls_shown constants Every = codes "every call"
calls_shown constants (Meeting line) = condition_shown constants line

-- numbers with both verdicts
unfoldable pub difference_cells : Names → Numbers → Part → List ℕ
difference_cells names numbers part =
    row_head names.architecture numbers.first numbers.last
    ++ (element (codes "td") (old_shown part.outcome) ++ element (codes "td") (new_shown part.outcome))

-- a call that shows both verdicts
abbrev pub example_shown : Names → Outcome → List ℕ
example_shown names outcome.Undecided = []
example_shown names (outcome.Apart it call) = element (codes "p") (codes "such as " ++ call_shown names call)

-- the condition under which they come, and such a call
unfoldable pub shown_cell : Names → Numbers → Part → List ℕ
shown_cell names numbers part =
    element (codes "td") (calls_shown (constants_of names numbers.first numbers.last) part.calls ++ example_shown names part.outcome)

-- a difference
unfoldable pub change_row : Names → Numbers → Part → List ℕ
change_row names numbers part = element (codes "tr") (difference_cells names numbers part ++ shown_cell names numbers part)

-- ---- those of one kind

-- a difference where it is of the kind
unfoldable pub change_of_kind : Names → Kind → Numbers → Part → List ℕ
change_of_kind names kind numbers part = if has_kind Same kind part then change_row names numbers part else []

-- the differences of neighbouring numbers
unfoldable pub changed_numbers : Names → Kind → Piece → List ℕ
changed_numbers names kind piece =
    element_at (codes "tbody") (codes "id") (place (kind_word kind) piece.numbers.first)
    (flat_map (change_of_kind names kind piece.numbers) piece.parts.items)

-- these where some are of the kind
unfoldable pub piece_changes : Names → Kind → Piece → List ℕ
piece_changes names kind piece = if piece_has Same kind piece then changed_numbers names kind piece else []

abbrev pub kind_title : Kind → List ℕ
kind_title Looser = codes "Looser"
kind_title Stricter = codes "Stricter"
kind_title Other = codes "Other changes"
kind_title Undecided = codes "Undecided"

-- what their table is about
abbrev pub kind_caption : Kind → List ℕ
kind_caption Looser = codes "The new verdict is less strict than the old one"
kind_caption Stricter = codes "The new verdict is stricter than the old one"
kind_caption Other = codes "Each verdict is as strict as the other"
kind_caption Undecided = codes "Which verdicts come is not known"

-- the columns of their table
unfoldable pub change_columns : List (List ℕ)
change_columns = map (λ name. name.now) COLUMNS

-- all differences of a kind
unfoldable pub kind_table : Names → List Piece → Kind → List ℕ
kind_table names pieces kind = table (kind_caption kind) change_columns (flat_map (piece_changes names kind) pieces)

-- these, with how many calls they are of
unfoldable pub kind_section : Names → List Piece → Kind → List ℕ
kind_section names pieces kind =
    section (kind_word kind) (counted (kind_title kind) (count_by (piece_has Same kind) pieces))
    (told_of (count_by (piece_has Same kind) pieces) (kind_table names pieces kind))

-- the kinds in their order
unfoldable pub changes : Names → List Piece → List ℕ
changes names pieces = kind_section names pieces Looser ++ (kind_section names pieces Stricter ++ kind_section names pieces Other)
