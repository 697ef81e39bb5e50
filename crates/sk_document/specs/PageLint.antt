-- What `ask lint` tells, on a page.
use Rattle.std.specs.Prelude.{ℕ, ◌++◌, if◌then◌else◌, List, [], ◌∷◌, codes, flat_map, map, count_by}
use Rattle.sk_insn.specs.declared.record.Record.{Record}
use Rattle.sk_arguments.specs.declared.naming.Naming.{Naming}
use Rattle.sk_conditions.specs.declared.numbers.Numbers.{Numbers}
use Rattle.sk_survey.specs.Taken.{taken_as}
use Rattle.sk_when.specs.declared.concern.Concern.{Concern}
use Rattle.sk_when.specs.declared.concern.Concern.TheVariants as concern
use Rattle.sk_when.specs.declared.names.Names.{Names}
use Rattle.sk_when.specs.declared.piece.Outcome.{Outcome}
use Rattle.sk_when.specs.declared.piece.Outcome.TheVariants.{Undecided, Apart}
use Rattle.sk_when.specs.declared.piece.Part.{Part}
use Rattle.sk_when.specs.declared.piece.Piece.{Piece}
use Rattle.sk_when.specs.Lint.{has_concern, lint_names, piece_has}
use Rattle.sk_when.specs.Naming.{constants_of}
use Rattle.sk_document.specs.declared.page_lint.TheConstants.{COLUMNS, TAKEN, UNREAD}
use Rattle.sk_document.specs.Html.{element, element_at, element_with, ended, escaped}
use Rattle.sk_document.specs.PageChanges.{calls_shown, difference_cells}
use Rattle.sk_document.specs.PageParts.{call_shown, counted, place, section_begun, table, told_of}

-- ---- one part

-- what else is said of a call, where something is
abbrev pub remark_shown : List ℕ → List ℕ
remark_shown [] = []
remark_shown (first ∷ others) = element (codes "pre") (escaped (first ∷ others))

-- what stands between a call and what Linux takes it for
unfoldable pub taken_text : List ℕ
taken_text = TAKEN.now

-- what Linux takes a call for
unfoldable pub taken_for : Names → Record → List ℕ
taken_for names call = taken_text ++ call_shown names (taken_as call)

-- the call, and that
unfoldable pub taken_shown : Names → Record → List ℕ
taken_shown names call = element (codes "p") (codes "such as " ++ (call_shown names call ++ taken_for names call))

-- the same of the call that a part shows, with what else is said of it
abbrev pub outcome_shown : Naming → (Record → List ℕ) → Outcome → List ℕ
outcome_shown naming remark Undecided = []
outcome_shown naming remark (Apart it call) = taken_shown (lint_names naming call.nr) call ++ remark_shown (remark call)

-- the condition under which the verdicts come, and such a call
unfoldable pub linted_cell : Names → (Record → List ℕ) → Numbers → Part → List ℕ
linted_cell names remark numbers part =
    element (codes "td") (calls_shown (constants_of names numbers.first numbers.last) part.calls ++ outcome_shown names.naming remark part.outcome)

-- a part by the names of its numbers
unfoldable pub named_row : Names → (Record → List ℕ) → Numbers → Part → List ℕ
named_row names remark numbers part =
    element (codes "tr") (difference_cells names numbers part ++ linted_cell names remark numbers part)

-- ---- those of one concern

-- a part where it is of the concern
unfoldable pub part_of_concern : Naming → (Record → List ℕ) → Concern → Numbers → Part → List ℕ
part_of_concern naming remark it numbers part =
    if has_concern it part then named_row (lint_names naming numbers.first) remark numbers part else []

abbrev pub concern_id : Concern → List ℕ
concern_id concern.Looser = codes "lint-looser"
concern_id concern.Signed = codes "lint-signed"
concern_id concern.Undecided = codes "lint-undecided"
concern_id concern.Stricter = codes "lint-stricter"

-- the parts of neighbouring numbers
unfoldable pub linted_numbers : Naming → (Record → List ℕ) → Concern → Piece → List ℕ
linted_numbers naming remark it piece =
    element_at (codes "tbody") (codes "id") (place (concern_id it) piece.numbers.first)
    (flat_map (part_of_concern naming remark it piece.numbers) piece.parts.items)

-- these where some are of the concern
unfoldable pub piece_of_concern : Naming → (Record → List ℕ) → Concern → Piece → List ℕ
piece_of_concern naming remark it piece = if piece_has it piece then linted_numbers naming remark it piece else []

-- what is told of the concern
abbrev pub concern_title : Concern → List ℕ
concern_title concern.Looser = codes "Calls with a less strict verdict than what Linux takes them for"
concern_title concern.Signed = codes "Calls with another verdict by the sign of an int"
concern_title concern.Undecided = codes "Calls whose verdict is not known"
concern_title concern.Stricter = codes "Calls with another verdict that is as strict or stricter"

-- the columns of their table
unfoldable pub lint_columns : List (List ℕ)
lint_columns = map (λ name. name.now) COLUMNS

-- all parts of a concern
unfoldable pub concern_table : Naming → (Record → List ℕ) → List Piece → Concern → List ℕ
concern_table naming remark pieces it =
    table (concern_title it) lint_columns (flat_map (piece_of_concern naming remark it) pieces)

-- what is as strict or stricter is shown where a reader asks for it
abbrev pub opened : Concern → List ℕ
opened concern.Stricter = []
opened other = codes " open"

-- these, below how many calls they are of
unfoldable pub concern_details : Naming → (Record → List ℕ) → List Piece → Concern → List ℕ
concern_details naming remark pieces it =
    element_with (codes "details") (opened it) (element (codes "summary") (counted (concern_title it) (count_by (piece_has it) pieces))
    ++ told_of (count_by (piece_has it) pieces) (concern_table naming remark pieces it))

-- the concerns in their order
unfoldable pub concerns : Naming → (Record → List ℕ) → List Piece → List ℕ
concerns naming remark pieces =
    concern_details naming remark pieces concern.Looser
    ++ (concern_details naming remark pieces concern.Signed ++ concern_details naming remark pieces concern.Stricter)

-- the heading of their section
unfoldable pub lint_begun : List ℕ
lint_begun = section_begun (codes "lint") UNREAD.now

-- the section of them
unfoldable pub lint_section : Naming → (Record → List ℕ) → List Piece → List ℕ
lint_section naming remark pieces = lint_begun ++ (concerns naming remark pieces ++ ended (codes "section"))
