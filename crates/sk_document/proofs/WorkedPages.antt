-- Each of these is what the definitions compute.
use Rattle.std.proofs.Common.{ℕ, ◌≡◌, ◌++◌, ◌||◌, not, Bool, if◌then◌else◌, List, [], ◌∷◌, refl, ◌∙◌}
use Rattle.std.specs.Prelude.{codes, flat_map, count_by, Option, Some, None, true, false}
use Rattle.std.specs.Fmt.{digits}
use Rattle.std.specs.List.{list_any}
use Rattle.sk_insn.specs.Actions.{action_of}
use Rattle.sk_filter.specs.Errors.{error_named}
use Rattle.sk_filter.specs.VerdictText.{verdict_text}
use Rattle.sk_names.specs.X86_64.{name_of}
use Rattle.sk_names.specs.Names.{name_on}
use Rattle.sk_arguments.specs.Naming.{call_with_constants}
use Rattle.sk_conditions.specs.declared.numbers.Numbers.{Numbers}
use Rattle.sk_survey.specs.Answers.{answers_of}
use Rattle.sk_terms.specs.declared.lines.Line.{Line}
use Rattle.sk_terms.specs.Text.{argument_text}
use Rattle.sk_when.specs.declared.piece.Part.{Part}
use Rattle.sk_when.specs.declared.piece.Piece.{Piece}
use Rattle.sk_when.specs.declared.row.ConditionalRow.{ConditionalRow}
use Rattle.sk_when.specs.DiffText.{arguments_text, call_text, has_kind}
use Rattle.sk_document.specs.declared.group.Group.{Group}
use Rattle.sk_document.specs.declared.group.Group.TheVariants.{Refused, Conditional, Allowed}
use Rattle.sk_document.specs.Groups.{group_of, is_group, may_perform, performs_all}
use Rattle.sk_conditions.specs.declared.standing.Relation.TheVariants.{Same}
use Rattle.sk_when.specs.declared.diff_text.Kind.{Kind}
use Rattle.sk_when.specs.declared.diff_text.Kind.TheVariants.{Looser, Stricter, Other}
use Rattle.sk_when.specs.Naming.{constants_of}
use Rattle.sk_document.specs.ComparisonDocument.{kind_word}
use Rattle.sk_document.specs.Html.{attribute, begun, element, element_at, ended, escape}
use Rattle.sk_document.specs.PageChanges.{change_columns, change_of_kind, change_row, changed_numbers, changes, difference_cells, kind_caption, kind_section, kind_table, kind_title, piece_changes, shown_cell}
use Rattle.sk_document.specs.PageParts.{column, counted, nothing, place, row_head, section, section_begun, table, table_begun, table_head, told_of}
use Rattle.sk_document.specs.PageRows.{ends_shown, group_caption, group_heading, group_id, group_section, group_table, groups, row_columns, row_of_group, row_shown}
use Rattle.sk_document.specs.WorkedDocuments.{HasParts, names}
use Rattle.sk_document.specs.WorkedPages.{ActionsWork, ChangesWork, Ends, GroupsWork, IsRefusedGetpid, RowsWork, TextsWork, changes_written, groups_written, three_changes}

-- ---- texts

pub texts_work : TextsWork
unfolding escape begun ended
texts_work = record { markup = refl; element = refl }

-- ---- groups

pub actions_work : ActionsWork
unfolding action_of
actions_work = record { allow = refl; log = refl; trace = refl; user_notif = refl; errno = refl; trap = refl; kill_thread = refl; kill_process = refl }

-- the group of a row with these lines and this verdict else
abbrev group_by : List Line → Option ℕ → Group
group_by lines otherwise =
    if not (may_perform otherwise || list_any (λ line. may_perform line.value) lines) then Refused
    else if performs_all lines otherwise then Allowed
    else Conditional

group_is : (lines : List Line) (value : ℕ) (told : ConditionalRow) → Ends lines value told → group_of told ≡ group_by lines (Some value)
group_is lines value told is = λ i. group_by (is.lines i) (is.otherwise i)

-- the same of one line with a verdict
abbrev group_of_two : Option ℕ → Option ℕ → Group
group_of_two value otherwise =
    if not (may_perform otherwise || (may_perform value || false)) then Refused else Conditional

two_verdicts : (line : Line) (value : ℕ) → group_by (line ∷ []) (Some value) ≡ group_of_two line.value (Some value)
two_verdicts line value = refl

pub groups_work : GroupsWork
unfolding action_of
groups_work = record {
  refused = λ told is. group_is [] 0x00050001 told is;
  allowed = λ told is. group_is [] 0x7fff0000 told is;
  else_allowed = λ line has told is. group_is (line ∷ []) 0x7fff0000 told is ∙ two_verdicts line 0x7fff0000 ∙ λ i. group_of_two (has i) (Some 0x7fff0000);
  else_refused = λ line has told is. group_is (line ∷ []) 0x00050001 told is ∙ two_verdicts line 0x00050001 ∙ λ i. group_of_two (has i) (Some 0x00050001);
  errors = λ line has told is. group_is (line ∷ []) 0x00050001 told is ∙ two_verdicts line 0x00050001 ∙ λ i. group_of_two (has i) (Some 0x00050001);
}

-- ---- rows

-- each group with a row of these, in the one that it is in
abbrev section_of : ℕ → ℕ → Option (List ℕ) → Option ℕ → List Line → Group → List ℕ
section_of first last answers otherwise lines group =
    let is = is_group (group_by lines otherwise) group in
    let count = count_by (λ (it : Bool). it) (is ∷ []) in
    section (group_id group) (counted (group_heading group) count)
    (told_of count (table (group_caption group) row_columns (element (codes "tbody")
    ((if is then element_at (codes "tr") (codes "id") (place (codes "call") first)
    (row_head names.architecture first last ++ element (codes "td") (ends_shown (constants_of names first last) answers otherwise lines)) else [])
    ++ []))))

abbrev groups_of : ℕ → ℕ → Option (List ℕ) → Option ℕ → List Line → List ℕ
groups_of first last answers otherwise lines =
    section_of first last answers otherwise lines Refused
    ++ (section_of first last answers otherwise lines Conditional ++ section_of first last answers otherwise lines Allowed)

row_is : (told : ConditionalRow) → groups names (told ∷ [])
    ≡ groups_of told.row.first told.row.last (answers_of told.row.answers) told.otherwise told.lines.items
unfolding groups group_section group_table row_of_group row_shown
row_is told = refl

getpid_written : groups_of 39 39 (Some (0x00050001 ∷ [])) (Some 0x00050001) [] ≡ groups_written
unfolding digits action_of error_named verdict_text name_of name_on escape attribute begun ended column counted nothing place row_head section_begun table_begun table_head row_columns
getpid_written = refl

pub rows_work : RowsWork
rows_work told is =
    row_is told
    ∙ (λ i. groups_of (is.first i) (is.last i) (is.answers i) (is.otherwise i) (is.lines i))
    ∙ getpid_written

-- ---- changes

-- the changes of one piece
abbrev kind_of_piece : Numbers → List Part → Kind → List ℕ
kind_of_piece its parts kind =
    let has = list_any (has_kind Same kind) parts in
    let count = count_by (λ (it : Bool). it) (has ∷ []) in
    section (kind_word kind) (counted (kind_title kind) count)
    (told_of count (table (kind_caption kind) change_columns
    ((if has then element_at (codes "tbody") (codes "id") (place (kind_word kind) its.first) (flat_map (change_of_kind names kind its) parts) else []) ++ [])))

abbrev changes_of : Numbers → List Part → List ℕ
changes_of its parts = kind_of_piece its parts Looser ++ (kind_of_piece its parts Stricter ++ kind_of_piece its parts Other)

piece_is : (piece : Piece) → changes names (piece ∷ []) ≡ changes_of piece.numbers piece.parts.items
unfolding changes kind_section kind_table piece_changes changed_numbers
piece_is piece = refl

clone_written : changes_of (record { first = 56; last = 56 }) three_changes ≡ changes_written
unfolding digits action_of error_named verdict_text name_of name_on call_with_constants argument_text arguments_text call_text escape attribute begun ended column counted nothing place row_head section_begun table_begun table_head change_of_kind change_row change_columns difference_cells shown_cell
clone_written = refl

pub changes_work : ChangesWork
changes_work piece has =
    piece_is piece
    ∙ (λ i. changes_of (record { first = has.first i; last = has.last i }) (has.items i))
    ∙ clone_written
