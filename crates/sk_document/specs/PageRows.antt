-- The calls of each group on a page: what `ask when` tells of them.
use Rattle.std.specs.Prelude.{ℕ, ◌++◌, if◌then◌else◌, List, [], ◌∷◌, codes, flat_map, map, count_by, Option, Some, None}
use Rattle.sk_survey.specs.Answers.{answers_of}
use Rattle.sk_terms.specs.declared.lines.Line.{Line}
use Rattle.sk_when.specs.declared.names.Names.{Names}
use Rattle.sk_when.specs.declared.row.ConditionalRow.{ConditionalRow}
use Rattle.sk_when.specs.Naming.{constants_of}
use Rattle.sk_when.specs.WhenText.{value_text}
use Rattle.sk_document.specs.declared.group.Group.{Group}
use Rattle.sk_document.specs.declared.group.Group.TheVariants.{Refused, Conditional, Allowed}
use Rattle.sk_document.specs.declared.page_rows.TheConstants.{COLUMNS}
use Rattle.sk_document.specs.Groups.{is_in}
use Rattle.sk_document.specs.Html.{element, element_at, escaped}
use Rattle.sk_document.specs.PageParts.{condition_shown, counted, place, row_head, section, table, told_of}

-- ---- one row

-- a verdict, or those that a survey tells where it is not followed
abbrev pub value_shown : Option (List ℕ) → Option ℕ → List ℕ
value_shown answers value = element (codes "b") (escaped (value_text answers value))

-- a verdict, and the condition under which it comes
unfoldable pub case_shown : Option ℕ → Option (List ℕ) → Line → List ℕ
case_shown constants answers line =
    element (codes "li") (value_shown answers line.value ++ (codes " where " ++ condition_shown constants line))

-- the verdict on all other calls
unfoldable pub else_shown : Option (List ℕ) → Option ℕ → List ℕ
else_shown answers value = element (codes "li") (value_shown answers value ++ codes " else")

-- one verdict alone, or a list of cases
abbrev pub ends_shown : Option ℕ → Option (List ℕ) → Option ℕ → List Line → List ℕ
ends_shown constants answers otherwise [] = value_shown answers otherwise
ends_shown constants answers otherwise (first ∷ lines) =
    element (codes "ul") (flat_map (case_shown constants answers) (first ∷ lines) ++ else_shown answers otherwise)

-- numbers, the name that a single one has, and the verdicts on their calls
unfoldable pub row_shown : Names → ConditionalRow → List ℕ
row_shown names told =
    element_at (codes "tr") (codes "id") (place (codes "call") told.row.first)
    (row_head names.architecture told.row.first told.row.last
    ++ element (codes "td")
    (ends_shown (constants_of names told.row.first told.row.last) (answers_of told.row.answers) told.otherwise told.lines.items))

-- ---- one group

abbrev pub group_id : Group → List ℕ
group_id Refused = codes "refused"
group_id Conditional = codes "conditional"
group_id Allowed = codes "allowed"

abbrev pub group_heading : Group → List ℕ
group_heading Refused = codes "Refused"
group_heading Conditional = codes "Under conditions"
group_heading Allowed = codes "Allowed"

-- what its table is about
abbrev pub group_caption : Group → List ℕ
group_caption Refused = codes "Whatever their arguments are, the filters let none of these calls through"
group_caption Conditional = codes "By their arguments these calls get one verdict or another: the first whose condition of C holds, or the one with else"
group_caption Allowed = codes "Whatever their arguments are, all these calls are performed"

-- the columns of its table
unfoldable pub row_columns : List (List ℕ)
row_columns = map (λ name. name.now) COLUMNS

-- a row where it is in the group
unfoldable pub row_of_group : Names → Group → ConditionalRow → List ℕ
row_of_group names group told = if is_in group told then row_shown names told else []

-- its rows in their order
unfoldable pub group_table : Names → List ConditionalRow → Group → List ℕ
group_table names rows group =
    table (group_caption group) row_columns (element (codes "tbody") (flat_map (row_of_group names group) rows))

-- a group with how many rows it has
unfoldable pub group_section : Names → List ConditionalRow → Group → List ℕ
group_section names rows group =
    section (group_id group) (counted (group_heading group) (count_by (is_in group) rows))
    (told_of (count_by (is_in group) rows) (group_table names rows group))

-- all groups
unfoldable pub groups : Names → List ConditionalRow → List ℕ
groups names rows = group_section names rows Refused ++ (group_section names rows Conditional ++ group_section names rows Allowed)
