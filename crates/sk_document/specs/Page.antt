-- A page for reviewers: what `ask when`, `ask arches`, `ask lint` and `ask diff` tell of filters, as HTML without scripts.
use Rattle.std.specs.Prelude.{ℕ, ◌++◌, is_some, Bool, true, false, List, [], codes, Option, Some, None}
use Rattle.sk_insn.specs.declared.record.Record.{Record}
use Rattle.sk_conditions.specs.declared.standing.Relation.TheVariants.{Same}
use Rattle.sk_survey.specs.declared.told.Told.{Told}
use Rattle.sk_when.specs.declared.diff_engine.Comparison.{Comparison}
use Rattle.sk_when.specs.declared.lint_engine.Linted.{Linted}
use Rattle.sk_when.specs.declared.names.Names.{Names}
use Rattle.sk_when.specs.declared.row.ConditionalRow.{ConditionalRow}
use Rattle.sk_document.specs.declared.page.TheConstants.{CONDITIONAL, HEAD, LEGEND, SKIP}
use Rattle.sk_document.specs.ArchesDocument.{arches_document}
use Rattle.sk_document.specs.ComparisonDocument.{comparison_document}
use Rattle.sk_document.specs.Html.{element, element_at, escaped}
use Rattle.sk_document.specs.LintDocument.{lint_document}
use Rattle.sk_document.specs.PageArches.{arches_section}
use Rattle.sk_document.specs.PageChanges.{changes}
use Rattle.sk_document.specs.PageLint.{lint_section}
use Rattle.sk_document.specs.PageParts.{section}
use Rattle.sk_document.specs.PageRows.{groups}
use Rattle.sk_document.specs.WhenDocument.{when_document}

-- ---- links to the sections

-- a link to a section, in the list of them
unfoldable pub link : List ℕ → List ℕ → List ℕ
link id name = element (codes "li") (element_at (codes "a") (codes "href") (codes "#" ++ id) name)

-- to the calls whose arguments decide
unfoldable pub conditional_link : List ℕ
conditional_link = link (codes "conditional") CONDITIONAL.now

-- to the groups of calls
unfoldable pub group_links : List ℕ
group_links =
    link (codes "refused") (codes "Refused")
    ++ (conditional_link ++ link (codes "allowed") (codes "Allowed"))

-- to what else is told of filters
unfoldable pub other_links : List ℕ
other_links =
    link (codes "arches") (codes "Architectures")
    ++ (link (codes "lint") (codes "Unread bits") ++ link (codes "documents") (codes "Documents"))

-- to what changed, where that is told
abbrev pub change_links : Bool → List ℕ
change_links false = []
change_links true =
    link (codes "looser") (codes "Looser")
    ++ (link (codes "stricter") (codes "Stricter") ++ link (codes "other") (codes "Other changes"))

-- to all sections, what changed first
unfoldable pub links : Bool → List ℕ
links compares = change_links compares ++ (group_links ++ other_links)

-- these as a list
unfoldable pub navigation : Bool → List ℕ
navigation compares =
    element_at (codes "nav") (codes "aria-label") (codes "Sections") (element (codes "ul") (links compares))

-- ---- documents

-- a document, below the command that prints it
unfoldable pub document_shown : List ℕ → List ℕ → List ℕ
document_shown command text =
    element (codes "details") (element (codes "summary") command ++ element (codes "pre") (escaped text))

-- that of what changed, where that is told
abbrev pub change_document : Names → Option Comparison → List ℕ
change_document names None = []
change_document names (Some it) =
    document_shown (codes "ask diff --json") (comparison_document (codes "diff") names Same it.finding it.pieces.items)

-- those of what is told of filters
unfoldable pub answer_documents : Names → (Record → List ℕ) → List ConditionalRow → Told → Linted → List ℕ
answer_documents names remark rows told linted =
    document_shown (codes "ask when --json") (when_document names rows)
    ++ (document_shown (codes "ask arches --json") (arches_document told)
    ++ document_shown (codes "ask lint --json") (lint_document names.naming remark linted.finding linted.pieces.items))

-- ---- the page

-- what changed, where that is told
abbrev pub changes_shown : Names → Option Comparison → List ℕ
changes_shown names None = []
changes_shown names (Some it) = changes names it.pieces.items

-- the documents of all that is told
unfoldable pub documents_section : Names → (Record → List ℕ) → Option Comparison → List ConditionalRow → Told → Linted → List ℕ
documents_section names remark compared rows told linted =
    section (codes "documents") (codes "Documents") (change_document names compared ++ answer_documents names remark rows told linted)

-- what is told of filters, and these
unfoldable pub sections : Names → (Record → List ℕ) → Option Comparison → List ConditionalRow → Told → Linted → List ℕ
sections names remark compared rows told linted =
    changes_shown names compared
    ++ (groups names rows
    ++ (arches_section told
    ++ (lint_section names.naming remark linted.pieces.items ++ documents_section names remark compared rows told linted)))

-- what the words of the page mean
unfoldable pub legend_text : List ℕ
legend_text = LEGEND.now

-- the heading, what the words of the page mean, and the links
unfoldable pub header : List ℕ → Bool → List ℕ
header title compares =
    element (codes "header") (element (codes "h1") (escaped title) ++ (legend_text ++ navigation compares))

-- the fixed texts of each page
unfoldable pub head_text : List ℕ
head_text = HEAD.now

unfoldable pub skip_text : List ℕ
skip_text = SKIP.now

unfoldable pub page_ended : List ℕ
page_ended = codes "</body>\n</html>\n"

-- what stands before the heading
unfoldable pub page_begun : List ℕ → List ℕ
page_begun title = head_text ++ (element (codes "title") (escaped title) ++ skip_text)

-- what stands behind it
unfoldable pub main : Names → (Record → List ℕ) → Option Comparison → List ConditionalRow → Told → Linted → List ℕ
main names remark compared rows told linted =
    element_at (codes "main") (codes "id") (codes "answers") (sections names remark compared rows told linted)

-- a page with this title; what stands before the title is the same on each page
unfoldable pub review_page : List ℕ → Names → (Record → List ℕ) → Option Comparison → List ConditionalRow → Told → Linted → List ℕ
review_page title names remark compared rows told linted =
    page_begun title
    ++ (header title (is_some compared) ++ (main names remark compared rows told linted ++ page_ended))
