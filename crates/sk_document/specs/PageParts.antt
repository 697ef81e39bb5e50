-- What the pages for reviewers are made of: sections, tables, and what is shown of numbers, verdicts, conditions and calls.
use Rattle.std.specs.Prelude.{ℕ, ◌==◌, ◌++◌, if◌then◌else◌, List, [], codes, flat_map, Option}
use Rattle.std.specs.Fmt.{decimal}
use Rattle.sk_insn.specs.declared.record.Record.{Record}
use Rattle.sk_names.specs.declared.architecture.Architecture.{Architecture}
use Rattle.sk_show.specs.Text.{name_text, numbers_text}
use Rattle.sk_terms.specs.declared.lines.Line.{Line}
use Rattle.sk_terms.specs.Text.{condition_text}
use Rattle.sk_filter.specs.VerdictText.{verdict_text}
use Rattle.sk_when.specs.declared.names.Names.{Names}
use Rattle.sk_when.specs.DiffText.{call_text}
use Rattle.sk_document.specs.Html.{attribute, begun, element, element_at, ended, escaped}

-- ---- sections

-- the beginning of a section, with the heading that names it
unfoldable pub section_begun : List ℕ → List ℕ → List ℕ
section_begun id heading =
    begun (codes "section") (attribute (codes "aria-labelledby") id) ++ element_at (codes "h2") (codes "id") id heading

-- a section of the page, which links name by its heading
abbrev pub section : List ℕ → List ℕ → List ℕ → List ℕ
section id heading inner = section_begun id heading ++ (inner ++ ended (codes "section"))

-- a heading that counts calls
unfoldable pub counted : List ℕ → ℕ → List ℕ
counted heading count = heading ++ (codes ": " ++ decimal count)

-- what stands where there is nothing to be told
unfoldable pub nothing : List ℕ
nothing = element (codes "p") (codes "None.")

-- what is told of so many calls
abbrev pub told_of : ℕ → List ℕ → List ℕ
told_of count told = if count == 0 then nothing else told

-- ---- tables

-- the head of a column
unfoldable pub column : List ℕ → List ℕ
column heading = element_at (codes "th") (codes "scope") (codes "col") heading

-- the heads of all columns
unfoldable pub table_head : List (List ℕ) → List ℕ
table_head columns = element (codes "thead") (element (codes "tr") (flat_map column columns))

-- the beginning of a table: what it is about, and its columns
unfoldable pub table_begun : List ℕ → List (List ℕ) → List ℕ
table_begun caption columns = begun (codes "table") [] ++ (element (codes "caption") caption ++ table_head columns)

-- a table
abbrev pub table : List ℕ → List (List ℕ) → List ℕ → List ℕ
table caption columns bodies = table_begun caption columns ++ (bodies ++ ended (codes "table"))

-- by this links name what begins with a number
unfoldable pub place : List ℕ → ℕ → List ℕ
place kind first = kind ++ (codes "-" ++ decimal first)

-- the head of a row: numbers, and the name that a single one has
unfoldable pub row_head : Architecture → ℕ → ℕ → List ℕ
row_head architecture first last =
    element_at (codes "th") (codes "scope") (codes "row")
    (escaped (numbers_text first last ++ (codes " " ++ name_text architecture first last)))

-- ---- verdicts, conditions and calls

-- a verdict
abbrev pub verdict_shown : ℕ → List ℕ
verdict_shown value = element (codes "b") (escaped (verdict_text value))

-- a condition of C
abbrev pub condition_shown : Option ℕ → Line → List ℕ
condition_shown constants line = element (codes "code") (escaped (condition_text constants line))

-- a call as syscall(2) makes it
abbrev pub call_shown : Names → Record → List ℕ
call_shown names call = element (codes "code") (escaped (call_text names call))
