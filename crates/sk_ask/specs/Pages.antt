-- What `ask page` tells: a page of what `ask when`, `ask arches`, `ask lint` and `ask diff` tell of the calls of x86-64.
use Rattle.std.specs.Prelude.{ℕ, ◌≡◌, ◌++◌, ◌&&◌, is_some, Bool, true, false, List, [], ◌∷◌, codes, flat_map, string_bytes, Option, Some, None, ⊤}
use Rattle.std.specs.List.{list_all, zip}
use Rattle.sk_insn.specs.declared.insn.Insn.{Insn}
use Rattle.sk_names.specs.declared.architecture.Architecture.TheVariants.{X86_64}
use Rattle.sk_arguments.specs.declared.naming.Naming.{Naming}
use Rattle.sk_conditions.specs.declared.standing.Relation.TheVariants.{Same}
use Rattle.sk_profile.specs.Profiles.{Profile}
use Rattle.sk_profile_json.specs.declared.context.Context.{Context}
use Rattle.sk_survey.specs.declared.told.Told.{Told}
use Rattle.sk_survey.specs.Told.{IsTold}
use Rattle.sk_when.specs.declared.diff_engine.Comparison.{Comparison}
use Rattle.sk_when.specs.declared.lint_engine.Linted.{Linted}
use Rattle.sk_when.specs.declared.piece.Outcome.{Outcome}
use Rattle.sk_when.specs.declared.piece.Outcome.TheVariants.{Undecided, Apart}
use Rattle.sk_when.specs.declared.piece.Piece.{Piece}
use Rattle.sk_when.specs.declared.row.ConditionalRow.{ConditionalRow}
use Rattle.sk_when.specs.Naming.{names_of}
use Rattle.sk_document.specs.Page.{review_page}
use Rattle.sk_ask.specs.Comparisons.{IsAnalysed}
use Rattle.sk_ask.specs.Complaints.{of_word}
use Rattle.sk_ask.specs.Endings.{Ending, answered, refused, ComesTo}
use Rattle.sk_ask.specs.Lints.{AreSaid, IsLinted, note_text, remarks_on}
use Rattle.sk_ask.specs.Reading.{Read}
use Rattle.sk_ask.specs.Whens.{AreRowsTold}

-- ---- the title

-- names with a comma between two
abbrev pub listed : List (List ℕ) → List ℕ
listed [] = []
listed (name ∷ names) = name ++ flat_map (λ other. codes ", " ++ other) names

-- the files that the page tells of, behind the old ones, where there are some
abbrev pub page_title : List (List ℕ) → List (List ℕ) → List ℕ
page_title [] names = codes "ask page: " ++ listed names
page_title (first ∷ others) names = codes "ask page: " ++ (listed (first ∷ others) ++ (codes " to " ++ listed names))

-- ---- what is told

-- the rows of a chain, what its architectures get, and what is found of bits that Linux does not read
pub record IsReviewed (may_spend : ℕ → Bool) (chain : List (List Insn)) (rows : List ConditionalRow) (told : Told) (linted : Linted) : Type 0 where
  pub rows_are : AreRowsTold may_spend X86_64 chain None rows
  pub told_is : IsTold chain told
  pub linted_is : IsLinted may_spend chain linted.finding linted.pieces.items (string_bytes linted.notes)

-- where there is an old chain, the chain is compared with it
abbrev pub IsComparedWith : (ℕ → Bool) → Option (List (List Insn)) → List (List Insn) → Option Comparison → Type 0
IsComparedWith may_spend None new None = ⊤
IsComparedWith may_spend (Some old) new (Some it) = IsAnalysed may_spend X86_64 Same old new it.finding it.pieces.items
IsComparedWith may_spend old new compared = ⊥

-- ---- whether all of it is known

-- a verdict is told under each condition of a row, and else
abbrev pub is_row_followed : ConditionalRow → Bool
is_row_followed told = is_some told.otherwise && list_all (λ line. is_some line.value) told.lines.items

-- of a part both verdicts are known
abbrev pub is_decided : Outcome → Bool
is_decided Undecided = false
is_decided (Apart it call) = true

-- those of all parts
abbrev pub are_decided : List Piece → Bool
are_decided pieces = list_all (λ piece. list_all (λ part. is_decided part.outcome) piece.parts.items) pieces

-- the same of a comparison, where there is one
abbrev pub is_comparison_decided : Option Comparison → Bool
is_comparison_decided None = true
is_comparison_decided (Some it) = are_decided it.pieces.items

-- nothing that a page tells is left open
abbrev pub is_followed : Option Comparison → List ConditionalRow → Linted → Bool
is_followed compared rows linted = list_all is_row_followed rows && (are_decided linted.pieces.items && is_comparison_decided compared)

-- ---- the answer

-- a page is answered, and no denial, whatever it tells; where something is left open there is none
abbrev pub EndsAsPage : Bool → List ℕ → List ℕ → Ending → Type 0
EndsAsPage true notes page ending = ending ≡ answered notes page false
EndsAsPage false notes page ending =
    ComesTo (refused (of_word (codes "page: the filters could not be followed on all calls: ask when, ask lint and ask diff say where") [])) ending

-- of the files with these names, which were read, behind old ones, if there are some, which have this chain, and of which this was noted
abbrev pub TellsPage : (ℕ → Bool) → Naming → Context → List (List ℕ) → Option (List (List Insn)) → List ℕ → List (List ℕ) → Read → Ending → Type 0
TellsPage may_spend naming context old_names old noted names read ending =
    (said : List (List ℕ × Option Profile)) × (compared : Option Comparison) × (rows : List ConditionalRow) × (told : Told) × (linted : Linted)
    × AreSaid context (zip names read.files) said
    × IsComparedWith may_spend old read.chain compared
    × IsReviewed may_spend read.chain rows told linted
    × EndsAsPage (is_followed compared rows linted) (noted ++ (read.notes ++ note_text (string_bytes linted.notes)))
    (review_page (page_title old_names names) (names_of naming X86_64) (remarks_on said) compared rows told linted) ending
