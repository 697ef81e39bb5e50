-- What is told of two chains that are compared on every call.
use Rattle.std.specs.Prelude.{ℕ, ◌≡◌, ◌⊎◌, ◌^◌, Bool, false, List}
use Rattle.sk_insn.specs.declared.insn.Insn.{Insn}
use Rattle.sk_names.specs.declared.architecture.Architecture.{Architecture}
use Rattle.sk_arguments.specs.declared.naming.Naming.{Naming}
use Rattle.sk_conditions.specs.declared.standing.Relation.{Relation}
use Rattle.sk_conditions.specs.Steps.{NeverPart}
use Rattle.sk_when.specs.declared.diff_engine.Finding.{Finding}
use Rattle.sk_when.specs.declared.names.Names.{Names}
use Rattle.sk_when.specs.declared.piece.Piece.{Piece}
use Rattle.sk_when.specs.DiffText.{comparison_text}
use Rattle.sk_when.specs.Diffs.{IsComparison}
use Rattle.sk_when.specs.Naming.{names_of}
use Rattle.sk_document.specs.ComparisonDocument.{comparison_document}
use Rattle.sk_ask.specs.declared.printing.Printing.{Printing}
use Rattle.sk_ask.specs.declared.printing.Printing.TheVariants.{Text, Document}
use Rattle.sk_ask.specs.Architectures.{chain_on}
use Rattle.sk_ask.specs.Concluding.{EndsAs, printing_for}
use Rattle.sk_ask.specs.Endings.{Ending, no_memory}
use Rattle.sk_ask.specs.Steps.{MayBeSpent, diff_steps}

-- two chains were compared with the steps that ask gives; where all calls of each row go one way through each filter, the steps
-- of no row were used up
abbrev pub IsAnalysed : (ℕ → Bool) → Architecture → Relation → List (List Insn) → List (List Insn) → Finding → List Piece → Type 0
IsAnalysed may_spend by relation old new finding pieces =
    (is_spent : Bool) × IsComparison by relation old new is_spent finding pieces × MayBeSpent may_spend diff_steps is_spent
    × (NeverPart 0 (2 ^ 32) old → NeverPart 0 (2 ^ 32) new → is_spent ≡ false)

-- what was found as a text, with numbers written so, or as the document of a word of ask
abbrev pub comparison_printed : Printing → List ℕ → Names → Relation → Finding → List Piece → List ℕ
comparison_printed Text word names relation finding pieces = comparison_text names relation finding pieces
comparison_printed Document word names relation finding pieces = comparison_document word names relation finding pieces

-- so they were as they are for an architecture, and this could not be done where some calls are undecided; or memory was refused
abbrev pub IsCompared : (ℕ → Bool) → Naming → Printing → Architecture → List ℕ → Relation → List ℕ → List (List Insn) → List (List Insn) → List ℕ → Ending
    → Type 0
IsCompared may_spend naming printing by word relation undone old new notes ending =
    ((finding : Finding) × (pieces : List Piece)
    × IsAnalysed may_spend by relation (chain_on by old) (chain_on by new) finding pieces
    × EndsAs undone finding notes (comparison_printed (printing_for finding printing) word (names_of naming by) relation finding pieces) ending)
    ⊎ (ending ≡ no_memory)
