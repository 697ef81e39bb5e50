-- What `ask arches` tells.
use Rattle.std.specs.Prelude.{ℕ, ◌≡◌, List}
use Rattle.sk_insn.specs.declared.insn.Insn.{Insn}
use Rattle.sk_survey.specs.declared.told.Told.{Told}
use Rattle.sk_survey.specs.Told.{IsTold, warns}
use Rattle.sk_survey.specs.Text.{arches_text}
use Rattle.sk_document.specs.ArchesDocument.{arches_document}
use Rattle.sk_ask.specs.declared.printing.Printing.{Printing}
use Rattle.sk_ask.specs.declared.printing.Printing.TheVariants.{Text, Document}
use Rattle.sk_ask.specs.Endings.{Ending, answered}

-- what is told as a text, or as a document
abbrev pub arches_printed : Printing → Told → List ℕ
arches_printed Text told = arches_text told
arches_printed Document told = arches_document told

-- what the chain answers to each architecture: no where it warns
abbrev pub TellsArches : Printing → List (List Insn) → List ℕ → Ending → Type 0
TellsArches printing chain notes ending = (told : Told) × IsTold chain told × (ending ≡ answered notes (arches_printed printing told) (warns told))
