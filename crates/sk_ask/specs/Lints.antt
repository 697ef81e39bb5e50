-- What `ask lint` tells.
use Rattle.std.specs.Prelude.{ℕ, ◌≡◌, ◌++◌, ◌^◌, Bool, false, List, [], ◌∷◌, codes, flat_map, Option, ⊤}
use Rattle.std.specs.List.{zip}
use Rattle.sk_text.specs.Lines.{lines_of}
use Rattle.sk_insn.specs.declared.insn.Insn.{Insn}
use Rattle.sk_insn.specs.declared.record.Record.{Record}
use Rattle.sk_arguments.specs.declared.naming.Naming.{Naming}
use Rattle.sk_survey.specs.Taken.{taken_as}
use Rattle.sk_conditions.specs.Steps.{NeverPart}
use Rattle.sk_profile.specs.Profiles.{Profile}
use Rattle.sk_profile_json.specs.declared.context.Context.{Context}
use Rattle.sk_profile_json.specs.declared.parting.Parting.{Parting}
use Rattle.sk_profile_json.specs.Partings.{IsSaidBy, partings_by}
use Rattle.sk_profile_json.specs.PartingTexts.{parting_text}
use Rattle.sk_when.specs.declared.diff_engine.Finding.{Finding}
use Rattle.sk_when.specs.declared.piece.Piece.{Piece}
use Rattle.sk_when.specs.LintText.{lint_text}
use Rattle.sk_when.specs.Lints.{IsLint}
use Rattle.sk_document.specs.LintDocument.{lint_document}
use Rattle.sk_ask.specs.declared.printing.Printing.{Printing}
use Rattle.sk_ask.specs.declared.printing.Printing.TheVariants.{Text, Document}
use Rattle.sk_ask.specs.Complaints.{of_word, shown}
use Rattle.sk_ask.specs.Concluding.{EndsAs, printing_for}
use Rattle.sk_ask.specs.Endings.{Ending}
use Rattle.sk_ask.specs.Forms.{unmarked}
use Rattle.sk_ask.specs.Reading.{Read}
use Rattle.sk_ask.specs.Steps.{MayBeSpent, lint_steps}

-- ---- the profiles among the files

-- the name of each file, and the profile that its bytes say, if they say one
abbrev pub AreSaid : Context → List (List ℕ × List ℕ) → List (List ℕ × Option Profile) → Type 0
AreSaid context [] [] = ⊤
AreSaid context (file ∷ files) (said ∷ others) = (said.0 ≡ file.0) × IsSaidBy context (unmarked file.1) said.1 × AreSaid context files others
AreSaid context files said = ⊥

-- an entry of a file with this name that parts a call from the one that Linux takes it for, in a line below the call
abbrev pub entry_line : List ℕ → Parting → List ℕ
entry_line name it = codes "  " ++ (name ++ (codes ": " ++ (parting_text it ++ codes "\n")))

-- those of one file
unfoldable pub file_remark : Record → List ℕ × Option Profile → List ℕ
file_remark call said = flat_map (entry_line (shown said.0)) (partings_by said.1 call (taken_as call))

-- those of all files
abbrev pub remarks_on : List (List ℕ × Option Profile) → Record → List ℕ
remarks_on said call = flat_map (file_remark call) said

-- ---- the answer

-- what could not be done where some calls are undecided
abbrev pub not_followed : List ℕ
not_followed = codes "lint: the filters could not be followed"

-- each line of what is noted
abbrev pub note_text : List ℕ → List ℕ
note_text notes = flat_map (of_word (codes "lint: ")) (lines_of notes)

-- a chain was looked at with the steps that ask gives; where all calls of each row go one way through each filter, the steps of no
-- row were used up
abbrev pub IsLinted : (ℕ → Bool) → List (List Insn) → Finding → List Piece → List ℕ → Type 0
IsLinted may_spend chain finding pieces notes =
    (is_spent : Bool) × IsLint chain is_spent finding pieces notes × MayBeSpent may_spend lint_steps is_spent
    × (NeverPart 0 (2 ^ 32) chain → is_spent ≡ false)

-- what was found as a text, which may leave out what is stricter, or as a document, which has all
abbrev pub lint_printed : Printing → Bool → Naming → (Record → List ℕ) → Finding → List Piece → List ℕ
lint_printed Text all naming remarks finding pieces = lint_text all naming remarks finding pieces
lint_printed Document all naming remarks finding pieces = lint_document naming remarks finding pieces

-- of the files with these names, which were read, and in which profiles are as they are to hold there
abbrev pub TellsLint : (ℕ → Bool) → Naming → Printing → Bool → Context → List (List ℕ) → Read → Ending → Type 0
TellsLint may_spend naming printing all context names read ending =
    (said : List (List ℕ × Option Profile)) × (finding : Finding) × (pieces : List Piece) × (notes : List ℕ)
    × AreSaid context (zip names read.files) said
    × IsLinted may_spend read.chain finding pieces notes
    × EndsAs not_followed finding (read.notes ++ note_text notes)
    (lint_printed (printing_for finding printing) all naming (remarks_on said) finding pieces) ending
