-- The text of `ask lint`.
use Rattle.std.specs.Prelude.{ℕ, ◌+◌, ◌-◌, ◌^◌, ◌==◌, ◌++◌, min, Bool, true, false, if◌then◌else◌, List, [], ◌∷◌, codes, flat_map}
use Rattle.std.specs.List.{count_by}
use Rattle.std.specs.Fmt.{decimal}
use Rattle.sk_insn.specs.declared.record.Record.{Record}
use Rattle.sk_arguments.specs.declared.naming.Naming.{Naming}
use Rattle.sk_conditions.specs.declared.numbers.Numbers.{Numbers}
use Rattle.sk_conditions.specs.declared.standing.Relation.TheVariants.{Same}
use Rattle.sk_survey.specs.Taken.{taken_as}
use Rattle.sk_when.specs.declared.concern.Concern.{Concern}
use Rattle.sk_when.specs.declared.concern.Concern.TheVariants as concern
use Rattle.sk_when.specs.declared.diff_engine.Finding.{Finding}
use Rattle.sk_when.specs.declared.diff_engine.Finding.TheVariants as finding
use Rattle.sk_when.specs.declared.names.Names.{Names}
use Rattle.sk_when.specs.declared.piece.Outcome.{Outcome}
use Rattle.sk_when.specs.declared.piece.Outcome.TheVariants.{Undecided, Apart}
use Rattle.sk_when.specs.declared.piece.Part.{Part}
use Rattle.sk_when.specs.declared.piece.Piece.{Piece}
use Rattle.sk_when.specs.DiffText.{call_text, part_text}
use Rattle.sk_when.specs.Lint.{has_concern, lint_names, some_has}

-- ---- the parts

-- a call for which Linux takes another one
unfoldable pub taken_line : Names → Record → List ℕ
taken_line names taken = codes "  which Linux takes for " ++ (call_text names taken ++ codes "\n")

-- what Linux takes the call for that is shown, and what else is said of this
abbrev pub taken_text : Naming → (Record → List ℕ) → Record → List ℕ
taken_text naming remark call = taken_line (lint_names naming call.nr) (taken_as call) ++ remark call

abbrev pub shown_taken_text : Naming → (Record → List ℕ) → Outcome → List ℕ
shown_taken_text naming remark Undecided = []
shown_taken_text naming remark (Apart it call) = taken_text naming remark call

-- one part: that of a comparison for the same verdicts in which the old verdict is that on the call that Linux takes a call for
unfoldable pub lint_part_text : Naming → (Record → List ℕ) → Numbers → Part → List ℕ
lint_part_text naming remark numbers part = part_text Same (lint_names naming numbers.first) numbers part ++ shown_taken_text naming remark part.outcome

-- those of one concern
unfoldable pub concern_text : Naming → (Record → List ℕ) → Concern → Numbers → Part → List ℕ
concern_text naming remark it numbers part = if has_concern it part then lint_part_text naming remark numbers part else []

unfoldable pub lint_piece_text : Naming → (Record → List ℕ) → Concern → Piece → List ℕ
lint_piece_text naming remark it piece = flat_map (concern_text naming remark it piece.numbers) piece.parts.items

abbrev pub lint_pieces_text : Naming → (Record → List ℕ) → Concern → List Piece → List ℕ
lint_pieces_text naming remark it pieces = flat_map (lint_piece_text naming remark it) pieces

-- ---- those that are as strict or stricter

-- how many parts of some concern there are
abbrev pub counted : Concern → List Piece → ℕ
counted it [] = 0
counted it (piece ∷ pieces) = count_by (has_concern it) piece.parts.items + counted it pieces

unfoldable pub conditions_text : ℕ → List ℕ
conditions_text count =
    if count == 1 then codes "1 condition (--all shows it)\n"
    else decimal count ++ codes " conditions (--all shows them)\n"

abbrev pub counted_text : ℕ → List ℕ
counted_text count = codes "as strict or stricter by such bits: " ++ conditions_text count

abbrev pub count_text : ℕ → List ℕ
count_text count =
    if count == 0 then [] else counted_text count

-- their number, which stops at 2 ^ 64 - 1, or all of them
abbrev pub stricter_text : Bool → Naming → (Record → List ℕ) → List Piece → List ℕ
stricter_text true naming remark pieces = lint_pieces_text naming remark concern.Stricter pieces
stricter_text false naming remark pieces = count_text (min (counted concern.Stricter pieces) (2 ^ 64 - 1))

-- ---- the whole

abbrev pub nothing_text : Bool → List ℕ
nothing_text true = codes "no call gets a less strict verdict by bits that Linux does not read\n"
nothing_text false = codes "no call gets another verdict by bits that Linux does not read\n"

-- what is said first where nothing is told
abbrev pub opening_text : Finding → List Piece → List ℕ
opening_text finding.Holds pieces = nothing_text (some_has concern.Stricter pieces)
opening_text other pieces = []

-- first those where the chain is looser, then those with the sign of an int, and last what is undecided
abbrev pub told_text : Naming → (Record → List ℕ) → List Piece → List ℕ
told_text naming remark pieces =
    lint_pieces_text naming remark concern.Looser pieces
    ++ (lint_pieces_text naming remark concern.Signed pieces ++ lint_pieces_text naming remark concern.Undecided pieces)

abbrev pub lint_text : Bool → Naming → (Record → List ℕ) → Finding → List Piece → List ℕ
lint_text all naming remark it pieces = opening_text it pieces ++ (told_text naming remark pieces ++ stricter_text all naming remark pieces)
