-- What holds of each document: it is one value of JSON.
use Rattle.std.specs.Prelude.{ℕ, ◌≡◌, Bool, List, Option}
use Rattle.json.specs.Json.{Json}
use Rattle.json.specs.Token.{Token}
use Rattle.json.specs.Tree.{json_tokens}
use Rattle.sk_insn.specs.declared.insn.Insn.{Insn}
use Rattle.sk_insn.specs.declared.record.Record.{Record}
use Rattle.sk_names.specs.declared.architecture.Architecture.{Architecture}
use Rattle.sk_arguments.specs.declared.naming.Naming.{Naming}
use Rattle.sk_conditions.specs.declared.standing.Relation.{Relation}
use Rattle.sk_survey.specs.declared.told.Told.{Told}
use Rattle.sk_show.specs.declared.survey_line.Line.{Line}
use Rattle.sk_replay.specs.declared.row.Row.{Row}
use Rattle.sk_when.specs.declared.diff_engine.Finding.{Finding}
use Rattle.sk_when.specs.declared.names.Names.{Names}
use Rattle.sk_when.specs.declared.piece.Piece.{Piece}
use Rattle.sk_when.specs.declared.row.ConditionalRow.{ConditionalRow}
use Rattle.sk_document.specs.declared.deciding.Decider.{Decider}
use Rattle.sk_document.specs.ArchesDocument.{arches_tokens}
use Rattle.sk_document.specs.CallsDocument.{calls_tokens}
use Rattle.sk_document.specs.ComparisonDocument.{comparison_tokens}
use Rattle.sk_document.specs.LintDocument.{lint_tokens}
use Rattle.sk_document.specs.ReplayDocument.{replay_tokens}
use Rattle.sk_document.specs.WhenDocument.{when_tokens}
use Rattle.sk_document.specs.WhyDocument.{why_tokens}

-- these are the tokens of one value (RFC 8259): what is opened is closed, and each member has a name and a value
abbrev pub IsValue : List Token → Type 0
IsValue tokens = (value : Json) × (tokens ≡ json_tokens value)

-- so it is of the document of each word, whatever it tells
pub record DocumentsAreValues : Type 0 where
  pub calls : (architecture : Architecture) (looks : Bool) (lines : List Line) → IsValue (calls_tokens architecture looks lines)
  pub when : (names : Names) (rows : List ConditionalRow) → IsValue (when_tokens names rows)
  pub comparison :
      (word : List ℕ) (names : Names) (relation : Relation) (finding : Finding) (pieces : List Piece)
      → IsValue (comparison_tokens word names relation finding pieces)
  pub lint :
      (naming : Naming) (remark : Record → List ℕ) (finding : Finding) (pieces : List Piece)
      → IsValue (lint_tokens naming remark finding pieces)
  pub arches : (told : Told) → IsValue (arches_tokens told)
  pub replay : (architecture : Architecture) (rows : List Row) (events unclear : ℕ) → IsValue (replay_tokens architecture rows events unclear)
  pub why :
      (architecture : Architecture) (programs : List (List Insn)) (call : Record) (source : Option (ℕ × ℕ)) (decisions : List (List ℕ × Decider)) (logged : Option ℕ)
      → IsValue (why_tokens architecture programs call source decisions logged)
