-- What `ask lint` answers of a chain, and what that says of every call.
use Rattle.std.specs.Prelude.{ℕ, ◌≡◌, ◌<◌, Bool, true, false, List}
use Rattle.std.specs.List.{All}
use Rattle.sk_arguments.specs.Reading.{kind_of, narrow_numbers}
use Rattle.sk_insn.specs.declared.insn.Insn.{Insn}
use Rattle.sk_insn.specs.declared.record.Record.{Record}
use Rattle.sk_filter.specs.Chains.{AllValid}
use Rattle.sk_survey.specs.Answers.{IsCallOf}
use Rattle.sk_conditions.specs.declared.differences.Verdicts.{Verdicts}
use Rattle.sk_conditions.specs.declared.numbers.Numbers.{Numbers}
use Rattle.sk_conditions.specs.declared.standing.Relation.{Relation}
use Rattle.sk_conditions.specs.Followed.{AreFollowed}
use Rattle.sk_when.specs.declared.concern.Concern.TheVariants as concern
use Rattle.sk_when.specs.declared.diff_engine.Finding.{Finding}
use Rattle.sk_when.specs.declared.diff_engine.Finding.TheVariants.{Holds, Undecided}
use Rattle.sk_when.specs.declared.piece.Outcome.TheVariants.{Apart}
use Rattle.sk_when.specs.declared.piece.Part.{Part}
use Rattle.sk_when.specs.declared.piece.Piece.{Piece}
use Rattle.sk_when.specs.Pieces.{AreDecided, HoldsOf, meets_calls}
use Rattle.sk_when.specs.Lint.{AreLinted, IsClean, IsNowhereLooser, concern_of, is_int, lint_finding, some_has, upper_of}
use Rattle.sk_when.specs.LintNotes.{AreNotes}

-- the pieces of all numbers that are asked about, and this is what is found of them; where the filters are followed, and the steps of
-- no number were spent, each part is decided, and each note is there
pub record IsLint (programs : List (List Insn)) (is_spent : Bool) (finding : Finding) (pieces : List Piece) (notes : List ℕ) : Type 0 where
  pub linted : AreLinted programs pieces
  pub decided : All AreFollowed programs → is_spent ≡ false → All AreDecided pieces
  pub stands : finding ≡ lint_finding pieces
  pub noted : AreNotes programs is_spent narrow_numbers notes

-- where nothing is told, no call gets a verdict that is less strict than that on the call that Linux takes it for
abbrev pub NowhereLooserIsTrue : Type 0
NowhereLooserIsTrue =
    (programs : List (List Insn)) → AllValid programs → (is_spent : Bool) (pieces : List Piece) (notes : List ℕ)
    → IsLint programs is_spent Holds pieces notes → IsNowhereLooser programs

-- and where nothing stricter is counted either, calls that are the same one to Linux get the same verdict
abbrev pub CleanIsTrue : Type 0
CleanIsTrue =
    (programs : List (List Insn)) → AllValid programs → (is_spent : Bool) (pieces : List Piece) (notes : List ℕ)
    → IsLint programs is_spent Holds pieces notes → some_has concern.Stricter pieces ≡ false → IsClean programs

-- filters that are followed are decided, unless steps were spent
abbrev pub FollowedLintIsDecided : Type 0
FollowedLintIsDecided =
    (programs : List (List Insn)) (finding : Finding) (pieces : List Piece) (notes : List ℕ) → All AreFollowed programs
    → IsLint programs false finding pieces notes → finding ≡ Undecided → ⊥

-- what is said only of calls that have the sign of an int in an argument's upper half is not left out, though it be stricter
abbrev pub SignsAreTold : Type 0
SignsAreTold =
    (relation : Relation) (old new : List (List Insn)) (numbers : Numbers) (part : Part) (it : Verdicts) (shown : Record) (i : ℕ) → i < 6
    → HoldsOf relation old new numbers part → part.outcome ≡ Apart it shown → is_int (kind_of shown.nr i) ≡ true
    → ((call : Record) → IsCallOf numbers.first numbers.last call → meets_calls part.calls call ≡ true → upper_of call i ≡ 0xffffffff)
    → concern_of part ≡ concern.Stricter → ⊥
