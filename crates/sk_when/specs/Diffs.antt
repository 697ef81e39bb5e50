-- What a comparison of two chains for an architecture is, and what it says of every call. A call of x86-64 stands there for the
-- same call of the architecture, by the law `ChainsForArchitectures` of sk_survey.
use Rattle.std.specs.Prelude.{◌≡◌, ◌^◌, ◌<◌, Bool, true, false, List}
use Rattle.std.specs.List.{All}
use Rattle.sk_names.specs.declared.architecture.Architecture.{Architecture}
use Rattle.sk_insn.specs.declared.insn.Insn.{Insn}
use Rattle.sk_insn.specs.declared.record.Record.{Record}
use Rattle.sk_insn.specs.Record.{IsNative}
use Rattle.sk_conditions.specs.declared.standing.Relation.{Relation}
use Rattle.sk_conditions.specs.Comparing.{is_reflexive}
use Rattle.sk_when.specs.declared.diff_engine.Finding.{Finding}
use Rattle.sk_when.specs.declared.diff_engine.Finding.TheVariants.{Holds, Fails, Undecided}
use Rattle.sk_when.specs.declared.piece.Piece.{Piece}
use Rattle.sk_conditions.specs.Followed.{AreFollowed}
use Rattle.sk_when.specs.Pieces.{AreCompared, AreDecided, NamedAreAloneIn, finding_of, stands_on}

-- pieces of all numbers were compared, those with a name on the architecture each alone, and this is what is found of them;
-- where the filters are followed, and the steps of no piece were spent, each part is decided; and where each verdict stands so to itself,
-- it is found of the same filters that the relation holds, whatever they do
pub record IsComparison (architecture : Architecture) (relation : Relation) (old new : List (List Insn)) (is_spent : Bool) (finding : Finding)
    (pieces : List Piece) : Type 0 where
  pub compared : AreCompared relation old new 0 (2 ^ 32) pieces
  pub alone : All (NamedAreAloneIn architecture) pieces
  pub decided : All AreFollowed old → All AreFollowed new → is_spent ≡ false → All AreDecided pieces
  pub stands : finding ≡ finding_of pieces
  pub same : is_reflexive relation ≡ true → old ≡ new → finding ≡ Holds

-- where it is found that the relation holds, it does on every call of x86-64
abbrev pub HoldsOnEveryCall : Type 0
HoldsOnEveryCall =
    (architecture : Architecture) (relation : Relation) (old new : List (List Insn)) (is_spent : Bool) (pieces : List Piece)
    → IsComparison architecture relation old new is_spent Holds pieces
    → (call : Record) → IsNative call → call.nr < 2 ^ 32 → stands_on relation old new call ≡ true

-- where it is found that it fails, it does on some call of x86-64
abbrev pub FailsOnACall : Type 0
FailsOnACall =
    (architecture : Architecture) (relation : Relation) (old new : List (List Insn)) (is_spent : Bool) (pieces : List Piece)
    → IsComparison architecture relation old new is_spent Fails pieces
    → (call : Record) × IsNative call × (call.nr < 2 ^ 32) × (stands_on relation old new call ≡ false)

-- of filters that are followed one of the two is found, and each part of each piece is decided, unless steps were spent
abbrev pub FollowedIsDecided : Type 0
FollowedIsDecided =
    (architecture : Architecture) (relation : Relation) (old new : List (List Insn)) (finding : Finding) (pieces : List Piece)
    → All AreFollowed old → All AreFollowed new → IsComparison architecture relation old new false finding pieces
    → (finding ≡ Undecided → ⊥) × All AreDecided pieces
