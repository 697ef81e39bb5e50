-- What the rows of a survey tell of the pieces between the numbers at which tests turn.
use Rattle.std.specs.Prelude.{ℕ, ◌≡◌, ◌+◌, ◌^◌, ◌≤◌, ◌<◌, ◌⊎◌, List}
use Rattle.std.specs.List.{All, Contains}
use Rattle.sk_insn.specs.declared.insn.Insn.{Insn}
use Rattle.sk_survey.specs.declared.rows.Row.{Row}
use Rattle.sk_survey.specs.Cutting.{AreMany}
use Rattle.sk_survey.specs.Surveys.{Holds}
use Rattle.sk_survey.specs.Turning.{IsTurnOf}

-- the numbers between two cuts
pub record IsPiece (cuts : List ℕ) (first last : ℕ) : Type 0 where
  pub begins : (first ≡ 0) ⊎ Contains cuts first
  pub ends : (last + 1 ≡ 2 ^ 32) ⊎ Contains cuts (last + 1)
  pub uncut : All (λ cut. (cut ≤ first) ⊎ (last < cut)) cuts

-- what a row tells holds of each piece of it too
abbrev pub HoldsInPieces : List (List Insn) → List ℕ → Row → Type 0
HoldsInPieces programs cuts row =
    (first last : ℕ) → row.first ≤ first → first ≤ last → last ≤ row.last → IsPiece cuts first last
    → Holds programs (record row { first = first; last = last })

-- so it is in the pieces between the numbers at which tests turn, unless these are too many
abbrev pub HoldBetweenTurns : List (List Insn) → List ℕ → List Row → Type 0
HoldBetweenTurns programs alone rows =
    (cuts : List ℕ)
    × ((nr : ℕ) → nr < 2 ^ 32 → IsTurnOf programs nr → Contains cuts nr ⊎ AreMany cuts alone programs)
    × All (HoldsInPieces programs cuts) rows
