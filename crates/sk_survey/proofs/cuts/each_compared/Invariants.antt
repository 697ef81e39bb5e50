use Rattle.std.proofs.Common.{ℕ, ◌<◌, ◌^◌, ◌⊎◌}
use Rattle.std.specs.List.{Contains}
use Rattle.sk_survey.specs.Turning.{IsTurnOf}
use Rattle.sk_survey.proofs.cuts.each_compared.Given as goal

abbrev pub invariant-loop-program : goal.invariant-loop-program
invariant-loop-program l = record {
  turns : (nr : ℕ) → nr < 2 ^ 32 → IsTurnOf l.fn.chain nr → Contains l.cuts.items nr ⊎ IsTurnOf l.program-iterator nr;
}
