use Rattle.std.proofs.Common.{ℕ, ◌≡◌, ◌<◌, length}
use Rattle.sk_survey.specs.Cutting.{HandsOn}
use Rattle.sk_survey.proofs.taint.spread.Given as goal

abbrev pub invariant-loop-place : goal.invariant-loop-place
invariant-loop-place l = record {
  each : length l.places ≡ length l.program;
  handed : (p : ℕ) → p < l.place → HandsOn l.program l.places p;
}
