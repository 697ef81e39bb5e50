use Rattle.std.proofs.Common.{inl, inr, subst}
use Rattle.sk_survey.specs.Turning.{IsTurnOf}
use Rattle.sk_survey.proofs.cuts.each_compared.Goals as goal

pub loop-program-preserved : goal.loop-program-preserved
loop-program-preserved c = record {
  turns = λ nr fits turn. elim (c.loop-program.invariant.turns nr fits turn) [
    | inl has ↦ inl (c.in_ok-cut_in.ensures.kept nr has)
    | inr left ↦ elim (subst (λ left. IsTurnOf left nr) c.in-Some.ensures.steps left) [
      | inl here ↦ inl (c.in_ok-cut_in.ensures.turns nr fits here)
      | inr later ↦ inr later
    ]
  ];
}
